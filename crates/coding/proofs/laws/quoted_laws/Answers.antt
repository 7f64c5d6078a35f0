use Rattle.coding.proofs.QuotedLonger.{never_longer_lem}
use Rattle.coding.proofs.QuotedBack.{escaped_back}
use Rattle.coding.proofs.QuotedPlain.{plain_is_itself}
use Rattle.coding.proofs.laws.quoted_laws.Goals as goal

pub returns : goal.returns
returns c = record { shorter = never_longer_lem; back = escaped_back; plain = plain_is_itself }
