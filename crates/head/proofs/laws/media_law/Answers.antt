use Rattle.head.proofs.Canonical.{reads_back}
use Rattle.head.proofs.laws.media_law.Goals as goal

pub returns : goal.returns
returns c = reads_back
