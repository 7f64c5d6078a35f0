use Rattle.std.proofs.Common.{arith}
use Rattle.coding.proofs.QuotedTokens.{itself}
use Rattle.coding.proofs.quoted.runs.is_itself.Goals as goal

pub returns : goal.returns
returns c t = itself c.args.b c.args.next (omega arith) (omega arith) (rw (c.from.ensures, c.from-2.ensures) at t)
