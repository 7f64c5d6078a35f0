use Rattle.std.proofs.Common.{arith}
use Rattle.coding.proofs.Feeding.{copied}
use Rattle.coding.proofs.decoder.modes.ModeCoder.run.Goals as goal

pub returns-in-Plain-clause-whole : goal.returns-in-Plain-clause-whole
returns-in-Plain-clause-whole c = λ at q e. rw (c.in-Plain.is, c.copy_from_slice.ensures.after) (copied c.min-n.result c.args.raw.now c.args.out.now q e (omega arith))
