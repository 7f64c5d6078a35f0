use Rattle.std.proofs.Common.{◌+◌, ◌-◌, length}
use Rattle.coding.specs.Decoders.{meaning}
use Rattle.decode.proofs.Steps.{SoFar}
use Rattle.decode.proofs.whole.feed_all.Given as goal

abbrev pub invariant-loop-from : goal.invariant-loop-from
invariant-loop-from l = SoFar (meaning l.initial.decoder) (meaning l.decoder) l.raw l.from l.initial.out l.out l.to

-- the raw bytes and the room that are left
abbrev pub decreases-loop-from : goal.decreases-loop-from
decreases-loop-from l = (length l.raw - l.from) + (length l.initial.out - l.to)
