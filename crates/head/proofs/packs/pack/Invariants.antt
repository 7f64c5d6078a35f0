use Rattle.std.proofs.Common.{length}
use Rattle.head.proofs.Packings.{SoFar}
use Rattle.head.proofs.packs.pack.Given as goal

abbrev pub invariant-loop-rest : goal.invariant-loop-rest
invariant-loop-rest l = SoFar l.head l.rest l.initial.packer l.packer l.table l.n

abbrev pub decreases-loop-rest : goal.decreases-loop-rest
decreases-loop-rest l = length l.rest
