use Rattle.std.proofs.Common.{length}
use Rattle.head.proofs.Joining.{MoreSoFar}
use Rattle.head.proofs.packs.Packer.put_more.Given as goal

abbrev pub invariant-loop-line : goal.invariant-loop-line
invariant-loop-line l = MoreSoFar l.base l.text l.rest l.initial.self l.self

abbrev pub decreases-loop-line : goal.decreases-loop-line
decreases-loop-line l = length l.rest
