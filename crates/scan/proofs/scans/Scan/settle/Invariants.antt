use Rattle.std.proofs.Common.{[]}
use Rattle.scan.specs.Streams.{Moves, weight}
use Rattle.scan.proofs.scans.Scan.settle.Given as goal

abbrev pub invariant-loop : goal.invariant-loop
invariant-loop g l = Moves g.S.Source.meaning l.initial.self l.self []

abbrev pub decreases-loop : goal.decreases-loop
decreases-loop g l = weight g.S.Source.meaning l.self
