use Rattle.std.proofs.Common.{length}
use Rattle.byte_lines.specs.Bytes.{Bytes}
use Rattle.scan.specs.Streams.{Moves, raw_left}
use Rattle.scan.proofs.scans.Scan.skip_body.Given as goal

abbrev pub invariant-loop-self : goal.invariant-loop-self
invariant-loop-self g l = (x : Bytes) × Moves g.S.Source.meaning l.initial.self l.self x

abbrev pub decreases-loop-self : goal.decreases-loop-self
decreases-loop-self g l = length (raw_left g.S.Source.meaning l.self)
