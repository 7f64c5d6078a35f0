use Rattle.std.proofs.Common.{◌≡◌}
use Rattle.chunked.specs.Reading.{framing, pending}
use Rattle.chunked.proofs.reader.Chunked.settle.Given as goal

abbrev pub invariant-loop-left : goal.invariant-loop-left
invariant-loop-left g l = framing g.S.Source.meaning l.self ≡ framing g.S.Source.meaning l.initial.self

abbrev pub decreases-loop-left : goal.decreases-loop-left
decreases-loop-left g l = pending g.S.Source.meaning l.self
