use Rattle.std.proofs.Common.{◌≡◌, length}
use Rattle.transfer.specs.Drains.{drained}
use Rattle.transfer.proofs.drains.drain.Given as goal

abbrev pub invariant-loop-buffer : goal.invariant-loop-buffer
invariant-loop-buffer g l =
    drained (g.S.Source.meaning l.source) (g.K.Sink.meaning l.sink) ≡ drained (g.S.Source.meaning l.initial.source) (g.K.Sink.meaning l.initial.sink)

abbrev pub decreases-loop-buffer : goal.decreases-loop-buffer
decreases-loop-buffer g l = length (g.S.Source.meaning l.source).coming
