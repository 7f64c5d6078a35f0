use Rattle.std.proofs.Common.{◌-◌, take, ◌∙◌, arith}
use Rattle.source.proofs.Pulling.{given}
use Rattle.transfer.proofs.Steps.{took}
use Rattle.transfer.proofs.drains.drain.Goals as goal

pub loop-buffer-preserved : goal.loop-buffer-preserved
loop-buffer-preserved g c =
    let k = c.min-room.result - 0 in
    let m = g.S.Source.meaning c.loop-buffer.source in
    let m' = g.S.Source.meaning c.pull.new.self in
    let buffer = c.loop-buffer.buffer in
    took m m' (g.K.Sink.meaning c.loop-buffer.sink) (g.K.Sink.meaning c.take.new.self) _ k c.in-Ok.n buffer c.pull.new.buffer
    (given m (take k buffer) c.in-Ok.n m' c.pull.new.buffer c.in-Ok.ensures) (omega (arith, c.space.ensures)) (omega arith) c.take.ensures
    ∙ c.loop-buffer.invariant
