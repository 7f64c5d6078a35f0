use Rattle.std.proofs.Common.{◌≡◌, ◌+◌, length, take, drop, fold}
use Rattle.sink.specs.Values.{written}
use Rattle.sink.proofs.store.takes.StoreSink.take.Given as goal

abbrev pub invariant-loop-b : goal.invariant-loop-b
invariant-loop-b l =
    (l.self.used ≡ l.initial.self.used + l.b-index)
    × (take l.self.used l.self.buffer.now ≡ fold written (take l.initial.self.used l.initial.self.buffer.now) (take l.b-index l.bytes))
    × (drop l.self.used l.self.buffer.now ≡ drop l.b-index (drop l.initial.self.used l.initial.self.buffer.now))
    × (length l.self.buffer.now ≡ length l.initial.self.buffer.now)
    × (l.self.buffer.ghost_name ≡ l.initial.self.buffer.ghost_name)
