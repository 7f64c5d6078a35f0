use Rattle.std.proofs.Common.{◌≡◌, ◌+◌, take, fold}
use Rattle.sink.specs.Values.{counted}
use Rattle.sink.proofs.tally.takes.TallySink.take.Given as goal

abbrev pub invariant-loop-b : goal.invariant-loop-b
invariant-loop-b l =
    (l.self.count ≡ l.initial.self.count + l.b-index)
    × (fold counted (record { count = l.initial.self.count; sum = l.initial.self.sum }) (take l.b-index l.bytes) ≡ (record { count = l.self.count; sum = l.self.sum }))
