use Rattle.std.proofs.Common.{ap}
use Rattle.coding.specs.Decoding.{Decoded}
use Rattle.coding.specs.Buffers.{items}
use Rattle.coding.specs.Modes.{later_by}
use Rattle.coding.proofs.Endings.{ends_as_input}
use Rattle.coding.proofs.Feeding.{some_ready, still_waiting, open_ended}
use Rattle.coding.proofs.decoder.Decoder.outcome.Goals as goal

pub returns-then-is_ready : goal.returns-then-is_ready
returns-then-is_ready c = λ x settled.
    let s = c.args.self.now in
    still_waiting (items s.ready) (later_by s.mode s.at) x (some_ready c.is_ready.result (items s.ready) c.is_ready.ensures c.if-is_ready.true) settled

pub returns-in_default : goal.returns-in_default
returns-in_default c = λ x settled.
    let s = c.args.self.now in
    open_ended (later_by s.mode s.at) x (ends_as_input s.mode s.at c.in_default.not-Ended) (λ raw e. ap (λ (d : Decoded). d.ending) (settled raw e))
