use Rattle.std.proofs.Common.{◌+◌, arith}
use Rattle.coding.specs.Buffers.{items}
use Rattle.coding.specs.Modes.{later_by}
use Rattle.coding.proofs.Feeding.{none-ready, some_ready, gave-waiting, ran}
use Rattle.coding.proofs.decoder.Decoder.feed.Goals as goal

pub returns-then-is_ready-clause-feeds : goal.returns-then-is_ready-clause-feeds
returns-then-is_ready-clause-feeds c =
    let s = c.args.self.now in
    let e = c.give-given.ensures in
    gave-waiting (items s.ready) c.args.out.now c.give-given.new.out c.args.raw.now (later_by s.mode s.at) s.at c.give-given.result _
    (some_ready c.is_ready.result (items s.ready) c.is_ready.ensures c.if-is_ready.true) e.count e.rest e.filled

pub returns-then-fed-gt0-clause-feeds : goal.returns-then-fed-gt0-clause-feeds
returns-then-fed-gt0-clause-feeds c =
    let s = c.args.self.now in
    let e = c.run-fed.ensures in
    ran (items s.ready) c.args.out.now c.run-fed.new.out c.args.raw.now (later_by s.mode s.at) (later_by s.mode (s.at + c.run-fed.result.taken)) s.at c.min-most.result
    c.run-fed.result.taken c.run-fed.result.given (none-ready c.is_ready.result (items s.ready) c.is_ready.ensures c.if-is_ready.false)
    (omega arith) e.took e.gave c.if-fed-gt0.true e.kept (e.whole s.at)
