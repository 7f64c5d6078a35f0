use Rattle.std.proofs.Common.{◌<◌, ◌⊎◌, inl, inr, length}
use Rattle.coding.specs.Buffers.{items}
use Rattle.coding.proofs.Feeding.{some_ready}
use Rattle.decode.proofs.Steps.{fed, stuck}
use Rattle.decode.proofs.whole.feed_all.Goals as goal
use Rattle.decode.proofs.whole.feed_all.Goals.{then-from-raw, else-from-raw+then-is_ready}

pub returns-then-fed-eq0 : goal.returns-then-fed-eq0
returns-then-fed-eq0 c =
    let ready = items c.loop-from.decoder.ready in
    let left : (c.loop-from.from < length c.args.raw.now) ⊎ (0 < length ready) = elim c.if-from-raw.branch [
      | then-from-raw w ↦ inl w.if-from-raw.true
      | else-from-raw+then-is_ready w ↦ inr (some_ready w.is_ready.result ready w.is_ready.ensures w.if-is_ready.true)
    ] in
    stuck c.loop-from.invariant c.loop-from.auto.out c.feed-fed.auto.out c.requires c.feed-fed.ensures.feeds left c.if-fed-eq0.true

pub loop-from-preserved : goal.loop-from-preserved
loop-from-preserved c = fed c.loop-from.invariant c.loop-from.auto.out c.feed-fed.auto.out c.feed-fed.ensures.feeds
