use Rattle.std.proofs.Common.{◌+◌, drop, sym, ap, ◌∙◌, arith}
use Rattle.head.specs.MediaReads.{closes}
use Rattle.head.proofs.Quotes.{closes_protected, closes-more, closes_quote, closes-ends}
use Rattle.head.proofs.media.parts.is_closed.Goals as goal
use Rattle.head.proofs.media.parts.is_closed.Goals.{then-protected, else-protected+else-b-eq34}

pub returns-then-b-eq34 : goal.returns-then-b-eq34
returns-then-b-eq34 c =
    let s = c.args.text.now in
    let i = c.loop-i.i in
    closes_quote s i (omega arith) c.if-b-eq34.true ∙ ap (closes (drop i s)) (sym c.if-protected.false) ∙ c.loop-i.invariant

pub loop-i-preserved : goal.loop-i-preserved
loop-i-preserved c =
    let s = c.args.text.now in
    let i = c.loop-i.i in
    elim c.if-protected.branch [
      | then-protected w ↦ ap (closes (drop (i + 1) s)) w.protected-is ∙ closes_protected s i (omega arith) ∙ ap (closes (drop i s)) (sym w.if-protected.true) ∙ c.loop-i.invariant
      | else-protected+else-b-eq34 w ↦ ap (closes (drop (i + 1) s)) w.protected-is ∙ closes-more s i (omega arith) w.if-b-eq34.false ∙ ap (closes (drop i s)) (sym w.if-protected.false) ∙ c.loop-i.invariant
    ]

pub returns : goal.returns
returns c = sym (closes-ends c.args.text.now c.loop-i.i c.loop-i.protected (omega arith)) ∙ c.loop-i.invariant
