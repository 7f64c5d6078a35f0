use Rattle.std.proofs.Common.{Some, None, sym, ◌∙◌}
use Rattle.std.proofs.lemmas.Slice.Eq.{strip_prefix_is}
use Rattle.std.proofs.lemmas.Bool.Decides.{Decides-eqb}
use Rattle.levels.proofs.LineTests.{mark_tail, mark_none}
use Rattle.levels.proofs.levels.Level.mark.Goals as goal

pub returns-in_err-strip_prefix : goal.returns-in_err-strip_prefix
returns-in_err-strip_prefix c =
    let s = c.args.after.now in
    let b = c.as_bytes.result.now in
    let none = mark_none b s (strip_prefix_is Decides-eqb s b None c.in_err-strip_prefix.ensures.cases) in
    rw (c.from_residual.ensures, ← c.as_bytes.ensures) (sym none)

pub returns : goal.returns
returns c =
    let s = c.args.after.now in
    let b = c.as_bytes.result.now in
    let t = c.in_ok-strip_prefix.field-0 in
    let found = mark_tail b s t.now (strip_prefix_is Decides-eqb s b (Some t) c.in_ok-strip_prefix.ensures.cases) in
    rw (← c.as_bytes.ensures) (c.ending.ensures ∙ sym found)
