use Rattle.std.proofs.Common.{ap, ◌∙◌, inl, inr}
use Rattle.std.proofs.lemmas.Result.{err_from_is_err_and}
use Rattle.head.specs.Summaries.{Summary}
use Rattle.head.specs.Openings.{coded_by, entity_from}
use Rattle.head.proofs.Deciding.{repeated, decided_none, decided_one}
use Rattle.head.proofs.opening.decide.Goals as goal

pub returns-in_err-coding : goal.returns-in_err-coding
returns-in_err-coding c =
    let p = err_from_is_err_and c.from_residual.result c.from_residual.ensures.1 in
    let e = c.in_err-coding.ensures in
    rw (p.1, p.2) (repeated c.args.around c.args.fields.now c.in_err-coding.field-0.0 e.0 (inr (inl e.1)))

pub returns-in_err-lookup : goal.returns-in_err-lookup
returns-in_err-lookup c =
    let p = err_from_is_err_and c.from_residual-in_err-lookup.result c.from_residual-in_err-lookup.ensures.1 in
    let e = c.in_err-lookup.ensures in
    rw (p.1, p.2) (repeated c.args.around c.args.fields.now c.in_err-lookup.field-0.0 e.0 (inr (inr e.1)))

pub returns-in_err-value : goal.returns-in_err-value
returns-in_err-value c =
    let p = err_from_is_err_and c.from_residual-in_err-value.result c.from_residual-in_err-value.ensures.1 in
    let e = c.in_err-value.ensures in
    rw (p.1, p.2) (repeated c.args.around c.args.fields.now c.in_err-value.field-0.0 e.0 (inl e.1))

pub returns-in-Some : goal.returns-in-Some
returns-in-Some c =
    let e = rw c.in-Some.is at c.in_ok-value.ensures in
    c.typed.ensures ∙ ap (λ (m : Summary). entity_from c.args.around m (coded_by c.in_ok-coding.coding)) c.read_media.ensures
    ∙ decided_one c.args.around c.args.fields.now c.in_ok-coding.coding c.in_ok-coding.ensures c.in_ok-lookup.field-0 c.in_ok-lookup.ensures c.in-Some.value.now e

pub returns-in-None : goal.returns-in-None
returns-in-None c =
    let e = rw c.in-None.is at c.in_ok-value.ensures in
    c.leaf.ensures ∙ decided_none c.args.around c.args.fields.now c.in_ok-coding.coding c.in_ok-coding.ensures c.in_ok-lookup.field-0 c.in_ok-lookup.ensures e
