use Rattle.std.proofs.Common.{not, sym, ◌∙◌, arith, rules, tests}
use Rattle.std.proofs.lemmas.Iterator.{YieldsList-from_slice}
use Rattle.std.proofs.lemmas.Iterator.Search.{position_from_yields_List}
use Rattle.std.proofs.lemmas.Bool.Decides.{nat_tests}
use Rattle.head.specs.Judging.{name_byte}
use Rattle.head.proofs.LineTests.{name_found, name_open}
use Rattle.head.proofs.faults.is_field.Goals as goal

pub returns-then-len-gt0 : goal.returns-then-len-gt0
returns-then-len-gt0 c =
    let s = c.args.line.now in
    let h = name_found s c.in-Some.len
    (sym c.in-Some.is ∙ position_from_yields_List (λ b. not (name_byte b)) _ _ c.position.result c.position.ensures.ran (YieldsList-from_slice s cc) (λ x b q k. search (rules, tests))) in
    grind (arith, nat_tests)

pub returns-else-len-gt0 : goal.returns-else-len-gt0
returns-else-len-gt0 c =
    let s = c.args.line.now in
    let h = name_found s c.in-Some.len
    (sym c.in-Some.is ∙ position_from_yields_List (λ b. not (name_byte b)) _ _ c.position.result c.position.ensures.ran (YieldsList-from_slice s cc) (λ x b q k. search (rules, tests))) in
    grind (arith, nat_tests)

pub returns-in-None : goal.returns-in-None
returns-in-None c =
    let s = c.args.line.now in
    sym (name_open s (sym c.in-None.is ∙ position_from_yields_List (λ b. not (name_byte b)) _ _ _ c.position.ensures.ran (YieldsList-from_slice s cc) (λ x b q k. search (rules, tests))))
