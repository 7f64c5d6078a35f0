use Rattle.std.proofs.Common.{◌∙◌, rules, tests}
use Rattle.std.proofs.lemmas.Iterator.{YieldsList-from_slice}
use Rattle.std.proofs.lemmas.Iterator.Search.{any_from_yields_List}
use Rattle.head.proofs.LineTests.{bad, any_bad}
use Rattle.head.proofs.faults.is_unclean.Goals as goal

pub returns : goal.returns
returns c =
    let s = c.args.line.now in
    any_from_yields_List bad _ _ _ c.any.ensures.ran (YieldsList-from_slice s cc) (λ x b q k. search (rules, tests)) ∙ any_bad s
