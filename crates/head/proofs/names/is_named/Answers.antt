use Rattle.std.proofs.Common.{ℕ, eqb, ◌∙◌, rules, tests}
use Rattle.std.specs.Char.{to_ascii_lowercase}
use Rattle.std.proofs.lemmas.Iterator.{YieldsList-from_slice, YieldsList-from_zip}
use Rattle.std.proofs.lemmas.Iterator.Search.{all_from_yields_List}
use Rattle.head.proofs.TextScans.{named_zip}
use Rattle.head.proofs.names.is_named.Goals as goal

pub returns-then-word-text : goal.returns-then-word-text
returns-then-word-text c =
    all_from_yields_List (λ (p : ℕ × ℕ). eqb p.0 (to_ascii_lowercase p.1)) c.all.new.self _ _ c.all.ensures.ran
    (YieldsList-from_zip (YieldsList-from_slice c.args.word.now cc) (YieldsList-from_slice c.args.text.now cc)) (λ x b q k. search (rules, tests))
    ∙ named_zip c.args.word.now c.args.text.now c.if-word-text.true
