use Rattle.std.proofs.Common.{◌≡◌, rules, tests}
use Rattle.std.proofs.lemmas.Iterator.{IsFirst-from_position}
use Rattle.std.proofs.option.Match.{if_some, if_none}
use Rattle.byte_lines.specs.Lines.{crlf}
use Rattle.byte_lines.proofs.FirstLines.{Other, windows-pairs, first_ended, first_open}
use Rattle.byte_lines.proofs.lines.first_line.Goals as goal

pub returns-in-Some : goal.returns-in-Some
returns-in-Some c =
    let chain = windows-pairs c.args.text.now c.windows.ensures.rest c.windows.ensures.size in
    let first = if_some _ _ _ c.in-Some.is (IsFirst-from_position _ _ _ (λ p. p ≡ crlf) Other c.position.ensures.ran chain (λ x q k. search (rules, tests)) (λ x q k. search (rules, tests))) in
    first_ended c.args.text.now c.in-Some.len first.0 first.1 first.2

pub returns-in-None : goal.returns-in-None
returns-in-None c =
    let chain = windows-pairs c.args.text.now c.windows.ensures.rest c.windows.ensures.size in
    first_open c.args.text.now (if_none _ _ c.in-None.is (IsFirst-from_position _ _ _ (λ p. p ≡ crlf) Other c.position.ensures.ran chain (λ x q k. search (rules, tests)) (λ x q k. search (rules, tests))))
