use Rattle.std.proofs.Common.{◌≡◌, ℕ, ◌+◌, ◌<◌, ◌≤◌, List, ◌∷◌, length, get_or, sym, ap, ◌∙◌, arith, rules, tests}
use Rattle.std.proofs.lemmas.List.{take_rest, drop_more, drop_all}
use Rattle.std.proofs.lemmas.Iterator.{IsFirst-from_position, YieldsList-from_slice}
use Rattle.std.proofs.option.Match.{if_some, if_none}
use Rattle.std.specs.List.{AllWithin}
use Rattle.source.specs.Slices.{cut}
use Rattle.source.proofs.Cuts.{cut_passed, cut_all, cut-none}
use Rattle.source.proofs.parcels.Parcels.go_on.Goals as goal

pub returns-in-Some-clause-same : goal.returns-in-Some-clause-same
returns-in-Some-clause-same c =
    let self = c.args.self.now in
    let s = self.block.rest.now in
    let ns = self.lengths.now in
    let i = c.in-Some.i in
    let z : self.left ≡ 0 = omega arith in
    let first = if_some _ _ _ c.in-Some.is (IsFirst-from_position _ _ _ (λ n. 0 < n) (λ n. n ≡ 0) c.position.ensures.ran (YieldsList-from_slice ns c.iter.ensures.rest) (λ x q k. search (rules, tests)) (λ x q k. search (rules, tests))) in
    ap (λ (l : List ℕ). cut (get_or ns i 0 ∷ l) s) (take_rest ns (i + 1)) ∙ ap (λ (l : List ℕ). cut l s) (sym (drop_more ns i 0 first.0))
    ∙ sym (cut_passed ns i s (omega (arith, first.0)) first.2) ∙ sym (cut-none self.left ns s z)

pub returns-in-None-clause-same : goal.returns-in-None-clause-same
returns-in-None-clause-same c =
    let self = c.args.self.now in
    let s = self.block.rest.now in
    let ns = self.lengths.now in
    let z : self.left ≡ 0 = omega arith in
    let fits : length s ≤ 18446744073709551615 = search rules in
    let none : AllWithin (λ n. n ≡ 0) ns 0 (length ns) = if_none _ _ c.in-None.is (IsFirst-from_position _ _ _ (λ n. 0 < n) (λ n. n ≡ 0) c.position.ensures.ran (YieldsList-from_slice ns c.iter.ensures.rest) (λ x q k. search (rules, tests)) (λ x q k. search (rules, tests))) in
    cut_all 18446744073709551615 s fits ∙ ap (λ (l : List ℕ). cut l s) (sym (drop_all (length ns) ns (omega arith)))
    ∙ sym (cut_passed ns (length ns) s (omega arith) none) ∙ sym (cut-none self.left ns s z)
