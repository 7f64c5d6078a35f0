-- What a search through a line's bytes tells of it.
use Rattle.std.proofs.Common.{◌≡◌, ℕ, suc, ◌+◌, Bool, true, false, cond, not, ◌&&◌, ◌||◌, eqb, ltb, [], ◌∷◌, length, get_or, Some, None, Option, sym, refl, ap, ◌∙◌, ⊎_elim, arith}
use Rattle.std.specs.List.{list_any, position_or_len}
use Rattle.std.proofs.lemmas.Bool.{cases_Bool, and_parts, and_cases, and_right, not-true, not_from_false, eq-eqb, eqb-true, eqb-false, ne_eqb, lt-ltb, both_ways}
use Rattle.std.proofs.lemmas.Bool.Decides.{nat_tests}
use Rattle.byte_lines.specs.Bytes.{Bytes}
use Rattle.byte_lines.specs.Classes.{within}
use Rattle.byte_lines.specs.Strings.{has, every, before}
use Rattle.head.specs.Fields.{is_field}
use Rattle.head.specs.Judging.{name_byte}
use Rattle.head.specs.LineFaults.{unclean}

-- a byte that makes a line unclean
abbrev pub bad : ℕ → Bool
bad b = eqb 0 b || (eqb 13 b || eqb 10 b)

mixed : (a b c x y z : Bool) → ((a || (b || c)) || (x || (y || z))) ≡ ((a || x) || ((b || y) || (c || z)))
mixed true b c x y z = refl
mixed false true c true y z = refl
mixed false true c false y z = refl
mixed false false true true y z = refl
mixed false false true false true z = refl
mixed false false true false false z = refl
mixed false false false x y z = refl

pub any_bad : (s : Bytes) → list_any bad s ≡ unclean s
any_bad [] = refl
any_bad (b ∷ s) = ap (λ (t : Bool). bad b || t) (any_bad s) ∙ mixed (eqb 0 b) (eqb 13 b) (eqb 10 b) (has 0 s) (has 13 s) (has 10 s)

-- whether a field line goes on here, behind n bytes of its name
abbrev field_from : (n : ℕ) → Bytes → Bool
field_from n s = has 58 s && (within 1 64 (n + length (before 58 s)) && every (within 33 126) (before 58 s))

-- where the name ends
abbrev pub name_end : Bytes → ℕ
name_end s = position_or_len (λ b. not (name_byte b)) s

-- by the byte at which it ends
field_by : (n b : ℕ) (s : Bytes) → name_byte b ≡ false → field_from n (b ∷ s) ≡ (eqb b 58 && within 1 64 (n + 0))
unfolding before
field_by n b s f =
    ⊎_elim (λ (y : eqb 58 b ≡ true). rw (before, y, eq-eqb b 58 (sym (eqb-true 58 b y))) (and_true (within 1 64 (n + 0))))
    (λ (z : eqb 58 b ≡ false).
    let o : within 33 126 b ≡ false = ⊎_elim (λ w. w) (λ w. absurd (both_ways (not (eqb 58 b)) w (not_from_false (eqb 58 b) z))) (and_cases (within 33 126 b) (not (eqb 58 b)) f) in
    rw (before, z, o, ne_eqb b 58 (λ q. eqb-false 58 b z (sym q))) (and_right (has 58 s) _ (and_right _ false refl)))
    (cases_Bool (eqb 58 b))
  where
    and_true : (x : Bool) → (x && true) ≡ x
    and_true true = refl
    and_true false = refl

-- whether it does, by a place of the line
abbrev told : (n : ℕ) → Bytes → (i : ℕ) → Bool
told n s i = ltb i (length s) && (eqb (get_or s i 0) 58 && within 1 64 (n + i))

told_more : (n b : ℕ) (s : Bytes) (i : ℕ) → told (n + 1) s i ≡ told n (b ∷ s) (suc i)
told_more n b s i =
    let t : ltb i (length s) ≡ ltb (suc i) (suc (length s)) = grind (arith, nat_tests) in
    let k : n + 1 + i ≡ n + suc i = omega arith in
    rw (t, k)

told_here : (n b : ℕ) (s : Bytes) → (eqb b 58 && within 1 64 (n + 0)) ≡ told n (b ∷ s) 0
told_here n b s = rw (lt-ltb 0 (suc (length s)) (omega arith))

field_is : (n : ℕ) (s : Bytes) → field_from n s ≡ told n s (name_end s)
unfolding before
field_is n [] = refl
field_is n (b ∷ s) =
    ⊎_elim
    (λ (y : name_byte b ≡ true).
    let p = and_parts (within 33 126 b) (not (eqb 58 b)) y in
    let z = not-true (eqb 58 b) p.1 in
    let m : n + suc (length (before 58 s)) ≡ n + 1 + length (before 58 s) = omega arith in
    let g : field_from n (b ∷ s) ≡ field_from (n + 1) s = rw (before, z, p.0, m) in
    let k : 1 + name_end s ≡ suc (name_end s) = omega arith in
    let e : name_end (b ∷ s) ≡ suc (name_end s) = rw y k in
    g ∙ field_is (n + 1) s ∙ told_more n b s (name_end s) ∙ ap (told n (b ∷ s)) (sym e))
    (λ (f : name_byte b ≡ false).
    let e : name_end (b ∷ s) ≡ 0 = rw f in
    field_by n b s f ∙ told_here n b s ∙ ap (told n (b ∷ s)) (sym e))
    (cases_Bool (name_byte b))

-- what the search for a byte that no name has tells
module _ (s : Bytes) where
  abbrev search_of : Option ℕ
  search_of = cond (ltb (name_end s) (length s)) (Some (name_end s)) None

  is : is_field s ≡ told 0 s (name_end s)
  is = let z : 0 + length (before 58 s) ≡ length (before 58 s) = omega arith in ap (λ (n : ℕ). has 58 s && (within 1 64 n && every (within 33 126) (before 58 s))) (sym z) ∙ field_is 0 s

  pub name_found : (i : ℕ) → Some i ≡ search_of → is_field s ≡ (eqb (get_or s i 0) 58 && within 1 64 i)
  name_found i e =
      ⊎_elim (λ (y : ltb (name_end s) (length s) ≡ true).
      let g : search_of ≡ Some (name_end s) = rw y in
      let h : i ≡ name_end s = cc in
      let z : 0 + name_end s ≡ i = omega arith in
      is ∙ rw (y, z, ← h))
      (λ (f : ltb (name_end s) (length s) ≡ false).
      let g : search_of ≡ None = rw f in cc)
      (cases_Bool (ltb (name_end s) (length s)))

  pub name_open : None ≡ search_of → is_field s ≡ false
  name_open e =
      ⊎_elim (λ (y : ltb (name_end s) (length s) ≡ true).
      let g : search_of ≡ Some (name_end s) = rw y in cc)
      (λ (f : ltb (name_end s) (length s) ≡ false). is ∙ rw f)
      (cases_Bool (ltb (name_end s) (length s)))
