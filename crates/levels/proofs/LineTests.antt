-- A line against the open groups.
use Rattle.std.proofs.Common.{◌≡◌, ℕ, zero, suc, ◌+◌, ◌<◌, ◌≤◌, min, Bool, true, false, cond, ◌⊎◌, List, [], ◌∷◌, ◌++◌, length, map, reverse, take, drop, Some, None, Option, sym, refl, ap, ◌∙◌, inl, inr, append-nil, add-one, arith, length-append, length-take}
use lib.Seq.{take-append-le}
use Rattle.std.specs.Str.{bytes_eq}
use Rattle.std.proofs.lemmas.List.{take_all, drop_all}
use Rattle.std.proofs.lemmas.Slice.Eq.{bytes_eq-Decides}
use Rattle.std.proofs.lemmas.Bool.{eq-eqb, cases_lt}
use Rattle.byte_lines.specs.Bytes.{Bytes}
use Rattle.byte_lines.specs.Spans.{FirstLine}
use Rattle.message.specs.Groups.{Group, hyphens, separator, closing_line, Role, separates, closes, text, inside, role, fits}
use Rattle.levels.specs.declared.levels.Level.{Level}
use Rattle.levels.specs.declared.levels.Levels.{Levels}
use Rattle.levels.specs.declared.levels.Fit.{Fit}
use Rattle.levels.specs.declared.levels.Fit.TheVariants.{Separates, Closes}
use Rattle.levels.specs.declared.levels.fits.Mark.{Mark}
use Rattle.levels.specs.declared.levels.fits.Mark.TheVariants.{Separator, Closing}
use Rattle.levels.specs.Opened.{group_of, groups}
use Rattle.levels.specs.Fits.{located, fit_role, FitsIn, mark_of, leading}
use Rattle.levels.proofs.LeadingLines.{leading_cons, leading-front, leading-found, leading_near}

-- One group.

not_same : (xs ys : Bytes) → (xs ≡ ys → ⊥) → bytes_eq xs ys ≡ false
not_same xs ys h = grind (arith, bytes_eq-Decides)

same_tail : (b s t : Bytes) → bytes_eq (b ++ s) (b ++ t) ≡ bytes_eq s t
same_tail [] s t = refl
same_tail (x ∷ b) s t = rw (eq-eqb x x refl) (same_tail b s t)

pub mark_tail : (b s t : Bytes) → s ≡ b ++ t → mark_of b s ≡ mark_of [] t
mark_tail b s t e =
    ap (mark_of b) e
    ∙ ap (λ (q : Bool). cond q (Some Separator) (cond (bytes_eq (b ++ hyphens) (b ++ t)) (Some Closing) None)) (ap (λ (y : Bytes). bytes_eq y (b ++ t)) (sym (append-nil b)) ∙ same_tail b [] t)
    ∙ ap (λ (q : Bool). cond (bytes_eq [] t) (Some Separator) (cond q (Some Closing) None)) (same_tail b hyphens t)

pub mark_none : (b s : Bytes) → ((t : Bytes) → s ≡ b ++ t → ⊥) → mark_of b s ≡ None
mark_none b s h =
    ap (λ (q : Bool). cond q (Some Separator) (cond (bytes_eq (b ++ hyphens) s) (Some Closing) None)) (not_same b s (λ e. h [] (sym e ∙ sym (append-nil b))))
    ∙ ap (λ (q : Bool). cond q (Some Closing) None) (not_same (b ++ hyphens) s (λ e. h hyphens (sym e)))

-- All groups.

-- f seen from inside the first i groups
abbrev pub deepened : ℕ → List Group → Role → Role
deepened zero gs f = f
deepened (suc i) [] f = f
deepened (suc i) (g ∷ gs) f = inside g (deepened i gs f)

deepened-located : (make : List Group → Group → List Group → Role) (i : ℕ) (gs : List Group) (g : Group) (around : List Group)
    → drop i gs ≡ g ∷ around → deepened i gs (make [] g around) ≡ located make i gs
deepened-located make zero [] g around e = absurd (omega (arith, ap length e))
deepened-located make zero (h ∷ gs) g around e = cc
deepened-located make (suc i) [] g around e = absurd (omega (arith, ap length e))
deepened-located make (suc i) (h ∷ gs) g around e = ap (inside h) (deepened-located make i gs g around e)

deepened_next : (i : ℕ) (gs : List Group) (g : Group) (around : List Group) (f : Role) → drop i gs ≡ g ∷ around → deepened (suc i) gs f ≡ deepened i gs (inside g f)
deepened_next zero [] g around f e = absurd (omega (arith, ap length e))
deepened_next zero (h ∷ gs) g around f e = let same : h ≡ g = cc in ap (λ (x : Group). inside x f) same
deepened_next (suc i) [] g around f e = absurd (omega (arith, ap length e))
deepened_next (suc i) (h ∷ gs) g around f e = ap (inside h) (deepened_next i gs g around f e)

-- the role of a line that is to the group g as m says, with that role in the groups around it
abbrev by_mark : Option Mark → Group → List Group → Role → Role
by_mark (Some Separator) g gs f = separates [] g gs
by_mark (Some Closing) g gs f = closes [] g gs
by_mark None g gs f = inside g f

choose : (p q : Bool) (g : Group) (gs : List Group) (f : Role)
    → elim p [ true ↦ separates [] g gs | false ↦ elim q [ true ↦ closes [] g gs | false ↦ inside g f ] ] ≡ by_mark (cond p (Some Separator) (cond q (Some Closing) None)) g gs f
choose true q g gs f = refl
choose false true g gs f = refl
choose false false g gs f = refl

role-step : (g : Group) (gs : List Group) (s : Bytes) → role (g ∷ gs) (45 ∷ (45 ∷ s)) ≡ by_mark (mark_of g.boundary s) g gs (role gs (45 ∷ (45 ∷ s)))
unfolding role
role-step g gs s = choose (bytes_eq g.boundary s) (bytes_eq (g.boundary ++ hyphens) s) g gs _

-- the groups gs, of which the first i do not fit the line that has s deepened its two hyphens
abbrev pub Passed : List Group → Bytes → ℕ → Type 0
Passed gs s i = deepened i gs (role (drop i gs) (45 ∷ (45 ∷ s))) ≡ role gs (45 ∷ (45 ∷ s))

module _ (gs : List Group) (s : Bytes) (i : ℕ) (g : Group) (at : drop i gs ≡ g ∷ drop (suc i) gs) (passed : Passed gs s i) where
  step_by : (m : Option Mark) → m ≡ mark_of g.boundary s → deepened i gs (by_mark m g (drop (suc i) gs) (role (drop (suc i) gs) (45 ∷ (45 ∷ s)))) ≡ role gs (45 ∷ (45 ∷ s))
  step_by m e =
      ap (λ (x : Option Mark). deepened i gs (by_mark x g (drop (suc i) gs) (role (drop (suc i) gs) (45 ∷ (45 ∷ s))))) e
      ∙ ap (deepened i gs) (sym (role-step g (drop (suc i) gs) s))
      ∙ ap (λ (hs : List Group). deepened i gs (role hs (45 ∷ (45 ∷ s)))) (sym at)
      ∙ passed

  pub fits-separator : Some Separator ≡ mark_of g.boundary s → fit_role gs (Separates i) ≡ role gs (45 ∷ (45 ∷ s))
  fits-separator e = sym (deepened-located (λ d h a. separates d h a) i gs g (drop (suc i) gs) at) ∙ step_by (Some Separator) e

  pub fits-closing : Some Closing ≡ mark_of g.boundary s → fit_role gs (Closes i) ≡ role gs (45 ∷ (45 ∷ s))
  fits-closing e = sym (deepened-located (λ d h a. closes d h a) i gs g (drop (suc i) gs) at) ∙ step_by (Some Closing) e

  pub passes_on : None ≡ mark_of g.boundary s → Passed gs s (i + 1)
  passes_on e =
      ap (λ (k : ℕ). deepened k gs (role (drop k gs) (45 ∷ (45 ∷ s)))) (add-one i)
      ∙ deepened_next i gs g (drop (suc i) gs) (role (drop (suc i) gs) (45 ∷ (45 ∷ s))) at
      ∙ step_by None e

deepened_text : (i : ℕ) (gs : List Group) → deepened i gs text ≡ text
deepened_text zero gs = refl
deepened_text (suc i) [] = refl
deepened_text (suc i) (g ∷ gs) = ap (inside g) (deepened_text i gs)

pub fits-none : (gs : List Group) (s : Bytes) (i : ℕ) → length gs ≤ i → Passed gs s i → text ≡ role gs (45 ∷ (45 ∷ s))
unfolding role
fits-none gs s i h passed =
    sym (deepened_text i gs) ∙ ap (λ (hs : List Group). deepened i gs (role hs (45 ∷ (45 ∷ s)))) (sym (drop_all i gs h)) ∙ passed

-- an answer within the depth names a group, with so many deeper ones
pub located_is : (make : List Group → Group → List Group → Role) → ((g h : Group) (d a : List Group) → inside g (make d h a) ≡ make (g ∷ d) h a)
    → (i : ℕ) (gs : List Group) → i < length gs → (d : List Group) × (g : Group) × (a : List Group) × (located make i gs ≡ make d g a) × (length d ≡ i)
located_is make deeper i [] h = absurd (omega arith)
located_is make deeper zero (g ∷ gs) h = ([], g, gs, refl, refl)
located_is make deeper (suc i) (g ∷ gs) h =
    let r = located_is make deeper i gs (omega arith) in
    (g ∷ r.0, r.1, r.2, ap (inside g) r.3 ∙ deeper g r.1 r.0 r.2, ap suc r.4)

-- so it fits
pub fit_fits : (gs : List Group) (f : Fit) → FitsIn (length gs) f → fits (fit_role gs f) ≡ true
fit_fits gs (Separates i) h = ap fits (located_is (λ d g a. separates d g a) (λ g h d a. refl) i gs h).3
fit_fits gs (Closes i) h = ap fits (located_is (λ d g a. closes d g a) (λ g h d a. refl) i gs h).3

-- a line that does not begin with two hyphens is text
pub role_other : (gs : List Group) (s : Bytes) → ((t : Bytes) → s ≡ 45 ∷ (45 ∷ t) → ⊥) → role gs s ≡ text
unfolding role
role_other [] s h = refl
role_other (g ∷ gs) s h = rw (not_same (separator g) s (λ e. h _ (sym e)), not_same (closing_line g) s (λ e. h _ (sym e)), role_other gs s h)

-- and so is one that is longer than any line of a group
role_long : (ls : List Level) (s : Bytes) → 74 < length s → role (map group_of ls) s ≡ text
unfolding role
role_long [] s h = refl
role_long (l ∷ ls) s h =
    let g : Group = group_of l in
    let short : length g.boundary ≤ 70 = simp length-take (omega (arith, l.boundary.fits)) in
    rw (
      not_same (separator g) s (λ e. omega (arith, ap length e)),
      not_same (closing_line g) s (λ e. omega (arith, ap length e, length-append g.boundary hyphens)),
      role_long ls s h,
    )

pub long_text : (ls : Levels) (s : Bytes) → 74 < length s → role (groups ls) s ≡ text
unfolding groups
long_text ls s h = role_long (reverse (take ls.count ls.slots)) s h

-- What a view decides.
module _ (ls : Levels) (v q : Bytes) (all : length v < 76 → q ≡ []) where
  near_by : (n : ℕ) → n ≡ min (length v) 76 → (length v < 76) ⊎ (76 ≤ length v) → role (groups ls) (leading (take n v)) ≡ role (groups ls) (leading (v ++ q))
  near_by n e (inl h) =
      ap (λ (z : Bytes). role (groups ls) (leading z)) (take_all n v (omega arith) ∙ sym (append-nil v) ∙ ap (λ (z : Bytes). v ++ z) (sym (all h)))
  near_by n e (inr h) =
      let same : take 76 (v ++ q) ≡ take n v = take-append-le 76 v q h ∙ ap (λ (k : ℕ). take k v) {x = 76} (omega arith) in
      elim (leading_near 76 (v ++ q)) [
        | inl k ↦ ap (λ (z : Bytes). role (groups ls) (leading z)) (sym same) ∙ ap (role (groups ls)) k
        | inr k ↦
            long_text ls (leading (take n v)) (omega (arith, k.0, ap (λ (z : Bytes). length (leading z)) same))
            ∙ sym (long_text ls (leading (v ++ q)) (omega (arith, k.1)))
      ]

  pub near_decides : (n : ℕ) → n ≡ min (length v) 76 → role (groups ls) (leading (take n v)) ≡ role (groups ls) (leading (v ++ q))
  near_decides n e = near_by n e (cases_lt (length v) 76)

-- a text that does not begin with two hyphens
pub text_other : (gs : List Group) (s : Bytes) → ((t : Bytes) → s ≡ 45 ∷ (45 ∷ t) → ⊥) → text ≡ role gs (leading s)
text_other gs s h =
    let f = leading-front s in
    sym (role_other gs (leading s) (λ t e. h (t ++ f.0) (sym f.1 ∙ ap (λ (z : Bytes). z ++ f.0) e)))

-- a text that does, with t deepened them
pub leading-after : (s t : Bytes) (len width : ℕ) → s ≡ 45 ∷ (45 ∷ t) → FirstLine t len width → 45 ∷ (45 ∷ take len t) ≡ leading s
leading-after s t len width e f =
    ap (λ (z : Bytes). 45 ∷ (45 ∷ z)) (sym (leading-found t len width f))
    ∙ sym (ap leading e ∙ leading_cons 45 (45 ∷ t) (λ z. omega arith) ∙ ap (λ (z : Bytes). 45 ∷ z) (leading_cons 45 t (λ z. omega arith)))
