-- The first line of a text.
use Rattle.std.proofs.Common.{◌≡◌, ℕ, zero, suc, ◌-◌, ◌≤◌, true, false, ◌&&◌, eqb, ◌⊎◌, List, [], ◌∷◌, ◌++◌, length, take, sym, refl, ap, ◌∙◌, inl, inr, arith}
use lib.Seq.{take-nil}
use Rattle.std.proofs.lemmas.Bool.{cases_eq}
use Rattle.std.proofs.lemmas.Bool.Decides.{eqb_tells}
use Rattle.byte_lines.specs.Bytes.{Bytes}
use Rattle.byte_lines.specs.Lines.{Line, lines, onto}
use Rattle.byte_lines.specs.Spans.{FirstLine}
use Rattle.byte_lines.proofs.LineLaws.{Begins, first, first_begins}
use Rattle.levels.specs.Fits.{content, leading}

pub leading_is : (s : Bytes) (l : Line) (ls : List Line) → lines s ≡ l ∷ ls → leading s ≡ l.content
unfolding leading
leading_is s l ls e = ap content e

pub first-leading : (s : Bytes) → first (lines s) ≡ leading s
unfolding leading
first-leading s = go (lines s)
  where
    go : (ls : List Line) → first ls ≡ content ls
    go [] = refl
    go (l ∷ ls) = refl

content-onto : (b : ℕ) (ls : List Line) → content (onto b ls) ≡ b ∷ content ls
content-onto b [] = refl
content-onto b (l ∷ ls) = refl

-- two bytes are CRLF or not
cases_pair : (b c : ℕ) → ((b ≡ 13) × (c ≡ 10)) ⊎ (b ≡ 13 → c ≡ 10 → ⊥)
cases_pair b c = elim (cases_eq b 13) [ inl p ↦ elim (cases_eq c 10) [ inl r ↦ inl (p, r) | inr r ↦ inr (λ _. r) ] | inr p ↦ inr (λ y _. p y) ]

no_pair : (b c : ℕ) → (b ≡ 13 → c ≡ 10 → ⊥) → (eqb c 10 && eqb b 13) ≡ false
no_pair b c h = grind (arith, eqb_tells)

pub lines-crlf : (b c : ℕ) (cs : Bytes) → b ≡ 13 → c ≡ 10 → lines (b ∷ c ∷ cs) ≡ record { content = []; ended = true } ∷ lines cs
unfolding lines
lines-crlf b c cs p r = rw (p, r, lines)

pub lines_on : (b c : ℕ) (cs : Bytes) → (b ≡ 13 → c ≡ 10 → ⊥) → lines (b ∷ c ∷ cs) ≡ onto b (lines (c ∷ cs))
unfolding lines
lines_on b c cs h = rw (no_pair b c h, lines)

-- a byte that is no CR stands in the first line
pub lines_cons : (b : ℕ) (s : Bytes) → (b ≡ 13 → ⊥) → lines (b ∷ s) ≡ onto b (lines s)
unfolding lines
lines_cons b [] h = refl
lines_cons b (c ∷ cs) h = lines_on b c cs (λ p _. h p)

pub leading-none : leading [] ≡ []
unfolding leading lines
leading-none = refl

leading_on : (b c : ℕ) (cs : Bytes) → (b ≡ 13 → c ≡ 10 → ⊥) → leading (b ∷ c ∷ cs) ≡ b ∷ leading (c ∷ cs)
unfolding leading
leading_on b c cs h = ap content (lines_on b c cs h) ∙ content-onto b (lines (c ∷ cs))

leading-crlf : (b c : ℕ) (cs : Bytes) → b ≡ 13 → c ≡ 10 → leading (b ∷ c ∷ cs) ≡ []
unfolding leading
leading-crlf b c cs p r = ap content (lines-crlf b c cs p r)

pub leading_cons : (b : ℕ) (s : Bytes) → (b ≡ 13 → ⊥) → leading (b ∷ s) ≡ b ∷ leading s
unfolding leading
leading_cons b s h = ap content (lines_cons b s h) ∙ content-onto b (lines s)

-- a text begins with its first line
pub leading-front : (s : Bytes) → Begins (leading s) s
unfolding leading
leading-front s = let f = first_begins s in (f.0, ap (λ (z : Bytes). z ++ f.0) (sym (first-leading s)) ∙ f.1)

-- as `first_line` finds it
pub leading-found : (s : Bytes) (len width : ℕ) → FirstLine s len width → leading s ≡ take len s
unfolding leading lines
leading-found [] len width f = sym (take-nil len)
leading-found (b ∷ s) len width f = ap content (f.splits (omega arith))

-- the first n bytes of a text have its first line, or show all of it but its last byte at most
pub leading_near : (n : ℕ) (s : Bytes) → (leading (take n s) ≡ leading s) ⊎ ((n - 1 ≤ length (leading (take n s))) × (n - 1 ≤ length (leading s)))
leading_near zero s = inr (omega arith, omega arith)
leading_near (suc n) [] = inl refl
leading_near (suc n) (b ∷ []) = inl (ap (λ (z : Bytes). leading (b ∷ z)) (take-nil n))
leading_near (suc zero) (b ∷ c ∷ cs) = inr (omega arith, omega arith)
leading_near (suc (suc n)) (b ∷ c ∷ cs) =
    elim (cases_pair b c) [
      | inl y ↦ inl (leading-crlf b c (take n cs) y.0 y.1 ∙ sym (leading-crlf b c cs y.0 y.1))
      | inr y ↦ elim (leading_near (suc n) (c ∷ cs)) [
        | inl e ↦ inl (leading_on b c (take n cs) y ∙ ap (λ (z : Bytes). b ∷ z) e ∙ sym (leading_on b c cs y))
        | inr h ↦ inr (omega (arith, h.0, ap length (leading_on b c (take n cs) y)), omega (arith, h.1, ap length (leading_on b c cs y)))
      ]
    ]
