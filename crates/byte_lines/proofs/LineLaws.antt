-- Laws of the lines of a text.
use Rattle.std.proofs.Common.{◌≡◌, ℕ, Bool, true, false, not, ◌&&◌, eqb, List, [], ◌∷◌, ◌++◌, refl, ap, ◌∙◌, append_assoc}
use mathlib.Core.Bool.{false≢true}
use Rattle.std.specs.List.{flat_map}
use Rattle.std.proofs.lemmas.Bool.{eqb-true}
use Rattle.byte_lines.specs.Bytes.{Bytes}
use Rattle.byte_lines.specs.Lines.{Line, line_bytes, onto, lines}

abbrev pub line : Bytes → Bool → Line
line s t = record { content = s; ended = t }

-- the text s begins with t
abbrev pub Begins : (t s : Bytes) → Type 0
Begins t s = (r : Bytes) × (t ++ r ≡ s)

pub begins_trans : (a b c : Bytes) → Begins a b → Begins b c → Begins a c
begins_trans a b c (r, p) (u, q) =
    (r ++ u, let flat : (a ++ r) ++ u ≡ a ++ (r ++ u) = append_assoc a r u in let same : (a ++ r) ++ u ≡ b ++ u = ap (λ (l : Bytes). l ++ u) p in cc)

-- what the first line holds
abbrev pub first : List Line → Bytes
first [] = []
first (l ∷ ls) = l.content

pub first-onto : (b : ℕ) (ls : List Line) → first (onto b ls) ≡ b ∷ first ls
first-onto b [] = refl
first-onto b (l ∷ ls) = refl

-- a piece of a line before the rest
abbrev pub onto_all : Bytes → List Line → List Line
onto_all [] ls = ls
onto_all (b ∷ bs) ls = onto b (onto_all bs ls)

pub first-onto_all : (p : Bytes) (ls : List Line) → first (onto_all p ls) ≡ p ++ first ls
first-onto_all [] ls = refl
first-onto_all (b ∷ bs) ls = first-onto b (onto_all bs ls) ∙ ap (λ (l : Bytes). b ∷ l) (first-onto_all bs ls)

-- no CRLF begins in p, where q follows
abbrev pub goes_on : (p q : Bytes) → Bool
goes_on [] q = true
goes_on (b ∷ []) [] = true
goes_on (b ∷ []) (c ∷ cs) = not (eqb c 10 && eqb b 13)
goes_on (b ∷ c ∷ cs) q = not (eqb c 10 && eqb b 13) && goes_on (c ∷ cs) q

step_on : (t u : Bool) (x y z : List Line) → not t && u ≡ true → (u ≡ true → y ≡ z) → elim t [ true ↦ x | false ↦ y ] ≡ z
step_on true u x y z h k = absurd (false≢true h)
step_on false u x y z h k = k h

step_last : (t : Bool) (x y : List Line) → not t ≡ true → elim t [ true ↦ x | false ↦ y ] ≡ y
step_last true x y h = absurd (false≢true h)
step_last false x y h = refl

-- such a piece goes onto the first line
pub lines_piece : (p q : Bytes) → goes_on p q ≡ true → lines (p ++ q) ≡ onto_all p (lines q)
unfolding lines
lines_piece [] q h = refl
lines_piece (b ∷ []) [] h = refl
lines_piece (b ∷ []) (c ∷ cs) h = step_last (eqb c 10 && eqb b 13) _ _ h
lines_piece (b ∷ c ∷ cs) q h = step_on (eqb c 10 && eqb b 13) (goes_on (c ∷ cs) q) _ _ _ h (λ k. ap (onto b) (lines_piece (c ∷ cs) q k))

-- a CRLF ends a line with nothing in it
pub lines_break : (q : Bytes) → lines (13 ∷ (10 ∷ q)) ≡ line [] true ∷ lines q
unfolding lines
lines_break q = refl

-- a text begins with its first line
pub first_begins : (s : Bytes) → Begins (first (lines s)) s
unfolding lines
first_begins [] = ([], refl)
first_begins (b ∷ []) = ([], refl)
first_begins (b ∷ c ∷ cs) = go (eqb c 10 && eqb b 13) (first_begins (c ∷ cs))
  where
    go : (t : Bool) → Begins (first (lines (c ∷ cs))) (c ∷ cs)
        → Begins (first (elim t [ true ↦ line [] true ∷ lines cs | false ↦ onto b (lines (c ∷ cs)) ])) (b ∷ (c ∷ cs))
    go true h = (b ∷ (c ∷ cs), refl)
    go false (r, p) = (r, ap (λ (l : Bytes). l ++ r) (first-onto b (lines (c ∷ cs))) ∙ ap (λ (l : Bytes). b ∷ l) p)

-- The lines, joined again.

joined-onto : (b : ℕ) (ls : List Line) → flat_map line_bytes (onto b ls) ≡ b ∷ flat_map line_bytes ls
joined-onto b [] = refl
joined-onto b (l ∷ ls) = refl

pub joined-lines : (s : Bytes) → flat_map line_bytes (lines s) ≡ s
unfolding lines
joined-lines [] = refl
joined-lines (b ∷ []) = refl
joined-lines (b ∷ c ∷ cs) = go (eqb c 10) (eqb b 13) refl refl (joined-lines cs) (joined-lines (c ∷ cs))
  where
    go : (t u : Bool) → eqb c 10 ≡ t → eqb b 13 ≡ u → flat_map line_bytes (lines cs) ≡ cs → flat_map line_bytes (lines (c ∷ cs)) ≡ c ∷ cs
        → flat_map line_bytes (elim (t && u) [ true ↦ line [] true ∷ lines cs | false ↦ onto b (lines (c ∷ cs)) ]) ≡ b ∷ (c ∷ cs)
    go true true lf cr rest all =
        let ec : c ≡ 10 = eqb-true c 10 lf in
        let eb : b ≡ 13 = eqb-true b 13 cr in
        cc
    go true false lf cr rest all = joined-onto b (lines (c ∷ cs)) ∙ ap (λ (r : Bytes). b ∷ r) all
    go false true lf cr rest all = joined-onto b (lines (c ∷ cs)) ∙ ap (λ (r : Bytes). b ∷ r) all
    go false false lf cr rest all = joined-onto b (lines (c ∷ cs)) ∙ ap (λ (r : Bytes). b ∷ r) all
