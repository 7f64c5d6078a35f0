-- The fields of a head, line by line.
use Rattle.std.proofs.Common.{◌≡◌, ℕ, ◌+◌, ◌<◌, ◌≤◌, Bool, true, false, cond, ◌&&◌, eqb, ltb, List, [], ◌∷◌, ◌++◌, length, take, drop, sym, refl, ap, ◌∙◌, ⊎_elim, arith}
use Rattle.std.proofs.lemmas.Bool.{cases_Bool, and_parts, eqb-true, le-ltb, cases_lt}
use Rattle.byte_lines.specs.Bytes.{Bytes}
use Rattle.byte_lines.specs.Classes.{blank}
use Rattle.byte_lines.specs.Lines.{Line, lines, onto}
use Rattle.byte_lines.specs.Spans.{FirstLine}
use Rattle.head.specs.Fields.{Gathered, continues, field, gathered, fields_of}

-- a first line is no longer than what it takes
pub len_width : (s : Bytes) (len w : ℕ) → FirstLine s len w → len ≤ w
len_width s len w f =
    let e = f.wide in
    ⊎_elim (λ lt. omega arith) (λ le. let z = le-ltb len w le in let q : w ≡ len + 0 = e ∙ ap (λ (b : Bool). len + cond b 2 0) z in omega arith) (cases_lt len w)

-- the first of some lines continues a field
abbrev pub starts_more : List Line → Bool
starts_more [] = false
starts_more (l ∷ ls) = continues l.content

starts_onto : (b : ℕ) (ls : List Line) → starts_more (onto b ls) ≡ blank b
starts_onto b [] = refl
starts_onto b (l ∷ ls) = refl

starts_pair : (b c : ℕ) (cs : Bytes) → (eqb c 10 && eqb b 13) ≡ true → starts_more (lines (b ∷ c ∷ cs)) ≡ blank b
unfolding lines
starts_pair b c cs y = rw (lines, y) (sym (ap blank (eqb-true b 13 (and_parts (eqb c 10) (eqb b 13) y).1)))

starts_other : (b c : ℕ) (cs : Bytes) → (eqb c 10 && eqb b 13) ≡ false → starts_more (lines (b ∷ c ∷ cs)) ≡ blank b
unfolding lines
starts_other b c cs n = rw (lines, n) (starts_onto b (lines (c ∷ cs)))

-- the first line of a text continues a field just if the text's first byte is blank
pub starts_lines : (s : Bytes) → starts_more (lines s) ≡ continues s
unfolding lines
starts_lines [] = refl
starts_lines (b ∷ []) = refl
starts_lines (b ∷ c ∷ cs) = ⊎_elim (λ y. starts_pair b c cs y) (λ n. starts_other b c cs n) (cases_Bool (eqb c 10 && eqb b 13))

pub gathered_on : (l : Line) (ls : List Line) → continues l.content ≡ true → gathered (l ∷ ls) ≡ record { more = l.content ++ (gathered ls).more; fields = (gathered ls).fields }
unfolding gathered
gathered_on l ls y = rw (gathered, y)

pub gathered_new : (l : Line) (ls : List Line) → continues l.content ≡ false → gathered (l ∷ ls) ≡ record { more = []; fields = field l.content (gathered ls).more ∷ (gathered ls).fields }
unfolding gathered
gathered_new l ls n = rw (gathered, n)

none_starts : (ls : List Line) → starts_more ls ≡ false → (gathered ls).more ≡ []
unfolding gathered
none_starts [] e = refl
none_starts (l ∷ ls) e = ap (λ (g : Gathered). g.more) (gathered_new l ls e)

-- what the lines of a text continue, where the text does not begin with a blank
pub more-none : (s : Bytes) → continues s ≡ false → (gathered (lines s)).more ≡ []
more-none s e = none_starts (lines s) (starts_lines s ∙ e)

some_continues : (s : Bytes) → continues s ≡ true → 0 < length s
some_continues [] e = absurd (let z : ◌≡◌ {A = ℕ} 0 1 = cc in omega arith)
some_continues (b ∷ bs) e = omega arith

pub gathered-more : (s : Bytes) (len w : ℕ) → FirstLine s len w → continues s ≡ true
    → gathered (lines s) ≡ record { more = take len s ++ (gathered (lines (drop w s))).more; fields = (gathered (lines (drop w s))).fields }
gathered-more s len w f y =
    let e = f.splits (some_continues s y) in
    ap gathered e ∙ gathered_on (record { content = take len s; ended = ltb len w }) (lines (drop w s)) (sym (ap starts_more e) ∙ starts_lines s ∙ y)

pub gathered-first : (s : Bytes) (len w : ℕ) → FirstLine s len w → 0 < length s → continues s ≡ false
    → fields_of (lines s) ≡ field (take len s) (gathered (lines (drop w s))).more ∷ fields_of (lines (drop w s))
gathered-first s len w f h n =
    let e = f.splits h in
    ap (λ (ls : List Line). (gathered ls).fields) e
    ∙ ap (λ (g : Gathered). g.fields) (gathered_new (record { content = take len s; ended = ltb len w }) (lines (drop w s)) (sym (ap starts_more e) ∙ starts_lines s ∙ n))

pub fields_nil : fields_of (lines []) ≡ []
unfolding gathered lines
fields_nil = refl
