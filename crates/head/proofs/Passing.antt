-- What it says of a head's lines that all of them pass.
use Rattle.std.proofs.Common.{◌≡◌, ℕ, ◌+◌, ◌<◌, ◌≤◌, Bool, true, false, cond, ◌&&◌, eqb, ltb, leb, ◌⊎◌, List, [], ◌∷◌, length, sym, refl, ap, ◌∙◌, inl, inr, ⊎_elim, arith}
use Rattle.std.specs.List.{flat_map}
use Rattle.std.proofs.lemmas.List.{length-append}
use Rattle.std.proofs.lemmas.Bool.{cases_Bool, and_parts, ltb-true, ltb-false, leb-true, ne_eqb, or_from}
use Rattle.byte_lines.specs.Bytes.{Bytes}
use Rattle.byte_lines.specs.Classes.{within}
use Rattle.byte_lines.specs.Lines.{Line, lines, crlf, width, line_bytes}
use Rattle.byte_lines.specs.Strings.{has, every, before}
use Rattle.byte_lines.proofs.LineLaws.{joined-lines}
use Rattle.head.specs.Fields.{Gathered, is_field, continues, gathered, fields_of}
use Rattle.head.specs.LineFaults.{Verdict, passes, faulty, unclean, judged}
use Rattle.head.proofs.Gathers.{starts_more, starts_lines, gathered_on, gathered_new}
use Rattle.head.proofs.Places.{before_here, before_there}

-- how many bytes some lines take
widths : List Line → ℕ
widths ls = length (flat_map line_bytes ls)

width_none : widths [] ≡ 0
unfolding widths
width_none = refl

width_more : (l : Line) (ls : List Line) → widths (l ∷ ls) ≡ width l + widths ls
unfolding widths
width_more l ls = omega (arith, length-append (line_bytes l) (flat_map line_bytes ls), length-append l.content (cond l.ended crlf []), end_width l.ended)
  where
    end_width : (t : Bool) → length (cond t crlf []) ≡ cond t 2 0
    end_width true = refl
    end_width false = refl

-- a field line begins with no blank
named-first : (b : ℕ) (bs : Bytes) → within 1 64 (length (before 58 (b ∷ bs))) ≡ true → every (within 33 126) (before 58 (b ∷ bs)) ≡ true → continues (b ∷ bs) ≡ false
named-first b bs w e =
    ⊎_elim
    (λ y. absurd (let z : within 1 64 0 ≡ true = ap (λ (l : Bytes). within 1 64 (length l)) (sym (before_here 58 b bs y)) ∙ w in let q : ◌≡◌ {A = ℕ} 0 1 = cc in omega arith))
    (λ n.
    let z : (within 33 126 b && every (within 33 126) (before 58 bs)) ≡ true = ap (every (within 33 126)) (sym (before_there 58 b bs n)) ∙ e in
    let p = (and_parts (within 33 126 b) (every (within 33 126) (before 58 bs)) z).0 in
    let q = leb-true 33 b (and_parts (leb 33 b) (leb b 126) p).0 in
    or_from (eqb b 32) (eqb b 9) (ne_eqb b 32 (λ x. omega arith)) (ne_eqb b 9 (λ x. omega arith)))
    (cases_Bool (eqb 58 b))

field_starts : (s : Bytes) → is_field s ≡ true → continues s ≡ false
field_starts [] e = refl
field_starts (b ∷ bs) e =
    let p = (and_parts (has 58 (b ∷ bs)) (within 1 64 (length (before 58 (b ∷ bs))) && every (within 33 126) (before 58 (b ∷ bs))) e).1 in
    let q = and_parts (within 1 64 (length (before 58 (b ∷ bs)))) (every (within 33 126) (before 58 (b ∷ bs))) p in
    named-first b bs q.0 q.1

never : (v : Verdict) (a b m : ℕ) → v ≡ faulty a b → v ≡ passes m → ⊥
never v a b m p q = let z : ◌≡◌ {A = ℕ} 0 1 = cc in omega arith

-- a line that passes is a field line or continues a field before it
Passed : (size n m : ℕ) → Line → List Line → Type 0
Passed size n m l ls =
    (size + width l ≤ 8192)
    × (((is_field l.content ≡ true) × (n < 64) × (judged (size + width l) (n + 1) ls ≡ passes m))
    ⊎ ((continues l.content ≡ true) × (0 < n) × (judged (size + width l) n ls ≡ passes m)))

module _ (size n m : ℕ) (l : Line) (ls : List Line) (e : judged size n (l ∷ ls) ≡ passes m) where
  short : ltb 8192 (size + width l) ≡ false
  unfolding judged
  short = ⊎_elim (λ (y : ltb 8192 (size + width l) ≡ true). absurd (never (judged size n (l ∷ ls)) 41 size m (rw (judged, y)) e)) (λ f. f) (cases_Bool (ltb 8192 (size + width l)))

  clean : unclean l.content ≡ false
  unfolding judged
  clean =
      let a = short in
      ⊎_elim (λ (y : unclean l.content ≡ true). absurd (never (judged size n (l ∷ ls)) 42 size m (rw (judged, a, y)) e)) (λ f. f) (cases_Bool (unclean l.content))

  few : is_field l.content ≡ true → ltb n 64 ≡ true
  unfolding judged
  few f =
      let a = short in
      let b = clean in
      ⊎_elim (λ y. y) (λ (y : ltb n 64 ≡ false). absurd (never (judged size n (l ∷ ls)) 43 size m (rw (judged, a, b, f, y)) e)) (cases_Bool (ltb n 64))

  behind : is_field l.content ≡ false → (continues l.content && ltb 0 n) ≡ true
  unfolding judged
  behind f =
      let a = short in
      let b = clean in
      ⊎_elim (λ y. y) (λ (y : (continues l.content && ltb 0 n) ≡ false). absurd (never (judged size n (l ∷ ls)) 42 size m (rw (judged, a, b, f, y)) e))
      (cases_Bool (continues l.content && ltb 0 n))

  passed : Passed size n m l ls
  unfolding judged Passed
  passed =
      let a = short in
      let b = clean in (
        ltb-false 8192 (size + width l) a,
        ⊎_elim
            (λ (f : is_field l.content ≡ true).
            let y = few f in
            let step : judged size n (l ∷ ls) ≡ judged (size + width l) (n + 1) ls = rw (judged, a, b, f, y) in
            inl (f, ltb-true n 64 y, sym step ∙ e))
            (λ (f : is_field l.content ≡ false).
            let y = behind f in
            let step : judged size n (l ∷ ls) ≡ judged (size + width l) n ls = rw (judged, a, b, f, y) in
            let p = and_parts (continues l.content) (ltb 0 n) y in
            inr (p.0, ltb-true 0 n p.1, sym step ∙ e))
            (cases_Bool (is_field l.content)),
      )

-- how many fields there are, how many of them at most, and how many bytes at most
Counts : (size n m : ℕ) → List Line → Type 0
Counts size n m ls = (m ≡ n + length (fields_of ls)) × (n ≤ 64 → m ≤ 64) × (size ≤ 8192 → size + widths ls ≤ 8192)

counts : (ls : List Line) (size n m : ℕ) → judged size n ls ≡ passes m → Counts size n m ls
unfolding judged gathered Passed Counts
counts [] size n m e = let q : n ≡ m = cc in (omega arith, λ h. omega arith, λ h. omega (arith, width_none))
counts (l ∷ ls) size n m e =
    let p = passed size n m l ls e in
    let within = p.0 in
    let more = width_more l ls in
    ⊎_elim
    (λ (w : (is_field l.content ≡ true) × (n < 64) × (judged (size + width l) (n + 1) ls ≡ passes m)).
    let k = counts ls (size + width l) (n + 1) m w.2 in
    let g = ap (λ (g : Gathered). length g.fields) (gathered_new l ls (field_starts l.content w.0)) in
    (omega (arith, k.0), λ h. k.1 (omega (arith, w.1)), λ h. omega (arith, k.2 within)))
    (λ (w : (continues l.content ≡ true) × (0 < n) × (judged (size + width l) n ls ≡ passes m)).
    let k = counts ls (size + width l) n m w.2 in
    let g = ap (λ (g : Gathered). length g.fields) (gathered_on l ls w.0) in
    (omega (arith, k.0), λ h. k.1 h, λ h. omega (arith, k.2 within)))
    p.1

first_starts : (ls : List Line) (size m : ℕ) → judged size 0 ls ≡ passes m → starts_more ls ≡ false
unfolding Passed
first_starts [] size m e = refl
first_starts (l ∷ ls) size m e =
    ⊎_elim (λ (w : (is_field l.content ≡ true) × (0 < 64) × (judged (size + width l) (0 + 1) ls ≡ passes m)). field_starts l.content w.0)
    (λ (w : (continues l.content ≡ true) × (0 < 0) × (judged (size + width l) 0 ls ≡ passes m)). absurd (omega (arith, w.1))) (passed size 0 m l ls e).1

-- a head whose lines pass begins with a field, has at most 64 fields, and at most 8,192 bytes
pub record Lawful (head : Bytes) : Type 0 where
  pub starts : continues head ≡ false
  pub few : length (fields_of (lines head)) ≤ 64
  pub short : length head ≤ 8192

pub lawful : (head : Bytes) (m : ℕ) → judged 0 0 (lines head) ≡ passes m → Lawful head
unfolding Counts widths
lawful head m e =
    let k = counts (lines head) 0 0 m e in
    record {
      starts = sym (starts_lines head) ∙ first_starts (lines head) 0 m e;
      few = omega (arith, k.0, k.1 (omega arith));
      short = omega (arith, k.2 (omega arith), ap length (joined-lines head));
    }
