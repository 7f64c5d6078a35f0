-- Laws of a text without the blanks at its start and at its end.
use Rattle.std.proofs.Common.{◌≡◌, ℕ, zero, suc, ◌+◌, ◌<◌, ◌≤◌, Bool, true, false, [], ◌∷◌, ◌++◌, length, get_or, take, drop, sym, refl, ap, ◌∙◌, ⊎_elim, arith}
use Rattle.std.proofs.lemmas.List.{length-take, length-take-le}
use Rattle.std.proofs.lemmas.Bool.{cases_Bool}
use Rattle.byte_lines.specs.Bytes.{Bytes}
use Rattle.byte_lines.specs.Classes.{blank}
use Rattle.byte_lines.specs.Strings.{trim_start, trim_end, trim, kept}

pub start_blank : (b : ℕ) (bs : Bytes) → blank b ≡ true → trim_start (b ∷ bs) ≡ trim_start bs
unfolding trim_start
start_blank b bs y = rw (trim_start, y)

pub start_other : (b : ℕ) (bs : Bytes) → blank b ≡ false → trim_start (b ∷ bs) ≡ b ∷ bs
unfolding trim_start
start_other b bs n = rw (trim_start, n)

-- only blanks stand before n, and none at n
pub trim_start_by : (s : Bytes) (n : ℕ) → n ≤ length s → ((k : ℕ) → k < n → blank (get_or s k 0) ≡ true) → (n < length s → blank (get_or s n 0) ≡ false) → drop n s ≡ trim_start s
unfolding trim_start
trim_start_by [] zero h blanks stops = refl
trim_start_by [] (suc n) h blanks stops = absurd (omega arith)
trim_start_by (b ∷ bs) zero h blanks stops = sym (start_other b bs (stops (omega arith)))
trim_start_by (b ∷ bs) (suc n) h blanks stops =
    trim_start_by bs n (omega arith) (λ k l. blanks (suc k) (omega arith)) (λ l. stops (omega arith)) ∙ sym (start_blank b bs (blanks 0 (omega arith)))

pub length_trim_start : (s : Bytes) → length (trim_start s) ≤ length s
unfolding trim_start
length_trim_start [] = omega arith
length_trim_start (b ∷ bs) =
    let r = length_trim_start bs in
    ⊎_elim (λ y. omega (arith, ap length (start_blank b bs y))) (λ n. omega (arith, ap length (start_other b bs n))) (cases_Bool (blank b))

-- so long as all is blank, what comes is stripped too
pub trim_start-none : (s t : Bytes) → length (trim_start s) ≡ 0 → trim_start (s ++ t) ≡ trim_start t
unfolding trim_start
trim_start-none [] t e = refl
trim_start-none (b ∷ bs) t e =
    ⊎_elim (λ y. start_blank b (bs ++ t) y ∙ trim_start-none bs t (ap length (sym (start_blank b bs y)) ∙ e))
    (λ n. absurd (let z = ap length (start_other b bs n) in omega arith)) (cases_Bool (blank b))

pub trim_start_some : (s t : Bytes) → 0 < length (trim_start s) → trim_start (s ++ t) ≡ trim_start s ++ t
unfolding trim_start
trim_start_some [] t h = absurd (omega arith)
trim_start_some (b ∷ bs) t h =
    ⊎_elim (λ y. start_blank b (bs ++ t) y ∙ trim_start_some bs t (let z = ap length (start_blank b bs y) in omega arith) ∙ ap (λ (l : Bytes). l ++ t) (sym (start_blank b bs y)))
    (λ n. start_other b (bs ++ t) n ∙ ap (λ (l : Bytes). l ++ t) (sym (start_other b bs n))) (cases_Bool (blank b))

abbrev kept_by : Bool → ℕ → Bytes
kept_by true b = []
kept_by false b = b ∷ []

pub kept_one : (b : ℕ) (t : Bool) → blank b ≡ t → kept b [] ≡ kept_by t b
kept_one b true e = rw (kept, e)
kept_one b false e = rw (kept, e)

pub kept_more : (c : ℕ) (s : Bytes) → 0 < length s → kept c s ≡ c ∷ s
kept_more c [] h = absurd (omega arith)
kept_more c (d ∷ ds) h = refl

-- only blanks stand in the text
pub trim_end-blanks : (s : Bytes) → ((k : ℕ) → k < length s → blank (get_or s k 0) ≡ true) → [] ≡ trim_end s
unfolding trim_end
trim_end-blanks [] blanks = refl
trim_end-blanks (b ∷ bs) blanks = sym (kept_one b true (blanks 0 (omega arith))) ∙ ap (kept b) (trim_end-blanks bs (λ k l. blanks (suc k) (omega arith)))

-- no blank stands at i, and only blanks stand behind it
pub trim_end_at : (s : Bytes) (i : ℕ) → i < length s → ((k : ℕ) → i < k → k < length s → blank (get_or s k 0) ≡ true) → blank (get_or s i 0) ≡ false → take (i + 1) s ≡ trim_end s
unfolding trim_end
trim_end_at [] i h blanks stops = absurd (omega arith)
trim_end_at (b ∷ bs) zero h blanks stops = sym (kept_one b false stops) ∙ ap (kept b) (trim_end-blanks bs (λ k l. blanks (suc k) (omega arith) (omega arith)))
trim_end_at (b ∷ bs) (suc i) h blanks stops =
    let rest = trim_end_at bs i (omega arith) (λ k l m. blanks (suc k) (omega arith) (omega arith)) stops in
    let n : suc i + 1 ≡ suc (i + 1) = omega arith in
    ap (λ (k : ℕ). take k (b ∷ bs)) n ∙ sym (kept_more b (take (i + 1) bs) (omega (arith, length-take-le (i + 1) bs))) ∙ ap (kept b) rest

kept-blank : (b : ℕ) (s : Bytes) → blank b ≡ true → trim_start (kept b s) ≡ trim_start s
unfolding trim_start
kept-blank b [] y = ap trim_start (kept_one b true y)
kept-blank b (c ∷ cs) y = start_blank b (c ∷ cs) y

kept_other : (b : ℕ) (s : Bytes) → blank b ≡ false → trim_start (kept b s) ≡ kept b s
kept_other b [] n = ap trim_start (kept_one b false n) ∙ start_other b [] n ∙ sym (kept_one b false n)
kept_other b (c ∷ cs) n = start_other b (c ∷ cs) n

-- blanks may be stripped at either end first
pub trim_other : (s : Bytes) → trim_end (trim_start s) ≡ trim s
unfolding trim_start trim_end
trim_other [] = refl
trim_other (b ∷ bs) =
    ⊎_elim (λ y. ap trim_end (start_blank b bs y) ∙ trim_other bs ∙ sym (kept-blank b (trim_end bs) y))
    (λ n. ap trim_end (start_other b bs n) ∙ sym (kept_other b (trim_end bs) n)) (cases_Bool (blank b))

-- what is left of a text without the blanks at its end stands at its start
take-kept : (b : ℕ) (bs t : Bytes) → take (length t) bs ≡ t → take (length (kept b t)) (b ∷ bs) ≡ kept b t
take-kept b bs [] e =
    let cut = λ (t : Bool) (q : blank b ≡ t). ap (λ (l : Bytes). take (length l) (b ∷ bs)) (kept_one b t q) in
    ⊎_elim (λ y. cut true y ∙ sym (kept_one b true y)) (λ n. cut false n ∙ sym (kept_one b false n)) (cases_Bool (blank b))
take-kept b bs (c ∷ cs) e = ap (λ (l : Bytes). b ∷ l) e

pub take-trim_end : (s : Bytes) → take (length (trim_end s)) s ≡ trim_end s
unfolding trim_end
take-trim_end [] = refl
take-trim_end (b ∷ bs) = take-kept b bs (trim_end bs) (take-trim_end bs)

pub length_trim_end : (s : Bytes) → length (trim_end s) ≤ length s
length_trim_end s = omega (arith, ap length (take-trim_end s), length-take (length (trim_end s)) s)
