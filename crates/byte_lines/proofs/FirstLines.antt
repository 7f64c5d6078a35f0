-- The first CRLF of a text, among the pairs of its neighbouring bytes.
use Rattle.std.proofs.Common.{◌≡◌, ℕ, zero, suc, ◌+◌, ◌<◌, Bool, true, false, cond, ◌&&◌, eqb, ltb, List, [], ◌∷◌, length, take, drop, sym, refl, ap, subst, ◌∙◌, arith}
use Rattle.std.specs.List.{AllWithin, HoldsAt}
use Rattle.std.specs.Slice.Iter.{windows_rest, windows_size, windows_steps}
use Rattle.std.specs.declared.slice.Windows.{Windows}
use Rattle.std.proofs.lemmas.Iterator.{YieldsList}
use Rattle.std.proofs.lemmas.Iterator.Splits.{YieldsList-from_shown_while}
use Rattle.std.proofs.lemmas.List.{take_all, drop_all}
use Rattle.std.proofs.lemmas.Bool.{lt-ltb, le-ltb}
use Rattle.std.proofs.lemmas.Bool.Decides.{eqb_tells}
use Rattle.byte_lines.specs.Bytes.{Bytes}
use Rattle.byte_lines.specs.Lines.{crlf, lines, onto}
use Rattle.byte_lines.specs.Spans.{FirstLine}
use Rattle.byte_lines.proofs.LineLaws.{line}

abbrev pub pairs : Bytes → List Bytes
pairs [] = []
pairs (b ∷ []) = []
pairs (b ∷ c ∷ cs) = (b ∷ (c ∷ [])) ∷ pairs (c ∷ cs)

pairs_short : (s : Bytes) → length s < 2 → length (pairs s) ≡ 0
pairs_short [] h = refl
pairs_short (b ∷ []) h = refl
pairs_short (b ∷ c ∷ cs) h = absurd (omega arith)

pairs_more : (s : Bytes) → 1 < length s → pairs s ≡ take 2 s ∷ pairs (drop 1 s)
pairs_more [] h = absurd (omega arith)
pairs_more (b ∷ []) h = absurd (omega arith)
pairs_more (b ∷ c ∷ cs) h = refl

-- the windows of two bytes show them
pub windows-pairs : (t : Bytes) {s : Windows ℕ} → windows_rest s ≡ t → windows_size s ≡ 2 → YieldsList windows_steps (λ w. w.now) s (pairs t)
windows-pairs t {s} rest two = subst (λ (r : Bytes). YieldsList windows_steps (λ w. w.now) s (pairs r)) rest
    (YieldsList-from_shown_while windows_steps (λ w. w.now) (λ u. pairs (windows_rest u)) (λ u. windows_size u ≡ 2)
    (λ u v p h. pairs_short (windows_rest u) (omega (arith, h.1.0)))
    (λ u w v p h. (h.0 ∙ p, let more = pairs_more (windows_rest u) (omega (arith, h.1.0)) in let front = h.1.1 in let back = h.1.2 in cc))
    s two)

abbrev pub Other : Bytes → Type 0
Other p = p ≡ crlf → ⊥

no_pair : (b c : ℕ) → Other (b ∷ (c ∷ [])) → (eqb c 10 && eqb b 13) ≡ false
no_pair b c h = grind (arith, eqb_tells, h)

lines_at : (s : Bytes) (k : ℕ) → k < length (pairs s) → HoldsAt (λ p. p ≡ crlf) (pairs s) k → AllWithin Other (pairs s) 0 k
    → (suc k < length s) × (lines s ≡ line (take k s) true ∷ lines (drop (suc (suc k)) s))
unfolding lines
lines_at [] k h is none = absurd (omega arith)
lines_at (b ∷ []) k h is none = absurd (omega arith)
lines_at (b ∷ c ∷ cs) zero h is none =
    let pair : b ∷ (c ∷ []) ≡ crlf = is [] in
    let cr : b ≡ 13 = cc in
    let lf : c ≡ 10 = cc in
    (omega arith, rw (lines, cr, lf))
lines_at (b ∷ c ∷ cs) (suc k) h is none =
    let at = lines_at (c ∷ cs) k (omega arith) is (λ j d low high. none (suc j) d (omega arith) (omega arith)) in
    (omega (arith, at.0), rw (lines, no_pair b c (none 0 [] (omega arith) (omega arith))) (ap (onto b) at.1))

lines_one : (s : Bytes) → 0 < length s → AllWithin Other (pairs s) 0 (length (pairs s)) → lines s ≡ line s false ∷ []
unfolding lines
lines_one [] h none = absurd (omega arith)
lines_one (b ∷ []) h none = refl
lines_one (b ∷ c ∷ cs) h none =
    rw (lines, no_pair b c (none 0 [] (omega arith) (omega arith)))
    (ap (onto b) (lines_one (c ∷ cs) (omega arith) (λ j d low high. none (suc j) d (omega arith) (omega arith))))

-- the first CRLF stands at k
pub first_ended : (s : Bytes) (k : ℕ) → k < length (pairs s) → HoldsAt (λ p. p ≡ crlf) (pairs s) k → AllWithin Other (pairs s) 0 k → FirstLine s k (k + 2)
first_ended s k h is none =
    let at = lines_at s k h is none in
    let t : ltb k (k + 2) ≡ true = lt-ltb k (k + 2) (omega arith) in
    let n : suc (suc k) ≡ k + 2 = omega arith in
    record {
      within = omega (arith, at.0);
      wide = ap (λ (b : Bool). k + cond b 2 0) (sym t);
      some = λ p. omega arith;
      splits = λ p. at.1 ∙ ap (λ (b : Bool). line (take k s) b ∷ lines (drop (suc (suc k)) s)) (sym t) ∙ ap (λ (m : ℕ). line (take k s) (ltb k (k + 2)) ∷ lines (drop m s)) n;
    }

-- no CRLF stands in it
pub first_open : (s : Bytes) → AllWithin Other (pairs s) 0 (length (pairs s)) → FirstLine s (length s) (length s)
unfolding lines
first_open s none =
    let n = length s in
    let t : ltb n n ≡ false = le-ltb n n (omega arith) in
    let whole = take_all n s (omega arith) in
    let rest = drop_all n s (omega arith) in
    record {
      within = omega arith;
      wide = sym (ap (λ (b : Bool). n + cond b 2 0) t ∙ omega arith);
      some = λ p. p;
      splits = λ p.
          lines_one s p none ∙ ap (λ (b : Bool). line s b ∷ []) (sym t) ∙ ap (λ (c : Bytes). line c (ltb n n) ∷ []) (sym whole)
          ∙ ap (λ (r : Bytes). line (take n s) (ltb n n) ∷ lines r) (sym rest);
    }
