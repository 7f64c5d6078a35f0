-- What stands before and behind a byte, by its first place.
use Rattle.std.proofs.Common.{◌≡◌, ℕ, zero, suc, ◌+◌, ◌<◌, true, false, eqb, [], ◌∷◌, length, get_or, drop, Option, Some, None, MatchOption, sym, refl, ap, ◌∙◌, arith}
use Rattle.std.proofs.lemmas.Bool.{eq-eqb, ne_eqb, or_parts}
use Rattle.byte_lines.specs.Bytes.{Bytes}
use Rattle.byte_lines.specs.Strings.{has, before, after}
use Rattle.head.specs.MediaReads.{At, Finds}

pub before_here : (b c : ℕ) (cs : Bytes) → eqb b c ≡ true → before b (c ∷ cs) ≡ []
unfolding before
before_here b c cs y = rw (before, y)

pub before_there : (b c : ℕ) (cs : Bytes) → eqb b c ≡ false → before b (c ∷ cs) ≡ c ∷ before b cs
unfolding before
before_there b c cs n = rw (before, n)

-- no b stands before i
abbrev pub NoneBefore : (b : ℕ) → Bytes → ℕ → Type 0
NoneBefore b s i = (k : ℕ) → k < i → get_or s k 0 ≡ b → ⊥

found : (b : ℕ) (s : Bytes) (i : ℕ) → i < length s → get_or s i 0 ≡ b → NoneBefore b s i → At b s i
unfolding before after
found b [] i h e none = absurd (omega arith)
found b (c ∷ cs) zero h e none =
    let t = eq-eqb b c (sym e) in
    record { within = h; stands = rw t; front = rw (before, t); back = rw (after, t) }
found b (c ∷ cs) (suc i) h e none =
    let r = found b cs i (omega arith) e (λ k l. none (suc k) (omega arith)) in
    let f = ne_eqb b c (λ q. none 0 (omega arith) (sym q)) in
    let n : suc (i + 1) ≡ suc i + 1 = omega arith in
    record {
      within = h;
      stands = rw f r.stands;
      front = rw (before, f) (ap (λ (t : Bytes). c ∷ t) r.front);
      back = rw (after, f) (r.back ∙ ap (λ (m : ℕ). drop m (c ∷ cs)) n);
    }

nowhere : (b : ℕ) (s : Bytes) → NoneBefore b s (length s) → has b s ≡ false
nowhere b [] none = refl
nowhere b (c ∷ cs) none =
    let f = ne_eqb b c (λ q. none 0 (omega arith) (sym q)) in
    rw f (nowhere b cs (λ k l. none (suc k) (omega arith)))

-- what `position` says of a byte's first place
pub finds : (b : ℕ) (s : Bytes) (r : Option ℕ) → MatchOption r (NoneBefore b s (length s)) (λ i. (i < length s) × (get_or s i 0 ≡ b) × NoneBefore b s i) → Finds b s r
finds b s None none = nowhere b s none
finds b s (Some i) first = found b s i first.0 first.1 first.2

-- what stands before and behind a byte that stands nowhere
pub before_none : (b : ℕ) (s : Bytes) → has b s ≡ false → before b s ≡ s
unfolding before
before_none b [] e = refl
before_none b (c ∷ cs) e = let p = or_parts (eqb b c) (has b cs) e in rw (before, p.0) (ap (λ (t : Bytes). c ∷ t) (before_none b cs p.1))

pub after_none : (b : ℕ) (s : Bytes) → has b s ≡ false → after b s ≡ []
unfolding after
after_none b [] e = refl
after_none b (c ∷ cs) e = let p = or_parts (eqb b c) (has b cs) e in rw (after, p.0) (after_none b cs p.1)
