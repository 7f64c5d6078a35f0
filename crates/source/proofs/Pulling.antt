-- What a caller learns from a pull, by its answer.
use Rattle.std.proofs.Common.{◌≡◌, ℕ, ◌<◌, ◌≤◌, [], ◌∷◌, ◌++◌, length, take, drop, Ok, Err, sym, refl, ap, ◌∙◌, arith}
use Rattle.std.proofs.lemmas.List.{append_assoc, drop-append-le, length-drop, length-take-le, take-append-drop}
use Rattle.source.specs.declared.ends.End.{End}
use Rattle.source.specs.declared.ends.End.TheVariants.{Clean, Faulty}
use Rattle.byte_lines.specs.Bytes.{Bytes, Answer}
use Rattle.source.specs.Meanings.{Meaning, MayGive, means, Pulls, answer, gave, ended, fault, pulled}

-- it gave n bytes
pub record Given (m : Meaning) (buffer : Bytes) (n : ℕ) (m' : Meaning) (buffer' : Bytes) : Type 0 where
  pub comes : n ≤ length m.coming
  pub fits : n ≤ length buffer
  pub some : 0 < length buffer → 0 < n
  pub after : m' ≡ means (drop n m.coming) m.ending
  pub filled : buffer' ≡ take n m.coming ++ drop n buffer

-- it told the end e
pub record Told (m : Meaning) (buffer : Bytes) (e : End) (m' : Meaning) (buffer' : Bytes) : Type 0 where
  pub asked : 0 < length buffer
  pub none : m.coming ≡ []
  pub is : e ≡ m.ending
  pub after : m' ≡ m
  pub kept : buffer' ≡ buffer

pub not_gave : (x : End) (n : ℕ) → ended x ≡ gave n → ⊥
not_gave Clean n q = omega (arith, ap (λ a. a.0) q)
not_gave (Faulty f) n q = omega (arith, ap (λ a. a.0) q)

pub same_count : (n k : ℕ) → gave n ≡ gave k → n ≡ k
same_count n k q = let l = ap (λ a. a.1) q in cc

same_end : (x e : End) → ended x ≡ ended e → x ≡ e
same_end Clean Clean q = refl
same_end Clean (Faulty g) q = absurd (omega (arith, ap (λ a. a.0) q))
same_end (Faulty f) Clean q = absurd (omega (arith, ap (λ a. a.0) q))
same_end (Faulty f) (Faulty g) q =
    let values = ap (λ a. a.1) q in
    let number : f.number ≡ g.number = cc in
    let layer : f.layer ≡ g.layer = cc in
    let place : f.place ≡ g.place = cc in
    ap (λ (n : ℕ). Faulty (fault n f.layer f.place)) number ∙ ap (λ (n : ℕ). Faulty (fault g.number n f.place)) layer ∙ ap (λ (n : ℕ). Faulty (fault g.number g.layer n)) place

given_by : (s : Bytes) (e : End) (buffer : Bytes) (k n : ℕ) (m' : Meaning) (buffer' : Bytes) → MayGive s buffer k
    → ◌≡◌ {A = Answer × Meaning × Bytes} (gave n, m', buffer') (pulled k s e buffer) → Given (means s e) buffer n m' buffer'
given_by s e [] k n m' buffer' c r =
    let z : n ≡ 0 = same_count n 0 (ap (λ x. x.0) r) in
    let a = ap (λ x. x.1) r in
    let f = ap (λ x. x.2) r in
    record { comes = omega arith; fits = omega arith; some = λ h. absurd (omega arith); after = cc; filled = cc }
given_by [] e (b ∷ bs) k n m' buffer' c r = absurd (not_gave e n (sym (ap (λ x. x.0) r)))
given_by (x ∷ xs) e (b ∷ bs) k n m' buffer' c r =
    let z : n ≡ k = same_count n k (ap (λ x. x.0) r) in
    let a = ap (λ x. x.1) r in
    let f = ap (λ x. x.2) r in
    let some : 0 < k = c.some (omega arith) (omega arith) in
    record { comes = omega arith; fits = omega arith; some = λ h. omega arith; after = cc; filled = cc }

pub given : (m : Meaning) (buffer : Bytes) (n : ℕ) (m' : Meaning) (buffer' : Bytes) → Pulls m buffer (answer (Ok n)) m' buffer' → Given m buffer n m' buffer'
given m buffer n m' buffer' p = given_by m.coming m.ending buffer p.chosen n m' buffer' p.lawful p.result

told_by : (s : Bytes) (e : End) (buffer : Bytes) (k : ℕ) (x : End) (m' : Meaning) (buffer' : Bytes)
    → ◌≡◌ {A = Answer × Meaning × Bytes} (ended x, m', buffer') (pulled k s e buffer) → Told (means s e) buffer x m' buffer'
told_by s e [] k x m' buffer' r = absurd (not_gave x 0 (ap (λ y. y.0) r))
told_by [] e (b ∷ bs) k x m' buffer' r =
    record { asked = omega arith; none = refl; is = same_end x e (ap (λ y. y.0) r); after = ap (λ y. y.1) r; kept = ap (λ y. y.2) r }
told_by (y ∷ ys) e (b ∷ bs) k x m' buffer' r = absurd (not_gave x k (ap (λ y. y.0) r))

pub told : (m : Meaning) (buffer : Bytes) (e : End) (m' : Meaning) (buffer' : Bytes) → Pulls m buffer (answer (Err e)) m' buffer' → Told m buffer e m' buffer'
told m buffer e m' buffer' p = told_by m.coming m.ending buffer p.chosen e m' buffer' p.result

-- The other way: what makes a pull lawful.
gives_by : (s : Bytes) (e : End) (buffer : Bytes) (n : ℕ) (m' : Meaning) (buffer' : Bytes) → 0 < length buffer → Given (means s e) buffer n m' buffer'
    → ◌≡◌ {A = Answer × Meaning × Bytes} (gave n, m', buffer') (pulled n s e buffer)
gives_by s e [] n m' buffer' h g = absurd (omega arith)
gives_by [] e (b ∷ bs) n m' buffer' h g = absurd (let some = g.some h in let none = g.comes in omega arith)
gives_by (x ∷ xs) e (b ∷ bs) n m' buffer' h g = let a = g.after in let f = g.filled in cc

pub gives : (m : Meaning) (buffer : Bytes) (n : ℕ) (m' : Meaning) (buffer' : Bytes) → 0 < length buffer → Given m buffer n m' buffer' → Pulls m buffer (answer (Ok n)) m' buffer'
gives m buffer n m' buffer' h g =
    record {
      chosen = n;
      lawful = record { comes = g.comes; fits = g.fits; some = λ s r. g.some h };
      result = gives_by m.coming m.ending buffer n m' buffer' h g;
    }

tells_by : (s : Bytes) (e : End) (buffer : Bytes) (m' : Meaning) (buffer' : Bytes) → Told (means s e) buffer e m' buffer'
    → ◌≡◌ {A = Answer × Meaning × Bytes} (ended e, m', buffer') (pulled 0 s e buffer)
tells_by s e [] m' buffer' t = absurd (let h = t.asked in omega arith)
tells_by [] e (b ∷ bs) m' buffer' t = let a = t.after in let k = t.kept in cc
tells_by (x ∷ xs) e (b ∷ bs) m' buffer' t = absurd (omega (arith, ap length t.none))

pub tells : (m : Meaning) (buffer : Bytes) (x : End) (m' : Meaning) (buffer' : Bytes) → Told m buffer x m' buffer' → Pulls m buffer (answer (Err x)) m' buffer'
tells m buffer x m' buffer' t =
    let z : length m.coming ≡ 0 = ap length t.none in
    record {
      chosen = 0;
      lawful = record { comes = omega arith; fits = omega arith; some = λ s r. absurd (omega arith) };
      result =
          ap (λ (e : End). (ended e, m', buffer')) t.is
          ∙ tells_by m.coming m.ending buffer m' buffer' (record { asked = t.asked; none = t.none; is = refl; after = t.after; kept = t.kept });
    }

pub waits : (m : Meaning) (buffer : Bytes) → length buffer ≡ 0 → Pulls m buffer (answer (Ok 0)) m buffer
waits m [] z = record { chosen = 0; lawful = record { comes = omega arith; fits = omega arith; some = λ s r. absurd (omega arith) }; result = refl }
waits m (b ∷ bs) z = absurd (omega arith)

-- A pull into a buffer's front, seen from the whole buffer.
pub front_filled : (k n : ℕ) (d buffer front : Bytes) → n ≤ length (take k buffer) → front ≡ d ++ drop n (take k buffer) → front ++ drop k buffer ≡ d ++ drop n buffer
front_filled k n d buffer front le e =
    ap (λ (l : Bytes). l ++ drop k buffer) e ∙ append_assoc d (drop n (take k buffer)) (drop k buffer)
    ∙ ap (λ (l : Bytes). d ++ l) (sym (drop-append-le n (take k buffer) (drop k buffer) le) ∙ ap (drop n) (take-append-drop k buffer))

pub front_kept : (k : ℕ) (buffer front : Bytes) → front ≡ take k buffer → front ++ drop k buffer ≡ buffer
front_kept k buffer front e = ap (λ (l : Bytes). l ++ drop k buffer) e ∙ take-append-drop k buffer

front_by : (s : Bytes) (e : End) (n : ℕ) (f r : Bytes) (a : Answer) (m' : Meaning) (front : Bytes) → n ≤ length f → (0 < length r → 0 < length f)
    → ◌≡◌ {A = Answer × Meaning × Bytes} (a, m', front) (pulled n s e f) → ◌≡◌ {A = Answer × Meaning × Bytes} (a, m', front ++ r) (pulled n s e (f ++ r))
front_by s e n [] [] a m' front le some h = ap (λ x. (x.0, x.1, x.2 ++ [])) h
front_by s e n [] (y ∷ ys) a m' front le some h = absurd (omega (arith, some (omega arith)))
front_by [] e n (b ∷ bs) r a m' front le some h = ap (λ x. (x.0, x.1, x.2 ++ r)) h
front_by (x ∷ xs) e n (b ∷ bs) r a m' front le some h =
    ap (λ x. (x.0, x.1, x.2 ++ r)) h
    ∙ ap (λ (l : Bytes). (gave n, means (drop n (x ∷ xs)) e, l))
    (append_assoc (take n (x ∷ xs)) (drop n (b ∷ bs)) r ∙ ap (λ (l : Bytes). take n (x ∷ xs) ++ l) (sym (drop-append-le n (b ∷ bs) r le)))

pub pulls_front : (m : Meaning) (k : ℕ) (buffer : Bytes) (a : Answer) (m' : Meaning) (front : Bytes) → k ≤ length buffer → (0 < length buffer → 0 < k)
    → Pulls m (take k buffer) a m' front → Pulls m buffer a m' (front ++ drop k buffer)
pulls_front m k buffer a m' front long some p =
    let l = length-take-le k buffer long in
    let whole = take-append-drop k buffer in
    record {
      chosen = p.chosen;
      lawful = record { comes = p.lawful.comes; fits = omega (arith, p.lawful.fits); some = λ s r. p.lawful.some s (omega (arith, some r)) };
      result =
          front_by m.coming m.ending p.chosen (take k buffer) (drop k buffer) a m' front p.lawful.fits
          (λ h. omega (arith, length-drop k buffer, some (omega (arith, length-drop k buffer)))) p.result
          ∙ ap (pulled p.chosen m.coming m.ending) whole;
    }
