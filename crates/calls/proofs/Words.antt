-- Laws of the words of a trace.
use Rattle.std.proofs.Common.{◌≡◌, ℕ, zero, suc, ◌+◌, eqb, List, [], ◌∷◌, ◌++◌, length, take, drop, sym, refl, ap, ◌∙◌, inl, inr, append_assoc, add-zero, suc-add, zero-add, add-one, arith, length-append}
use Rattle.std.proofs.lemmas.List.{take_all}
use Rattle.std.proofs.lemmas.Bool.{cases_Bool, eq-eqb, ne_eqb}
use Rattle.byte_lines.specs.Bytes.{Bytes}
use Rattle.message.specs.Entries.{Entry}
use Rattle.calls.specs.Calls.{Told, Exchange, Trace}
use Rattle.calls.specs.ReaderMeaning.{first, rest}
use Rattle.calls.specs.Traces.{entry, up_to, openings, count, part, given_from}

-- a row after k tellings
abbrev pub after : (k : ℕ) → List Entry → List Entry
after zero r = r
after (suc k) r = after k (rest r)

after-suc : (k : ℕ) (r : List Entry) → after k (rest r) ≡ rest (after k r)
after-suc zero r = refl
after-suc (suc k) r = after-suc k (rest r)

pub after_more : (k : ℕ) (r : List Entry) → after (k + 1) r ≡ rest (after k r)
after_more k r = rw add-one (after-suc k r)

pub entry-after : (k : ℕ) (r : List Entry) → entry k r ≡ first (after k r)
entry-after zero [] = refl
entry-after zero (x ∷ []) = refl
entry-after zero (x ∷ y ∷ ys) = refl
entry-after (suc k) [] = entry-after k []
entry-after (suc k) (x ∷ []) = entry-after k (x ∷ [])
entry-after (suc k) (x ∷ y ∷ ys) = entry-after k (y ∷ ys)

pub up_to_length : (n : ℕ) → length (up_to n) ≡ n
up_to_length zero = refl
up_to_length (suc n) = simp length-append (omega (arith, up_to_length n))

pub openings-append : (xs ys : List Told) → openings (xs ++ ys) ≡ openings xs ++ openings ys
openings-append [] ys = refl
openings-append (Told.event ev ∷ xs) ys = rw (openings-append xs ys, append_assoc)
openings-append (Told.leaf_event ev t ∷ xs) ys = rw (openings-append xs ys, append_assoc)
openings-append (Told.message_fault f ∷ xs) ys = openings-append xs ys
openings-append (Told.refused k ∷ xs) ys = openings-append xs ys

pub no_news : (x : Told) → ◌≡◌ {A = List Told} [] (x ∷ []) → ⊥
no_news x h = let z : ◌≡◌ {A = ℕ} 0 1 = cc in omega arith

-- as many as there are
pub take-taken : (m : ℕ) (xs : Bytes) → take (length (take m xs)) xs ≡ take m xs
take-taken zero xs = refl
take-taken (suc m) [] = refl
take-taken (suc m) (x ∷ xs) = ap (λ (ys : Bytes). x ∷ ys) (take-taken m xs)

pub take-add : (m n : ℕ) (xs : Bytes) → take m xs ++ take n (drop m xs) ≡ take (m + n) xs
take-add zero n xs = rw zero-add
take-add (suc m) n [] = take_all n [] (omega arith) ∙ sym (take_all (suc m + n) [] (omega arith))
take-add (suc m) n (x ∷ xs) = rw suc-add (ap (λ (ys : Bytes). x ∷ ys) (take-add m n xs))

module _ {S : Type 0} where
  -- the bytes given from a part, one exchange on
  pub given-here : (d : Exchange S) (r : Trace S) → given_from (part d) (d ∷ r) ≡ given_from (part d) r + count d
  given-here d r = rw (eq-eqb (part d) (part d) refl)

  pub given-there : (p : ℕ) (d : Exchange S) (r : Trace S) → (part d ≡ p → ⊥) → given_from p (d ∷ r) ≡ given_from p r
  given-there p d r h = rw (ne_eqb (part d) p h, add-zero)

  pub given-none : (p : ℕ) (d : Exchange S) (r : Trace S) → count d ≡ 0 → given_from p (d ∷ r) ≡ given_from p r
  given-none p d r h =
      elim (cases_Bool (eqb (part d) p)) [ inl y ↦ rw (y, h, add-zero) | inr y ↦ rw (y, add-zero) ]
