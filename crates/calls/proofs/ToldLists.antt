-- The tellings of a trace as one list.
use Rattle.std.proofs.Common.{◌≡◌, ℕ, zero, suc, List, [], ◌∷◌, ◌++◌, map, length, refl, ap, ◌∙◌, append-nil, add-one, length-append}
use Rattle.std.proofs.lemmas.List.{map-append}
use Rattle.message.specs.Entries.{Entry}
use Rattle.calls.specs.Calls.{Told, Exchange, Trace, telling}
use Rattle.calls.specs.Traces.{entry, firsts, told, tellings}
use Rattle.calls.specs.RunLaw.{InOrder}

-- a row that is not empty
abbrev pub NotEmpty : List Entry → Type 0
NotEmpty [] = ⊥
NotEmpty (x ∷ xs) = Unit {0}

firsts-suc : (k : ℕ) (row : List Entry) → NotEmpty row → firsts (suc k) row ≡ firsts k row ++ (entry k row ∷ [])
firsts-suc k [] h = absurd h
firsts-suc zero (x ∷ []) h = refl
firsts-suc zero (x ∷ y ∷ ys) h = refl
firsts-suc (suc k) (x ∷ []) h = ap (λ (r : List Entry). x ∷ r) (firsts-suc k (x ∷ []) tt)
firsts-suc (suc k) (x ∷ y ∷ ys) h = ap (λ (r : List Entry). x ∷ r) (firsts-suc k (y ∷ ys) tt)

module _ {S : Type 0} (number : ℕ) (row : List Entry) (holds : NotEmpty row) where
  -- what was told is the first entries of the row
  abbrev Listed : Trace S → Type 0
  Listed r = told r ≡ map (telling number) (firsts (tellings r) row)

  -- one entry more
  more : (r : Trace S) (x : Told) → Listed r → x ≡ telling number (entry (tellings r) row)
      → told r ++ (x ∷ []) ≡ map (telling number) (firsts (length (told r ++ (x ∷ []))) row)
  more r x ih h =
      rw (length-append, add-one, firsts-suc (tellings r) row holds, map-append)
      (ap (λ (u : List Told). u ++ (x ∷ [])) ih ∙ ap (λ (u : Told). map (telling number) (firsts (tellings r) row) ++ (u ∷ [])) h)

  -- nothing more
  same : (r : Trace S) → Listed r → told r ++ [] ≡ map (telling number) (firsts (length (told r ++ [])) row)
  same r ih = rw append-nil ih

  pub listed : (r : Trace S) → InOrder number row r → Listed r
  listed [] h = refl
  listed (Exchange.next b a (Told.event ev) ∷ r) h = more r (Told.event ev) (listed r h.1) h.0.0
  listed (Exchange.next b a (Told.leaf_event ev t) ∷ r) h = more r (Told.leaf_event ev t) (listed r h.1) h.0.0
  listed (Exchange.next b a (Told.message_fault f) ∷ r) h = more r (Told.message_fault f) (listed r h.1) h.0.0
  listed (Exchange.next b a (Told.refused k) ∷ r) h = same r (listed r h.1)
  listed (Exchange.read t b a x ∷ r) h = same r (listed r h.1)
  listed (Exchange.pour t b a x ∷ r) h = same r (listed r h.1)
  listed (Exchange.finish t x ∷ r) h = same r (listed r h.1)
  listed (Exchange.skip t x ∷ r) h = same r (listed r h.1)
  listed (Exchange.delivered n ∷ r) h = same r (listed r h.1)
