-- What holds of every row. Assumes nothing.
use Rattle.std.specs.Prelude.{◌≡◌, ℕ, suc, ◌+◌, ◌≤◌, List, [], ◌∷◌, length, take, drop}
use Rattle.byte_lines.specs.Bytes.{Bytes}
use Rattle.source.specs.Meanings.{Meaning}
use Rattle.input.specs.Inputs.{first}
use Rattle.message.specs.declared.events.Event.{Event}
use Rattle.message.specs.Entries.{Entry, leaf, opened, closed, ended, failed}
use Rattle.message.specs.Rows.{row_of}

-- the number of the innermost of the groups that were opened and not closed, 0 for none
abbrev pub parent_in : List Event → ℕ
parent_in [] = 0
parent_in (o ∷ os) = o.number

-- the entity opens as the next after n, inside these groups
pub record Opens (open-groups : List Event) (n : ℕ) (ev : Event) : Type 0 where
  pub number : ev.number ≡ suc n
  pub parent : ev.parent ≡ parent_in open-groups
  pub depth : ev.depth ≡ length open-groups

-- the closing has the number, parent and depth of the opening o
pub record Shuts (o ev : Event) : Type 0 where
  pub number : ev.number ≡ o.number
  pub parent : ev.parent ≡ o.parent
  pub depth : ev.depth ≡ o.depth

-- it closes the deepest of the open groups
abbrev pub ShutsDeepest : List Event → Event → Type 0
ShutsDeepest [] ev = ⊥
ShutsDeepest (o ∷ os) ev = Shuts o ev

abbrev pub others : List Event → List Event
others [] = []
others (o ∷ os) = os

-- a row from where these groups are open, by their openings, deepest first, and n entities were told: entities are numbered one after
-- the other, with the parent and the depth of the groups open around them; a closing closes the deepest group; and the row stops at
-- its one end, with no group open and the count of entities, or at its one fault
abbrev pub Proceeds : List Event → ℕ → List Entry → Type 0
Proceeds os n [] = ⊥
Proceeds os n (leaf ev fs b ∷ r) = Opens os n ev × Proceeds os (suc n) r
Proceeds os n (opened ev fs ∷ r) = Opens os n ev × Proceeds (ev ∷ os) (suc n) r
Proceeds os n (closed ev ∷ r) = ShutsDeepest os ev × Proceeds (others os) n r
Proceeds os n (ended ev ∷ r) = (os ≡ []) × (ev.number ≡ n) × (r ≡ [])
Proceeds os n (failed f ∷ r) = r ≡ []

-- the raw bodies are stretches of the input s, which lie one behind the other from the offset `at` on
abbrev pub Stretches : (s : Bytes) → (at : ℕ) → List Entry → Type 0
Stretches s at [] = Unit {0}
Stretches s at (leaf ev fs b ∷ r) = (at ≤ b.from) × (b.raw ≡ take (length b.raw) (drop b.from s)) × Stretches s (b.from + length b.raw) r
Stretches s at (opened ev fs ∷ r) = Stretches s at r
Stretches s at (closed ev ∷ r) = Stretches s at r
Stretches s at (ended ev ∷ r) = Stretches s at r
Stretches s at (failed f ∷ r) = Stretches s at r

abbrev pub RowsProceed : Type 0
RowsProceed = (m : Meaning) → Proceeds [] 0 (row_of m)

abbrev pub BodiesInOrder : Type 0
BodiesInOrder = (m : Meaning) → Stretches (first 16777216 m).left 0 (row_of m)
