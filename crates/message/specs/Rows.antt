-- The row of an input and its end: the events of its entities, in order. Assumes nothing.
use Rattle.std.specs.Prelude.{ℕ, ◌+◌, Bool, true, false, List, [], ◌∷◌, ◌++◌, length}
use Rattle.byte_lines.specs.Lines.{Line, width, lines}
use Rattle.source.specs.declared.ends.Fault.{Fault}
use Rattle.source.specs.declared.ends.End.{End}
use Rattle.source.specs.declared.ends.End.TheVariants.{Clean, Faulty}
use Rattle.source.specs.Meanings.{Meaning, fault}
use Rattle.coding.specs.declared.decoder.Coding.TheVariants.{Plain}
use Rattle.coding.specs.Codings.{coding_by}
use Rattle.input.specs.Inputs.{first}
use Rattle.head.specs.Fields.{Field, fields_of}
use Rattle.head.specs.LineFaults.{Verdict, passes, faulty, judged}
use Rattle.head.specs.Media.{absent}
use Rattle.head.specs.Entities as entities
use Rattle.head.specs.Entities.{Entity, entity}
use Rattle.message.specs.declared.events.Kind.TheVariants.{Leaf, Group as AGroup}
use Rattle.message.specs.declared.events.Event.{Event}
use Rattle.message.specs.Groups.{Group, innermost, Role, role, separates, closes, text}
use Rattle.message.specs.Entries.{Entry, Body, leaf, opened, closed, ended, failed, event, close_event, end_event}
use Rattle.message.specs.Heads.{Stop, at_line, at_empty, at_end, Head, head}
use Rattle.message.specs.Bodies.{body, body_end, end_in}

-- what an entity does as its head ends: it fails, or it opens, as a leaf or as a group
pub data Opening : Type 0 where
  fails : Fault → Opening
  opens_leaf : Event → List Field → Body → Opening
  opens_group : Event → List Field → Group → Opening

-- the groups gs, deepest first, are closed by the line at the offset `at`, with that mark
abbrev pub closing : (at mark : ℕ) → (gs around : List Group) → List Entry → List Entry
closing at m [] around r = r
closing at m (g ∷ gs) around r = closed (close_event g.number (innermost (gs ++ around)) (length (gs ++ around)) at m) ∷ closing at m gs around r

-- an entity's opening, before what follows; after a head's fault nothing follows
abbrev pub told : Opening → List Entry → List Entry
told (fails f) r = failed f ∷ []
told (opens_leaf ev fs b) r = leaf ev fs b ∷ r
told (opens_group ev fs g) r = opened ev fs ∷ r

-- the group that an opening opens, if it does
abbrev pub new_group : Opening → List Group
new_group (fails f) = []
new_group (opens_leaf ev fs b) = []
new_group (opens_group ev fs g) = g ∷ []

-- what the line at hand belongs to: a head, with the group that opens as it ends, if one does; or a body or what is dropped
pub data Mode : Type 0 where
  heading : (opens : List Group) → Mode
  passing : Mode

abbrev pub opens : Mode → List Group
opens (heading gs) = gs
opens passing = []

-- the message's end: kind 4, or the fault in its place
abbrev pub last_entry : End → (entities at : ℕ) → List Entry
last_entry Clean n at = ended (end_event n at) ∷ []
last_entry (Faulty f) n at = failed f ∷ []

-- a head's end: clean where a line ends it, else the end e of the input as it is met inside the groups around
abbrev pub head_end : List Group → Stop → (at : ℕ) → End → End
head_end gs at_line at e = Clean
head_end gs at_empty at e = Clean
head_end gs at_end at e = end_in gs at e

-- a head's own faults 41 to 43 come first, then a faulty end that it meets
abbrev pub unless : (at : ℕ) → Verdict → End → Opening → Opening
unless at (faulty number offset) e o = fails (fault number 4 (at + offset))
unless at (passes n) (Faulty f) o = fails f
unless at (passes n) Clean o = o

-- what a line at the offset `at` brings, by its role and by whether it is empty: `entityOpens` is what the entity does whose head begins
-- behind the line, inside some groups, and `after` the row from there on
abbrev pub line_row : Role → List Group → (n : ℕ) → Mode → (at : ℕ) → (empty : Bool) → (entity_opens : List Group → Opening) → (after : List Group → ℕ → Mode → List Entry) → List Entry
line_row (separates deeper g around) gs n m at empty entity_opens after =
    let o : Opening = entity_opens (g ∷ around) in
    closing at 4 (opens m ++ deeper) (g ∷ around) (told o (after (g ∷ around) (n + 1) (heading (new_group o))))
line_row (closes deeper g around) gs n m at empty entity_opens after =
    closing at 4 (opens m ++ deeper) (g ∷ around) (closing at 0 (g ∷ []) around (after around n passing))
line_row text gs n (heading hs) at true entity_opens after = after (hs ++ gs) n passing
line_row text gs n (heading hs) at false entity_opens after = after gs n (heading hs)
line_row text gs n passing at empty entity_opens after = after gs n passing

-- e is the input's end
module _ (e : End) where
  -- entity n, with its head h at the offset `at`, by what its fields make of it
  abbrev pub opening_by : List Group → (n at : ℕ) → Head → List Field → Entity → Opening
  opening_by gs n at h fs (entities.refused number) = fails (fault number 4 at)
  opening_by gs n at h fs (entities.group b) =
      opens_group (event AGroup n (innermost gs) (length gs) at Plain 0 (length fs)) fs (record { number = n; boundary = b })
  opening_by gs n at h fs (entities.leaf coding marks) =
      opens_leaf (event Leaf n (innermost gs) (length gs) at (coding_by coding) marks (length fs)) fs
      (record { from = h.from; raw = body gs h.rest; ending = body_end gs h.from h.rest e })

  -- entity n inside the groups gs, whose head begins at the offset `at`, with the lines from there on
  unfoldable pub opening : List Group → (n at : ℕ) → List Line → Opening
  opening gs n at ls =
      let h : Head = head gs at ls in
      let fs : List Field = fields_of h.lines in
      unless at (judged 0 0 h.lines) (head_end gs h.stop h.from e) (opening_by gs n at h fs (entity (length gs) fs))

  -- the row from here on: inside the groups gs, with n entities so far, in that mode, at the start of the line at the offset `at`
  unfoldable pub row : List Group → (n : ℕ) → Mode → (at : ℕ) → List Line → List Entry
  row gs n m at [] = last_entry (end_in (opens m ++ gs) at e) n at
  row gs n m at (l ∷ ls) =
      line_row (role gs l.content) gs n m at (absent l.content) (λ gs'. opening gs' (n + 1) (at + width l) ls)
      (λ gs' n' m'. row gs' n' m' (at + width l) ls)

  -- the row from a line on whose role is known, in a body or where lines are dropped
  abbrev pub row_at_line : Role → List Group → (n at : ℕ) → List Line → List Entry
  row_at_line r gs n at [] = last_entry (end_in gs at e) n at
  row_at_line r gs n at (l ∷ ls) =
      line_row r gs n passing at (absent l.content) (λ gs'. opening gs' (n + 1) (at + width l) ls) (λ gs' n' m'. row gs' n' m' (at + width l) ls)

  -- the row from an entity's head on: it is told, and then its lines
  abbrev pub entity_row : List Group → (n at : ℕ) → List Line → List Entry
  entity_row gs n at ls = let o : Opening = opening gs (n + 1) at ls in told o (row gs (n + 1) (heading (new_group o)) at ls)

  -- the top entity has its head at offset 0
  abbrev pub message_row : List Line → List Entry
  message_row ls = entity_row [] 0 0 ls

-- the row of what a source means: its first 16,777,216 bytes are the input
unfoldable pub row_of : Meaning → List Entry
row_of m = message_row (first 16777216 m).ending (lines (first 16777216 m).left)
