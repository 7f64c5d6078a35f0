-- The law of a run: what holds of its trace, whichever calls it holds. It names no state of the reader: all its words are read off
-- the trace, which has the latest exchange first, and off the row of the input. Assumes nothing.
use Rattle.std.specs.Prelude.{◌≡◌, ℕ, ◌<◌, ◌≤◌, min, true, false, List, [], ◌∷◌, ◌++◌, map, length, drop, ◌==◌}
use Rattle.byte_lines.specs.Bytes.{Bytes}
use Rattle.source.specs.declared.ends.End.TheVariants.{Clean, Faulty}
use Rattle.source.specs.Meanings.{Meaning as SourceMeaning}
use Rattle.message.specs.declared.events.Kind.TheVariants.{End as Ending}
use Rattle.message.specs.declared.events.Event.{Event}
use Rattle.message.specs.Entries.{Entry}
use Rattle.message.specs.Rows.{row_of}
use Rattle.calls.specs.Calls.{AnySink, sink_after, Told, ReadAnswer, Poured, Finished, Exchange, Trace, handed, head_after, telling, fields_in}
use Rattle.calls.specs.Traces.{entry, firsts, part_body, up_to, openings, verdict, count, part, completes, news, told, tellings, total, left, due}

-- P of each one and of those that came before it
abbrev pub Every : {A : Type 0} → (P : List A → A → Type 0) → List A → Type 0
Every P [] = Unit {0}
Every P (x ∷ past) = P past x × Every P past

module _ {S : Type 0} where
  -- refusals --------------------------------------------------------------------------------------

  -- a refused call left its buffers, its sink and the ticket that it hands back as they were
  abbrev pub Untouched : Exchange S → Type 0
  Untouched (Exchange.next b a (Told.event ev)) = Unit {0}
  Untouched (Exchange.next b a (Told.leaf_event ev t)) = Unit {0}
  Untouched (Exchange.next b a (Told.message_fault f)) = Unit {0}
  Untouched (Exchange.next b a (Told.refused k)) = a ≡ b
  Untouched (Exchange.read t b a (ReadAnswer.bytes n)) = Unit {0}
  Untouched (Exchange.read t b a ReadAnswer.done) = Unit {0}
  Untouched (Exchange.read t b a (ReadAnswer.body_fault f)) = Unit {0}
  Untouched (Exchange.read t b a (ReadAnswer.refused k)) = a ≡ b
  Untouched (Exchange.pour t b a (Poured.done n)) = Unit {0}
  Untouched (Exchange.pour t b a (Poured.partly n u)) = Unit {0}
  Untouched (Exchange.pour t b a (Poured.body_fault n f u)) = Unit {0}
  Untouched (Exchange.pour t b a (Poured.refused k u)) = (a ≡ b) × (u ≡ t)
  Untouched (Exchange.finish t Finished.done) = Unit {0}
  Untouched (Exchange.finish t (Finished.body_fault f u)) = u ≡ t
  Untouched (Exchange.finish t (Finished.refused k u)) = u ≡ t
  Untouched (Exchange.skip t x) = Unit {0}
  Untouched (Exchange.delivered n) = Unit {0}

  -- the calls that were refused are those that have to be, by the right number or fault, and no others
  abbrev pub Refusals : (reader : ℕ) → List Entry → Trace S → Type 0
  Refusals reader row = Every (λ past x. (verdict x ≡ due reader row past (handed x)) × Untouched x)

  -- what next told --------------------------------------------------------------------------------

  -- a next that was not refused told the entry e, and left that entry's fields in head buffer and table
  abbrev pub Tells : (reader : ℕ) → (e : Entry) → Exchange S → Type 0
  Tells reader e (Exchange.next b a (Told.event ev)) = (Told.event ev ≡ telling reader e) × (a ≡ head_after (fields_in e) b)
  Tells reader e (Exchange.next b a (Told.leaf_event ev t)) = (Told.leaf_event ev t ≡ telling reader e) × (a ≡ head_after (fields_in e) b)
  Tells reader e (Exchange.next b a (Told.message_fault f)) = (Told.message_fault f ≡ telling reader e) × (a ≡ head_after (fields_in e) b)
  Tells reader e (Exchange.next b a (Told.refused k)) = Unit {0}
  Tells reader e (Exchange.read t b a x) = Unit {0}
  Tells reader e (Exchange.pour t b a x) = Unit {0}
  Tells reader e (Exchange.finish t x) = Unit {0}
  Tells reader e (Exchange.skip t x) = Unit {0}
  Tells reader e (Exchange.delivered n) = Unit {0}

  -- each next that was not refused told the entry whose turn it was: the row's entries in their order, the last again and again
  abbrev pub InOrder : (reader : ℕ) → List Entry → Trace S → Type 0
  InOrder reader row = Every (λ past x. Tells reader (entry (tellings past) row) x)

  -- where next tells kind 4, whose number is the count of entities, entities 1 to that number were told as opened before
  abbrev pub EndsWhole : Trace S → Exchange S → Type 0
  EndsWhole past x = (ev : Event) → news x ≡ Told.event ev ∷ [] → ev.kind ≡ Ending → openings (told past) ≡ up_to ev.number

-- what read and pour gave -------------------------------------------------------------------------

-- an exchange, and the bytes that it gave
pub record Item (S : Type 0) : Type 0 where
  pub exchange : Exchange S
  pub gave : Bytes

-- the bytes given from part p, joined
abbrev pub joined : {S : Type 0} → (p : ℕ) → List (Item S) → Bytes
joined p [] = []
joined p (x ∷ past) = joined p past ++ elim (part x.exchange == p) [ true ↦ x.gave | false ↦ [] ]

module _ {I : Type 0} {V : I → Type 0} where
  -- after a read that gave g the buffer holds g and then what it held there before; a pour stepped the sink through g
  abbrev pub Leaves : (g : Bytes) → Exchange (AnySink I V) → Type 0
  Leaves g (Exchange.next b a x) = Unit {0}
  Leaves g (Exchange.read t b a x) = a ≡ g ++ drop (length g) b
  Leaves g (Exchange.pour t b a x) = a ≡ sink_after b g
  Leaves g (Exchange.finish t x) = Unit {0}
  Leaves g (Exchange.skip t x) = Unit {0}
  Leaves g (Exchange.delivered n) = Unit {0}

  -- the exchange gave these bytes: as many as its answer says, to its buffer or sink
  abbrev pub Gave : Item (AnySink I V) → Type 0
  Gave x = (length x.gave ≡ count x.exchange) × Leaves x.gave x.exchange

  -- the answers to read, pour and delivered: of the decoded bytes left as many as buffer or space take, 0 for an empty buffer;
  -- done, or the body's fault, where none is left; and the sum of all counts before
  abbrev pub Counted : List Entry → Trace (AnySink I V) → Exchange (AnySink I V) → Type 0
  Counted row past (Exchange.next b a x) = Unit {0}
  Counted row past (Exchange.read t b a (ReadAnswer.bytes n)) = (n ≡ min (left row t.part past) (length b)) × (n ≡ 0 → length b ≡ 0)
  Counted row past (Exchange.read t b a ReadAnswer.done) =
      (left row t.part past ≡ 0) × (0 < length b) × ((part_body row t.part).ending ≡ Clean)
  Counted row past (Exchange.read t b a (ReadAnswer.body_fault f)) =
      (left row t.part past ≡ 0) × (0 < length b) × ((part_body row t.part).ending ≡ Faulty f)
  Counted row past (Exchange.read t b a (ReadAnswer.refused k)) = Unit {0}
  Counted row past (Exchange.pour t b a (Poured.done n)) =
      (n ≡ left row t.part past) × (n ≤ b.means.space) × ((part_body row t.part).ending ≡ Clean)
  Counted row past (Exchange.pour t b a (Poured.body_fault n f u)) =
      (n ≡ left row t.part past) × (n ≤ b.means.space) × ((part_body row t.part).ending ≡ Faulty f) × (u ≡ t)
  Counted row past (Exchange.pour t b a (Poured.partly n u)) = (n ≡ b.means.space) × (n < left row t.part past) × (u ≡ t)
  Counted row past (Exchange.pour t b a (Poured.refused k u)) = Unit {0}
  Counted row past (Exchange.finish t x) = Unit {0}
  Counted row past (Exchange.skip t x) = Unit {0}
  Counted row past (Exchange.delivered n) = n ≡ total past

  -- the bytes given from part p, joined, are the first of its decoded body
  pub record FirstBytes (row : List Entry) (items : List (Item (AnySink I V))) (p : ℕ) : Type 0 where
    pub rest : Bytes
    pub whole : joined p items ++ rest ≡ (part_body row p).bytes

  -- and all of it where pour or finish closed the part or read said done
  abbrev pub Whole : List Entry → List (Item (AnySink I V)) → Item (AnySink I V) → Type 0
  Whole row past x = completes x.exchange ≡ true → joined (part x.exchange) (x ∷ past) ≡ (part_body row (part x.exchange)).bytes

  -- which bytes were given
  pub record Delivery (row : List Entry) (trace : Trace (AnySink I V)) : Type 0 where
    -- the exchanges, each with the bytes that it gave
    pub items : List (Item (AnySink I V))
    pub same : map (λ x. x.exchange) items ≡ trace
    pub gave : Every (λ past x. Gave x) items
    pub first : (p : ℕ) → FirstBytes row items p
    pub whole : Every (Whole row) items

  -- the law -----------------------------------------------------------------------------------------

  -- the trace keeps the law of a reader with this number that was made over a source with this meaning
  pub record KeepsLaw (number : ℕ) (m : SourceMeaning) (trace : Trace (AnySink I V)) : Type 0 where
    pub refusals : Refusals number (row_of m) trace
    -- the nexts not refused told, one each, the first entries of the row, its last again and again
    pub tells : told trace ≡ map (telling number) (firsts (tellings trace) (row_of m))
    pub in_order : InOrder number (row_of m) trace
    -- the entities told as opened are 1, 2, 3 and so on, each once
    pub once : openings (told trace) ≡ up_to (length (openings (told trace)))
    pub ends_whole : Every EndsWhole trace
    pub counted : Every (Counted (row_of m)) trace
    pub delivery : Delivery (row_of m) trace
