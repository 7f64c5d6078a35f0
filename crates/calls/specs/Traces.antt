-- The words of the law: what is read off a row, off an exchange and off a trace. A trace is a list of exchanges, the latest first.
-- Assumes nothing.
use Rattle.std.specs.Prelude.{ℕ, zero, suc, ◌+◌, ◌-◌, Bool, true, false, ◌&&◌, List, [], ◌∷◌, ◌++◌, length, Some, None, Option, ◌==◌, nat_lt}
use Rattle.source.specs.declared.ends.Fault.{Fault}
use Rattle.source.specs.declared.ends.End.{End}
use Rattle.source.specs.declared.ends.End.TheVariants.{Clean, Faulty}
use Rattle.source.specs.Meanings.{fault}
use Rattle.coding.specs.Decoding.{Decoded, gives}
use Rattle.message.specs.declared.events.Kind.{Kind}
use Rattle.message.specs.declared.events.Kind.TheVariants.{Leaf, Group, Close, End as Ending}
use Rattle.message.specs.Entries.{Entry, leaf, opened, closed, ended, failed, decoded_body}
use Rattle.calls.specs.Calls.{Ticket, Told, ReadAnswer, Poured, Finished, Skipped, Call, Exchange, Trace, too_small}

-- words of a row ----------------------------------------------------------------------------------

-- entry k of a row, from 0, or its last where there are fewer
abbrev pub entry : (k : ℕ) → List Entry → Entry
entry k [] = failed (fault 0 0 0)
entry k (x ∷ []) = x
entry zero (x ∷ y ∷ ys) = x
entry (suc k) (x ∷ y ∷ ys) = entry k (y ∷ ys)

-- the first k entries of a row, its last again and again
abbrev pub firsts : (k : ℕ) → List Entry → List Entry
firsts zero row = []
firsts (suc k) [] = []
firsts (suc k) (x ∷ []) = x ∷ firsts k (x ∷ [])
firsts (suc k) (x ∷ y ∷ ys) = x ∷ firsts k (y ∷ ys)

-- the decoded body of part p: of the leaf with that number
abbrev pub part_body : List Entry → (p : ℕ) → Decoded
part_body [] p = gives [] Clean
part_body (leaf ev fs b ∷ es) p = elim (ev.number == p) [ true ↦ decoded_body ev b | false ↦ part_body es p ]
part_body (opened ev fs ∷ es) p = part_body es p
part_body (closed ev ∷ es) p = part_body es p
part_body (ended ev ∷ es) p = part_body es p
part_body (failed f ∷ es) p = part_body es p

-- 1, 2, … n
abbrev pub up_to : (n : ℕ) → List ℕ
up_to zero = []
up_to (suc n) = up_to n ++ (suc n ∷ [])

-- the number n if an event of this kind opens an entity, a leaf or a group
abbrev pub if_opening : Kind → (n : ℕ) → List ℕ
if_opening Leaf n = n ∷ []
if_opening Group n = n ∷ []
if_opening Close n = []
if_opening Ending n = []

-- the numbers of the entities that were told as opened, in the order of the tellings
abbrev pub openings : List Told → List ℕ
openings [] = []
openings (Told.event ev ∷ ts) = if_opening ev.kind ev.number ++ openings ts
openings (Told.leaf_event ev t ∷ ts) = if_opening ev.kind ev.number ++ openings ts
openings (Told.message_fault f ∷ ts) = openings ts
openings (Told.refused k ∷ ts) = openings ts

-- words of an exchange ----------------------------------------------------------------------------

-- whether a call was granted or refused, and by what: a refusal's number, or the body's fault at finish
pub data Verdict : Type 0 where
  granted : Verdict
  refused_by : ℕ → Verdict
  faulty_by : Fault → Verdict

module _ {S : Type 0} where
  -- what became of the call
  abbrev pub verdict : Exchange S → Verdict
  verdict (Exchange.next b a (Told.event ev)) = granted
  verdict (Exchange.next b a (Told.leaf_event ev t)) = granted
  verdict (Exchange.next b a (Told.message_fault f)) = granted
  verdict (Exchange.next b a (Told.refused k)) = refused_by k
  verdict (Exchange.read t b a (ReadAnswer.bytes n)) = granted
  verdict (Exchange.read t b a ReadAnswer.done) = granted
  verdict (Exchange.read t b a (ReadAnswer.body_fault f)) = granted
  verdict (Exchange.read t b a (ReadAnswer.refused k)) = refused_by k
  verdict (Exchange.pour t b a (Poured.done n)) = granted
  verdict (Exchange.pour t b a (Poured.partly n u)) = granted
  verdict (Exchange.pour t b a (Poured.body_fault n f u)) = granted
  verdict (Exchange.pour t b a (Poured.refused k u)) = refused_by k
  verdict (Exchange.finish t Finished.done) = granted
  verdict (Exchange.finish t (Finished.body_fault f u)) = faulty_by f
  verdict (Exchange.finish t (Finished.refused k u)) = refused_by k
  verdict (Exchange.skip t Skipped.done) = granted
  verdict (Exchange.skip t (Skipped.refused k)) = refused_by k
  verdict (Exchange.delivered n) = granted

  -- the part that the exchange opened: its leaf was told
  abbrev pub opening : Exchange S → Option ℕ
  opening (Exchange.next b a (Told.event ev)) = None
  opening (Exchange.next b a (Told.leaf_event ev t)) = Some ev.number
  opening (Exchange.next b a (Told.message_fault f)) = None
  opening (Exchange.next b a (Told.refused k)) = None
  opening (Exchange.read t b a x) = None
  opening (Exchange.pour t b a x) = None
  opening (Exchange.finish t x) = None
  opening (Exchange.skip t x) = None
  opening (Exchange.delivered n) = None

  -- pour, finish or skip closed the part
  abbrev pub closing : Exchange S → Bool
  closing (Exchange.next b a x) = false
  closing (Exchange.read t b a x) = false
  closing (Exchange.pour t b a (Poured.done n)) = true
  closing (Exchange.pour t b a (Poured.partly n u)) = false
  closing (Exchange.pour t b a (Poured.body_fault n f u)) = false
  closing (Exchange.pour t b a (Poured.refused k u)) = false
  closing (Exchange.finish t Finished.done) = true
  closing (Exchange.finish t (Finished.body_fault f u)) = false
  closing (Exchange.finish t (Finished.refused k u)) = false
  closing (Exchange.skip t Skipped.done) = true
  closing (Exchange.skip t (Skipped.refused k)) = false
  closing (Exchange.delivered n) = false

  -- how many bytes the answer says that read or pour gave
  abbrev pub count : Exchange S → ℕ
  count (Exchange.next b a x) = 0
  count (Exchange.read t b a (ReadAnswer.bytes n)) = n
  count (Exchange.read t b a ReadAnswer.done) = 0
  count (Exchange.read t b a (ReadAnswer.body_fault f)) = 0
  count (Exchange.read t b a (ReadAnswer.refused k)) = 0
  count (Exchange.pour t b a (Poured.done n)) = n
  count (Exchange.pour t b a (Poured.partly n u)) = n
  count (Exchange.pour t b a (Poured.body_fault n f u)) = n
  count (Exchange.pour t b a (Poured.refused k u)) = 0
  count (Exchange.finish t x) = 0
  count (Exchange.skip t x) = 0
  count (Exchange.delivered n) = 0

  -- the part of the ticket that was handed in, 0 where none was
  abbrev pub part : Exchange S → ℕ
  part (Exchange.next b a x) = 0
  part (Exchange.read t b a x) = t.part
  part (Exchange.pour t b a x) = t.part
  part (Exchange.finish t x) = t.part
  part (Exchange.skip t x) = t.part
  part (Exchange.delivered n) = 0

  -- pour or finish closed the part, or read said done
  abbrev pub completes : Exchange S → Bool
  completes (Exchange.next b a x) = false
  completes (Exchange.read t b a (ReadAnswer.bytes n)) = false
  completes (Exchange.read t b a ReadAnswer.done) = true
  completes (Exchange.read t b a (ReadAnswer.body_fault f)) = false
  completes (Exchange.read t b a (ReadAnswer.refused k)) = false
  completes (Exchange.pour t b a (Poured.done n)) = true
  completes (Exchange.pour t b a (Poured.partly n u)) = false
  completes (Exchange.pour t b a (Poured.body_fault n f u)) = false
  completes (Exchange.pour t b a (Poured.refused k u)) = false
  completes (Exchange.finish t Finished.done) = true
  completes (Exchange.finish t (Finished.body_fault f u)) = false
  completes (Exchange.finish t (Finished.refused k u)) = false
  completes (Exchange.skip t x) = false
  completes (Exchange.delivered n) = false

  -- what a next that was not refused told, one or none
  abbrev pub news : Exchange S → List Told
  news (Exchange.next b a (Told.event ev)) = Told.event ev ∷ []
  news (Exchange.next b a (Told.leaf_event ev t)) = Told.leaf_event ev t ∷ []
  news (Exchange.next b a (Told.message_fault f)) = Told.message_fault f ∷ []
  news (Exchange.next b a (Told.refused k)) = []
  news (Exchange.read t b a x) = []
  news (Exchange.pour t b a x) = []
  news (Exchange.finish t x) = []
  news (Exchange.skip t x) = []
  news (Exchange.delivered n) = []

  -- words of a trace ------------------------------------------------------------------------------

  -- what the nexts not refused told, the first first
  abbrev pub told : Trace S → List Told
  told [] = []
  told (x ∷ past) = told past ++ news x

  -- how many nexts were not refused
  abbrev pub tellings : Trace S → ℕ
  tellings trace = length (told trace)

  -- the part that is open: its leaf was told, and no pour, finish or skip has closed it since
  abbrev pub open_part : Trace S → Option ℕ
  open_part [] = None
  open_part (x ∷ past) = elim (opening x) [ Some p ↦ Some p | None ↦ elim (closing x) [ true ↦ None | false ↦ open_part past ] ]

  -- how many bytes were given from part p
  abbrev pub given_from : (p : ℕ) → Trace S → ℕ
  given_from p [] = 0
  given_from p (x ∷ past) = given_from p past + elim (part x == p) [ true ↦ count x | false ↦ 0 ]

  -- how many bytes were given in all
  abbrev pub total : Trace S → ℕ
  total [] = 0
  total (x ∷ past) = total past + count x

  -- how many decoded bytes of part p are left
  abbrev pub left : List Entry → (p : ℕ) → Trace S → ℕ
  left row p past = length (part_body row p).bytes - given_from p past

-- refusals ----------------------------------------------------------------------------------------

-- the part p is the one that is open
abbrev pub is_part : (p : ℕ) → Option ℕ → Bool
is_part p None = false
is_part p (Some q) = p == q

-- what finish gets where no byte is left: the body's fault if it has one
abbrev pub by_end : End → Verdict
by_end Clean = granted
by_end (Faulty f) = faulty_by f

module _ {S : Type 0} where
  -- a ticket is right if both its numbers are those of the part now open
  abbrev pub right : (reader : ℕ) → Trace S → Ticket → Bool
  right reader past t = t.reader == reader && is_part t.part (open_part past)

  -- what a call has to get after this past: 1 a part is open, 2 head buffer or table too small, 3 a wrong ticket, 4 a byte is left
  abbrev pub due : (reader : ℕ) → List Entry → Trace S → Call S → Verdict
  due reader row past (Call.next h) =
      elim (open_part past) [ Some p ↦ refused_by 1 | None ↦ elim (too_small h) [ true ↦ refused_by 2 | false ↦ granted ] ]
  due reader row past (Call.read t b) = elim (right reader past t) [ true ↦ granted | false ↦ refused_by 3 ]
  due reader row past (Call.pour t k) = elim (right reader past t) [ true ↦ granted | false ↦ refused_by 3 ]
  due reader row past (Call.finish t) =
      elim (right reader past t) [
        | true ↦ elim (nat_lt 0 (left row t.part past)) [ true ↦ refused_by 4 | false ↦ by_end (part_body row t.part).ending ]
        | false ↦ refused_by 3
      ]
  due reader row past (Call.skip t) = elim (right reader past t) [ true ↦ granted | false ↦ refused_by 3 ]
  due reader row past Call.delivered = granted
