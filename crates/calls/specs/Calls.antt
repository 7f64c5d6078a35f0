-- The reader's six calls: what each is handed, what it answers, and what it leaves. Assumes nothing.
use Rattle.std.specs.Prelude.{ℕ, Bool, ◌||◌, List, [], length, nat_lt}
use Rattle.byte_lines.specs.Bytes.{Bytes}
use Rattle.source.specs.declared.ends.Fault.{Fault}
use Rattle.sink.specs.Meanings.{Meaning as SinkMeaning, stepped}
use Rattle.head.specs.declared.table.Record.{Record}
use Rattle.head.specs.Fields.{Field}
use Rattle.head.specs.Packing.{buffer_after, table_after}
use Rattle.message.specs.declared.events.Event.{Event}
use Rattle.message.specs.Entries.{Entry, leaf, opened, closed, ended, failed}

-- a ticket carries a reader's number and a part's
pub record Ticket : Type 0 where
  pub reader : ℕ
  pub part : ℕ

-- what next is lent for a head: a buffer for names and values, and a table of where they lie in it
pub record HeadSpace : Type 0 where
  pub buffer : Bytes
  pub table : List Record

-- a sink of any of the kinds I, where V says of which type a value of a kind is: its kind, and what it means
pub record AnySink (I : Type 0) (V : I → Type 0) : Type 0 where
  pub kind : I
  pub means : SinkMeaning (V kind)

-- the sink stepped through some bytes in order
abbrev pub sink_after : {I : Type 0} {V : I → Type 0} → AnySink I V → Bytes → AnySink I V
sink_after k bs = record { kind = k.kind; means = stepped k.means bs }

-- answers ---------------------------------------------------------------------------------------

-- next tells an event, for a leaf with its ticket, or the message's fault
pub data Told : Type 0 where
  event : Event → Told
  leaf_event : Event → Ticket → Told
  message_fault : Fault → Told
  refused : ℕ → Told

-- read gives so many bytes, or says that the body is done, or tells its fault
pub data ReadAnswer : Type 0 where
  bytes : ℕ → ReadAnswer
  done : ReadAnswer
  body_fault : Fault → ReadAnswer
  refused : ℕ → ReadAnswer

-- pour gave so many bytes: `done` closes the part; with `partly`, which is refusal 5, and with the body's fault it stays open
pub data Poured : Type 0 where
  done : ℕ → Poured
  partly : ℕ → Ticket → Poured
  body_fault : ℕ → Fault → Ticket → Poured
  refused : ℕ → Ticket → Poured

-- finish closes the part with `done`; else it hands the ticket back
pub data Finished : Type 0 where
  done : Finished
  body_fault : Fault → Ticket → Finished
  refused : ℕ → Ticket → Finished

-- skip closes the part with `done`; else the ticket is gone all the same
pub data Skipped : Type 0 where
  done : Skipped
  refused : ℕ → Skipped

-- calls, and exchanges: calls with their answers; S is what a sink means ----------------------------

-- a call, with what it is handed
pub data Call (S : Type 0) : Type 0 where
  next : HeadSpace → Call S
  read : Ticket → Bytes → Call S
  pour : Ticket → S → Call S
  finish : Ticket → Call S
  skip : Ticket → Call S
  delivered : Call S

-- a call that was made: what it was handed, what it left of that, and what it answered
pub data Exchange (S : Type 0) : Type 0 where
  next : (before after : HeadSpace) → Told → Exchange S
  read : Ticket → (before after : Bytes) → ReadAnswer → Exchange S
  pour : Ticket → (before after : S) → Poured → Exchange S
  finish : Ticket → Finished → Exchange S
  skip : Ticket → Skipped → Exchange S
  delivered : ℕ → Exchange S

-- a trace: the exchanges of a run of calls, the latest first
abbrev pub Trace : (S : Type 0) → Type 0
Trace S = List (Exchange S)

-- the call of an exchange
abbrev pub handed : {S : Type 0} → Exchange S → Call S
handed (next b a x) = Call.next b
handed (read t b a x) = Call.read t b
handed (pour t b a x) = Call.pour t b
handed (finish t x) = Call.finish t
handed (skip t x) = Call.skip t
handed (delivered n) = Call.delivered

-- what next makes of an entry of the row ----------------------------------------------------------

-- a head buffer under 8,192 bytes, or a table under 64 records
abbrev pub too_small : HeadSpace → Bool
too_small h = nat_lt (length h.buffer) 8192 || nat_lt (length h.table) 64

-- the head buffer and the table after a head with these fields
unfoldable pub head_after : List Field → HeadSpace → HeadSpace
head_after fs h = record { buffer = buffer_after fs h.buffer; table = table_after fs h.table }

-- what the reader with this number tells of an entry; a leaf's ticket has that number and the leaf's
abbrev pub telling : ℕ → Entry → Told
telling n (leaf ev fs b) = leaf_event ev (record { reader = n; part = ev.number })
telling n (opened ev fs) = event ev
telling n (closed ev) = event ev
telling n (ended ev) = event ev
telling n (failed f) = message_fault f

-- the fields of an entry's head; a closing, the end and a fault have none
abbrev pub fields_in : Entry → List Field
fields_in (leaf ev fs b) = fs
fields_in (opened ev fs) = fs
fields_in (closed ev) = []
fields_in (ended ev) = []
fields_in (failed f) = []
