-- The answers of a reader's calls, as the definition of the calls has them, each refusal by its number. Assumes nothing.
use Rattle.std.specs.Prelude.{ℕ, List, Ok, Err, Result}
use Rattle.byte_lines.specs.Bytes.{Bytes}
use Rattle.head.specs.declared.table.Record.{Record}
use Rattle.calls.specs.Calls as calls
use Rattle.calls.specs.Calls.{HeadSpace}
use Rattle.reader.specs.declared.tickets.Ticket.{Ticket}
use Rattle.reader.specs.declared.answers.Told.{Told}
use Rattle.reader.specs.declared.answers.Told.TheVariants as told
use Rattle.reader.specs.declared.answers.NextRefusal.{NextRefusal}
use Rattle.reader.specs.declared.answers.NextRefusal.TheVariants.{PartOpen, Short}
use Rattle.reader.specs.declared.answers.Given.{Given}
use Rattle.reader.specs.declared.answers.Given.TheVariants as given
use Rattle.reader.specs.declared.answers.WrongTicket.{WrongTicket}
use Rattle.reader.specs.declared.answers.Unpoured.{Unpoured}
use Rattle.reader.specs.declared.answers.Unpoured.TheVariants as unpoured
use Rattle.reader.specs.declared.answers.Unfinished.{Unfinished}
use Rattle.reader.specs.declared.answers.Unfinished.TheVariants as unfinished

-- a ticket by its two numbers
abbrev pub ticket_of : Ticket → calls.Ticket
ticket_of t = record { reader = t.reader; part = t.part }

-- a head buffer and a table
abbrev pub head_space : Bytes → List Record → HeadSpace
head_space b t = record { buffer = b; table = t }

-- next: 1 a part is open, 2 the head buffer or the table is too short
abbrev pub told_of : Result Told NextRefusal → calls.Told
told_of (Ok (told.Event ev)) = calls.Told.event ev
told_of (Ok (told.Leaf ev t)) = calls.Told.leaf_event ev (ticket_of t)
told_of (Ok (told.Fault f)) = calls.Told.message_fault f
told_of (Err PartOpen) = calls.Told.refused 1
told_of (Err Short) = calls.Told.refused 2

-- read: 3 a wrong ticket
abbrev pub read_of : Result Given WrongTicket → calls.ReadAnswer
read_of (Ok (given.Bytes n)) = calls.ReadAnswer.bytes n
read_of (Ok given.Done) = calls.ReadAnswer.done
read_of (Ok (given.Fault f)) = calls.ReadAnswer.body_fault f
read_of (Err w) = calls.ReadAnswer.refused 3

-- pour: 3 a wrong ticket
abbrev pub poured_of : Result ℕ Unpoured → calls.Poured
poured_of (Ok n) = calls.Poured.done n
poured_of (Err (unpoured.Full n t)) = calls.Poured.partly n (ticket_of t)
poured_of (Err (unpoured.Fault n f t)) = calls.Poured.body_fault n f (ticket_of t)
poured_of (Err (unpoured.WrongTicket t)) = calls.Poured.refused 3 (ticket_of t)

-- finish: 3 a wrong ticket, 4 a decoded byte is left
abbrev pub finished_of : Result (Unit {0}) Unfinished → calls.Finished
finished_of (Ok u) = calls.Finished.done
finished_of (Err (unfinished.Fault f t)) = calls.Finished.body_fault f (ticket_of t)
finished_of (Err (unfinished.WrongTicket t)) = calls.Finished.refused 3 (ticket_of t)
finished_of (Err (unfinished.BytesLeft t)) = calls.Finished.refused 4 (ticket_of t)

-- skip: 3 a wrong ticket
abbrev pub skipped_of : Result (Unit {0}) WrongTicket → calls.Skipped
skipped_of (Ok u) = calls.Skipped.done
skipped_of (Err w) = calls.Skipped.refused 3
