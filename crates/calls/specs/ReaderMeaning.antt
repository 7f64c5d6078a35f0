-- What a reader means, and its calls as steps of that meaning. Assumes nothing.
use Rattle.std.specs.Prelude.{ℕ, ◌+◌, Bool, true, false, ◌&&◌, List, [], ◌∷◌, ◌++◌, length, take, drop, Some, None, Option, ◌==◌}
use Rattle.byte_lines.specs.Bytes.{Bytes}
use Rattle.source.specs.declared.ends.End.{End}
use Rattle.source.specs.declared.ends.End.TheVariants.{Clean, Faulty}
use Rattle.source.specs.Meanings.{Meaning as SourceMeaning, fault}
use Rattle.message.specs.Entries.{Entry, leaf, opened, closed, ended, failed, decoded_body}
use Rattle.message.specs.Rows.{row_of}
use Rattle.calls.specs.Calls.{Ticket, HeadSpace, AnySink, sink_after, Told, ReadAnswer, Poured, Finished, Skipped, Call, Exchange, Trace, too_small, head_after, telling, fields_in}

-- the open part: its number, the decoded bytes left in it, and the end behind them, faulty where the body has a fault
pub record Part : Type 0 where
  pub number : ℕ
  pub left : Bytes
  pub ending : End

-- what a reader means: its number, the entries that next has yet to tell, of which the last stays for ever, the open part,
-- and the total of bytes that read and pour gave
pub record Meaning : Type 0 where
  pub number : ℕ
  pub ahead : List Entry
  pub part : Option Part
  pub delivered : ℕ

-- a reader with the number n, just made over a source that means m
unfoldable pub made : (n : ℕ) → (m : SourceMeaning) → Meaning
made n m = record { number = n; ahead = row_of m; part = None; delivered = 0 }

-- words for the calls -----------------------------------------------------------------------------

-- the entry that next tells (a row is never empty)
abbrev pub first : List Entry → Entry
first [] = failed (fault 0 0 0)
first (x ∷ xs) = x

-- the entries after it is told
abbrev pub rest : List Entry → List Entry
rest [] = []
rest (x ∷ []) = x ∷ []
rest (x ∷ y ∷ ys) = y ∷ ys

-- the part that an entry opens: a leaf's, with its whole decoded body left
abbrev pub opens : Entry → Option Part
opens (leaf ev fs b) = Some (record { number = ev.number; left = (decoded_body ev b).bytes; ending = (decoded_body ev b).ending })
opens (opened ev fs) = None
opens (closed ev) = None
opens (ended ev) = None
opens (failed f) = None

-- the open part, if the ticket is right: both its numbers are those of the part now open
abbrev pub fitting : (reader : ℕ) → Ticket → Option Part → Option Part
fitting n t None = None
fitting n t (Some p) = elim (t.reader == n && t.part == p.number) [ true ↦ Some p | false ↦ None ]

-- what read answers, by its buffer, the decoded bytes left and the body's end
abbrev pub read_answer : (buffer left : Bytes) → End → ReadAnswer
read_answer [] left e = ReadAnswer.bytes 0
read_answer (b ∷ bs) [] Clean = ReadAnswer.done
read_answer (b ∷ bs) [] (Faulty f) = ReadAnswer.body_fault f
read_answer (b ∷ bs) (x ∷ xs) e = ReadAnswer.bytes (length (take (length (b ∷ bs)) (x ∷ xs)))

-- what pour answers after n bytes, by the decoded bytes then left and the body's end
abbrev pub pour_answer : Ticket → (n : ℕ) → (left : Bytes) → End → Poured
pour_answer t n [] Clean = Poured.done n
pour_answer t n [] (Faulty f) = Poured.body_fault n f t
pour_answer t n (x ∷ xs) e = Poured.partly n t

-- what finish answers, by the decoded bytes left and the body's end
abbrev pub finish_answer : Ticket → (left : Bytes) → End → Finished
finish_answer t [] Clean = Finished.done
finish_answer t [] (Faulty f) = Finished.body_fault f t
finish_answer t (x ∷ xs) e = Finished.refused 4 t

-- the part, still open, with n bytes less left
abbrev pub less : (n : ℕ) → Part → Option Part
less n p = Some (record { number = p.number; left = drop n p.left; ending = p.ending })

-- the part after pour gave n bytes, by what is then left and the body's end
abbrev pub after_pour : (n : ℕ) → Part → (left : Bytes) → End → Option Part
after_pour n p [] Clean = None
after_pour n p [] (Faulty f) = less n p
after_pour n p (x ∷ xs) e = less n p

-- the part after finish, by what is left and the body's end
abbrev pub after_finish : Part → (left : Bytes) → End → Option Part
after_finish p [] Clean = None
after_finish p [] (Faulty f) = Some p
after_finish p (x ∷ xs) e = Some p

-- the meaning with that part open, after n bytes more were given
abbrev pub giving : Meaning → Option Part → (n : ℕ) → Meaning
giving m p n = record { number = m.number; ahead = m.ahead; part = p; delivered = m.delivered + n }

-- what a call answers, what it leaves of what it was lent, and the meaning after it
pub record Reply (A B : Type 0) : Type 0 where
  pub answer : A
  pub leaves : B
  pub meaning : Meaning

-- a reply of these three
abbrev pub reply : {A B : Type 0} → A → B → Meaning → Reply A B
reply a b m = record { answer = a; leaves = b; meaning = m }

-- the calls by their cases: the part that is open, or, with a ticket, that part if the ticket is right -------

-- next, where a part is open or not, and the head buffer or table is too small or not
abbrev pub next_by : Meaning → HeadSpace → Option Part → (small : Bool) → Reply Told HeadSpace
next_by m h (Some p) small = reply (Told.refused 1) h m
next_by m h None true = reply (Told.refused 2) h m
next_by m h None false =
    reply (telling m.number (first m.ahead)) (head_after (fields_in (first m.ahead)) h)
    (record { number = m.number; ahead = rest m.ahead; part = opens (first m.ahead); delivered = m.delivered })

-- read gives as many of the bytes left as the buffer takes; the rest of the buffer keeps its bytes
abbrev pub read_by : Meaning → Bytes → Option Part → Reply ReadAnswer Bytes
read_by m b None = reply (ReadAnswer.refused 3) b m
read_by m b (Some p) =
    let gave : Bytes = take (length b) p.left in
    reply (read_answer b p.left p.ending) (gave ++ drop (length gave) b) (giving m (less (length gave) p) (length gave))

-- pour steps the sink through as many of the bytes left as its space allows
abbrev pub pour_by : {I : Type 0} {V : I → Type 0} → Meaning → Ticket → AnySink I V → Option Part → Reply Poured (AnySink I V)
pour_by m t k None = reply (Poured.refused 3 t) k m
pour_by m t k (Some p) =
    let gave : Bytes = take k.means.space p.left in
    let left : Bytes = drop (length gave) p.left in
    reply (pour_answer t (length gave) left p.ending) (sink_after k gave) (giving m (after_pour (length gave) p left p.ending) (length gave))

-- finish closes the part if no byte is left and the body has no fault
abbrev pub finish_by : Meaning → Ticket → Option Part → Reply Finished (Unit {0})
finish_by m t None = reply (Finished.refused 3 t) tt m
finish_by m t (Some p) = reply (finish_answer t p.left p.ending) tt (giving m (after_finish p p.left p.ending) 0)

-- skip closes the part, whatever is left of it
abbrev pub skip_by : Meaning → Option Part → Reply Skipped (Unit {0})
skip_by m None = reply (Skipped.refused 3) tt m
skip_by m (Some p) = reply Skipped.done tt (giving m None 0)

-- the calls, made of a reader that means m --------------------------------------------------------

-- next, lent a head buffer and a table
unfoldable pub next_of : Meaning → HeadSpace → Reply Told HeadSpace
next_of m h = next_by m h m.part (too_small h)

-- read with a ticket into a buffer
unfoldable pub read_of : Meaning → Ticket → Bytes → Reply ReadAnswer Bytes
read_of m t b = read_by m b (fitting m.number t m.part)

-- pour with a ticket to a sink
unfoldable pub pour_of : {I : Type 0} {V : I → Type 0} → Meaning → Ticket → AnySink I V → Reply Poured (AnySink I V)
pour_of m t k = pour_by m t k (fitting m.number t m.part)

-- finish with a ticket
unfoldable pub finish_of : Meaning → Ticket → Reply Finished (Unit {0})
finish_of m t = finish_by m t (fitting m.number t m.part)

-- skip with a ticket
unfoldable pub skip_of : Meaning → Ticket → Reply Skipped (Unit {0})
skip_of m t = skip_by m (fitting m.number t m.part)

-- delivered answers the total, and changes nothing
unfoldable pub delivered_of : Meaning → Reply ℕ (Unit {0})
delivered_of m = reply m.delivered tt m

-- runs --------------------------------------------------------------------------------------------

-- what comes of a call: the exchange, and the meaning after it
pub record Outcome (S : Type 0) : Type 0 where
  pub exchange : Exchange S
  pub meaning : Meaning

module _ {I : Type 0} {V : I → Type 0} where
  -- what comes of a call made of a reader that means m
  abbrev pub outcome : Meaning → Call (AnySink I V) → Outcome (AnySink I V)
  outcome m (Call.next h) =
      let a : Reply Told HeadSpace = next_of m h in record { exchange = Exchange.next h a.leaves a.answer; meaning = a.meaning }
  outcome m (Call.read t b) =
      let a : Reply ReadAnswer Bytes = read_of m t b in record { exchange = Exchange.read t b a.leaves a.answer; meaning = a.meaning }
  outcome m (Call.pour t k) =
      let a : Reply Poured (AnySink I V) = pour_of m t k in record { exchange = Exchange.pour t k a.leaves a.answer; meaning = a.meaning }
  outcome m (Call.finish t) =
      let a : Reply Finished (Unit {0}) = finish_of m t in record { exchange = Exchange.finish t a.answer; meaning = a.meaning }
  outcome m (Call.skip t) =
      let a : Reply Skipped (Unit {0}) = skip_of m t in record { exchange = Exchange.skip t a.answer; meaning = a.meaning }
  outcome m Call.delivered =
      let a : Reply ℕ (Unit {0}) = delivered_of m in record { exchange = Exchange.delivered a.answer; meaning = a.meaning }

  -- the meaning after a run of calls, the latest first
  unfoldable pub meaning_after : Meaning → List (Call (AnySink I V)) → Meaning
  meaning_after m [] = m
  meaning_after m (c ∷ cs) = (outcome (meaning_after m cs) c).meaning

  -- the trace of a run: its exchanges, the latest first
  unfoldable pub trace_of : Meaning → List (Call (AnySink I V)) → Trace (AnySink I V)
  trace_of m [] = []
  trace_of m (c ∷ cs) = (outcome (meaning_after m cs) c).exchange ∷ trace_of m cs
