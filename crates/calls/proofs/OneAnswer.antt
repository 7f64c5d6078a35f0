-- The law leaves one answer to each call: the exchange that a past and a call are owed.
use Rattle.std.proofs.Common.{◌≡◌, ℕ, ◌-◌, ◌<◌, min, Bool, true, false, ◌&&◌, eqb, ltb, List, [], ◌∷◌, ◌++◌, length, take, drop, Some, None, Option, sym, refl, ap, ◌∙◌, arith, length-drop, length-take}
use Rattle.std.proofs.lemmas.List.{take_at}
use Rattle.std.proofs.lemmas.Bool.{eqb-true, and_parts, and_right, lt-ltb}
use Rattle.byte_lines.specs.Bytes.{Bytes}
use Rattle.source.specs.declared.ends.Fault.{Fault}
use Rattle.source.specs.declared.ends.End.{End}
use Rattle.source.specs.declared.ends.End.TheVariants.{Clean, Faulty}
use Rattle.message.specs.Entries.{Entry}
use Rattle.calls.specs.Calls.{Ticket, HeadSpace, AnySink, sink_after, Told, ReadAnswer, Poured, Finished, Skipped, Call, Exchange, Trace, handed, too_small, head_after, telling, fields_in}
use Rattle.calls.specs.ReaderMeaning.{Part, Meaning, first, rest, fitting, read_answer, pour_answer, next_of, read_of, pour_of, finish_of, skip_of, delivered_of, outcome}
use Rattle.calls.specs.Traces.{entry, part_body, granted, refused_by, faulty_by, verdict, part, tellings, open_part, given_from, total, left, is_part, right, due}
use Rattle.calls.specs.RunLaw.{Untouched, Tells, Gave, Counted}
use Rattle.calls.proofs.Words.{after, entry-after, take-taken}

-- verdicts are told apart, and ends
granted≢refused : (k : ℕ) → granted ≡ refused_by k → ⊥
granted≢refused k h = let z : ◌≡◌ {A = ℕ} 0 1 = cc in omega arith

granted≢faulty : (f : Fault) → granted ≡ faulty_by f → ⊥
granted≢faulty f h = let z : ◌≡◌ {A = ℕ} 0 1 = cc in omega arith

refused≢faulty : (k : ℕ) (f : Fault) → refused_by k ≡ faulty_by f → ⊥
refused≢faulty k f h = let z : ◌≡◌ {A = ℕ} 0 1 = cc in omega arith

refused_same : (j k : ℕ) → refused_by j ≡ refused_by k → j ≡ k
refused_same j k h = cc

fault_same : (f g : Fault) → faulty_by f ≡ faulty_by g → f ≡ g
fault_same f g h = cc

clean≢faulty : (f : Fault) → Clean ≡ Faulty f → ⊥
clean≢faulty f h = let z : ◌≡◌ {A = ℕ} 0 1 = cc in omega arith

faulty_same : (f g : Fault) → Faulty f ≡ Faulty g → f ≡ g
faulty_same f g h = cc

-- the bytes that were given are the first of those that were left
taken_is : (lf g rest : Bytes) (m : ℕ) → lf ≡ g ++ rest → length g ≡ min m (length lf) → take m lf ≡ g
taken_is lf g rest m e k =
    sym (take-taken m lf)
    ∙ (ap (λ (n : ℕ). take n lf) (length-take m lf ∙ sym k) ∙ (ap (λ (x : Bytes). take (length g) x) e ∙ take_at g rest (length g) refl))

-- read's answers
read_bytes : (b lf : Bytes) (e : End) (n : ℕ) → n ≡ min (length lf) (length b) → (n ≡ 0 → length b ≡ 0) → ReadAnswer.bytes n ≡ read_answer b lf e
read_bytes [] lf e n h z = ap ReadAnswer.bytes (omega arith)
read_bytes (x ∷ b) [] Clean n h z = absurd (omega (arith, z (omega arith)))
read_bytes (x ∷ b) [] (Faulty f) n h z = absurd (omega (arith, z (omega arith)))
read_bytes (x ∷ b) (y ∷ lf) e n h z = ap ReadAnswer.bytes (omega (arith, h, length-take (length b) lf))

read_done : (b lf : Bytes) (e : End) → length lf ≡ 0 → 0 < length b → e ≡ Clean → ReadAnswer.done ≡ read_answer b lf e
read_done [] lf e h k z = absurd (omega arith)
read_done (x ∷ b) [] Clean h k z = refl
read_done (x ∷ b) [] (Faulty f) h k z = absurd (clean≢faulty f (sym z))
read_done (x ∷ b) (y ∷ lf) e h k z = absurd (omega arith)

read_fault : (b lf : Bytes) (e : End) (f : Fault) → length lf ≡ 0 → 0 < length b → e ≡ Faulty f → ReadAnswer.body_fault f ≡ read_answer b lf e
read_fault [] lf e f h k z = absurd (omega arith)
read_fault (x ∷ b) [] Clean f h k z = absurd (clean≢faulty f z)
read_fault (x ∷ b) [] (Faulty g) f h k z = ap ReadAnswer.body_fault (sym (faulty_same g f z))
read_fault (x ∷ b) (y ∷ lf) e f h k z = absurd (omega arith)

-- pour's answers, where m bytes were given and `rest` is left
poured_done : (t : Ticket) (n m : ℕ) (rest : Bytes) (e : End) → n ≡ m → length rest ≡ 0 → e ≡ Clean → Poured.done n ≡ pour_answer t m rest e
poured_done t n m [] Clean h k z = ap Poured.done h
poured_done t n m [] (Faulty f) h k z = absurd (clean≢faulty f (sym z))
poured_done t n m (x ∷ rest) e h k z = absurd (omega arith)

poured_fault : (t u : Ticket) (n m : ℕ) (rest : Bytes) (e : End) (f : Fault) → n ≡ m → length rest ≡ 0 → e ≡ Faulty f → u ≡ t
    → Poured.body_fault n f u ≡ pour_answer t m rest e
poured_fault t u n m [] Clean f h k z w = absurd (clean≢faulty f z)
poured_fault t u n m [] (Faulty g) f h k z w = let y : g ≡ f = faulty_same g f z in cc
poured_fault t u n m (x ∷ rest) e f h k z w = absurd (omega arith)

poured_partly : (t u : Ticket) (n m : ℕ) (rest : Bytes) (e : End) → n ≡ m → 0 < length rest → u ≡ t → Poured.partly n u ≡ pour_answer t m rest e
poured_partly t u n m [] e h k w = absurd (omega arith)
poured_partly t u n m (x ∷ rest) e h k w = cc

-- the part p as a past leaves it
abbrev part_at : {S : Type 0} → List Entry → Trace S → ℕ → Part
part_at row past p = record { number = p; left = drop (given_from p past) (part_body row p).bytes; ending = (part_body row p).ending }

-- the open part as a past leaves it
abbrev part_of : {S : Type 0} → List Entry → Trace S → Option ℕ → Option Part
part_of row past None = None
part_of row past (Some p) = Some (part_at row past p)

-- x if the test is true
abbrev chosen : {A : Type 0} → Bool → A → Option A
chosen true x = Some x
chosen false x = None

-- the meaning that a past leads to
abbrev pub meaning_of : {S : Type 0} → ℕ → List Entry → Trace S → Meaning
meaning_of number row past =
    record { number = number; ahead = after (tellings past) row; part = part_of row past (open_part past); delivered = total past }

fitting_is : {S : Type 0} (number : ℕ) (row : List Entry) (past : Trace S) (t : Ticket) (o : Option ℕ)
    → fitting number t (part_of row past o) ≡ chosen (eqb t.reader number && is_part t.part o) (part_at row past t.part)
fitting_is number row past t None = rw (and_right (eqb t.reader number) false refl)
fitting_is number row past t (Some p) = go (eqb t.reader number && eqb t.part p) refl
  where
    go : (y : Bool) → (eqb t.reader number && eqb t.part p) ≡ y
        → elim y [ true ↦ Some (part_at row past p) | false ↦ None ] ≡ chosen y (part_at row past t.part)
    go true h =
        ap (λ (x : ℕ). Some (part_at row past x)) (sym (eqb-true t.part p (and_parts (eqb t.reader number) (eqb t.part p) h).1))
    go false h = refl

module _ {I : Type 0} {V : I → Type 0} (number : ℕ) (row : List Entry) (past : Trace (AnySink I V)) where
  -- its verdict is the one due
  abbrev Due : Exchange (AnySink I V) → Type 0
  Due d = verdict d ≡ due number row past (handed d)

  -- it is what comes of its call
  abbrev Owed : Exchange (AnySink I V) → Type 0
  Owed d = d ≡ (outcome (meaning_of number row past) (handed d)).exchange

  -- next
  told_is : (b a : HeadSpace) (x : Told) → granted ≡ due number row past (Call.next b) → x ≡ telling number (entry (tellings past) row)
      → a ≡ head_after (fields_in (entry (tellings past) row)) b → Owed (Exchange.next b a x)
  unfolding next_of
  told_is b a x h e f = go (open_part past) refl (too_small b) refl
    where
      turn : entry (tellings past) row ≡ first (after (tellings past) row)
      turn = entry-after (tellings past) row

      go : (o : Option ℕ) → open_part past ≡ o → (s : Bool) → too_small b ≡ s → Owed (Exchange.next b a x)
      go (Some p) o s z = absurd (granted≢refused 1 (rw (o, due) at h))
      go None o true z = absurd (granted≢refused 2 (rw (o, z, due) at h))
      go None o false z =
          let y : Entry = first (after (tellings past) row) in
          let e' : x ≡ telling number y = rw turn at e in
          let f' : a ≡ head_after (fields_in y) b = rw turn at f in
          rw (o, z) (ap (λ (u : HeadSpace). Exchange.next b u x) f' ∙ ap (λ (u : Told). Exchange.next b (head_after (fields_in y) b) u) e')

  untold-is : (b a : HeadSpace) (k : ℕ) → refused_by k ≡ due number row past (Call.next b) → a ≡ b → Owed (Exchange.next b a (Told.refused k))
  unfolding next_of
  untold-is b a k h f = go (open_part past) refl (too_small b) refl
    where
      go : (o : Option ℕ) → open_part past ≡ o → (s : Bool) → too_small b ≡ s → Owed (Exchange.next b a (Told.refused k))
      go (Some p) o s z = let j : k ≡ 1 = refused_same k 1 (rw (o, due) at h) in rw (o, j, f)
      go None o true z = let j : k ≡ 2 = refused_same k 2 (rw (o, z, due) at h) in rw (o, z, j, f)
      go None o false z = absurd (granted≢refused k (sym (rw (o, z, due) at h)))

  -- what is left of the ticket's part, and its end
  abbrev lf : Ticket → Bytes
  lf t = drop (given_from t.part past) (part_body row t.part).bytes

  abbrev le : Ticket → End
  le t = (part_body row t.part).ending

  left_is : (t : Ticket) → left row t.part past ≡ length (lf t)
  left_is t = sym (length-drop (given_from t.part past) (part_body row t.part).bytes)

  fitting-right : (t : Ticket) (y : Bool) → right number past t ≡ y
      → fitting number t (part_of row past (open_part past)) ≡ chosen y (part_at row past t.part)
  fitting-right t y h = fitting_is number row past t (open_part past) ∙ ap (λ (z : Bool). chosen z (part_at row past t.part)) h

  -- read
  read_is : (t : Ticket) (b a : Bytes) (x : ReadAnswer) (g rest : Bytes) → granted ≡ due number row past (Call.read t b)
      → x ≡ read_answer b (lf t) (le t) → length g ≡ min (length b) (length (lf t)) → lf t ≡ g ++ rest → a ≡ g ++ drop (length g) b
      → Owed (Exchange.read t b a x)
  unfolding read_of
  read_is t b a x g rest h e k r f = go (right number past t) refl
    where
      taken : take (length b) (lf t) ≡ g
      taken = taken_is (lf t) g rest (length b) r k

      go : (y : Bool) → right number past t ≡ y → Owed (Exchange.read t b a x)
      go true y =
          rw (fitting-right t true y)
          (ap (λ (u : Bytes). Exchange.read t b u x) (f ∙ ap (λ (u : Bytes). u ++ drop (length u) b) (sym taken))
          ∙ ap (λ (u : ReadAnswer). Exchange.read t b (take (length b) (lf t) ++ drop (length (take (length b) (lf t))) b) u) e)
      go false y = absurd (granted≢refused 3 (rw (y, due) at h))

  unread-is : (t : Ticket) (b a : Bytes) (k : ℕ) → refused_by k ≡ due number row past (Call.read t b) → a ≡ b
      → Owed (Exchange.read t b a (ReadAnswer.refused k))
  unfolding read_of
  unread-is t b a k h f = go (right number past t) refl
    where
      go : (y : Bool) → right number past t ≡ y → Owed (Exchange.read t b a (ReadAnswer.refused k))
      go true y = absurd (granted≢refused k (sym (rw (y, due) at h)))
      go false y = let j : k ≡ 3 = refused_same k 3 (rw (y, due) at h) in rw (fitting-right t false y, j, f)

  -- how many bytes a pour gives, and how many it leaves
  abbrev fill : Ticket → AnySink I V → ℕ
  fill t b = length (take b.means.space (lf t))

  fill_is : (t : Ticket) (b : AnySink I V) → fill t b ≡ min b.means.space (length (lf t))
  fill_is t b = length-take b.means.space (lf t)

  spare-is : (t : Ticket) (b : AnySink I V) → length (drop (fill t b) (lf t)) ≡ length (lf t) - fill t b
  spare-is t b = length-drop (fill t b) (lf t)

  -- pour
  pour-is : (t : Ticket) (b a : AnySink I V) (x : Poured) (g rest : Bytes) → granted ≡ due number row past (Call.pour t b)
      → x ≡ pour_answer t (fill t b) (drop (fill t b) (lf t)) (le t)
      → length g ≡ min b.means.space (length (lf t)) → lf t ≡ g ++ rest → a ≡ sink_after b g → Owed (Exchange.pour t b a x)
  unfolding pour_of
  pour-is t b a x g rest h e k r f = go (right number past t) refl
    where
      taken : take b.means.space (lf t) ≡ g
      taken = taken_is (lf t) g rest b.means.space r k

      go : (y : Bool) → right number past t ≡ y → Owed (Exchange.pour t b a x)
      go true y =
          rw (fitting-right t true y)
          (ap (λ (u : AnySink I V). Exchange.pour t b u x) (f ∙ ap (λ (u : Bytes). sink_after b u) (sym taken))
          ∙ ap (λ (u : Poured). Exchange.pour t b (sink_after b (take b.means.space (lf t))) u) e)
      go false y = absurd (granted≢refused 3 (rw (y, due) at h))

  unpoured-is : (t u : Ticket) (b a : AnySink I V) (k : ℕ) → refused_by k ≡ due number row past (Call.pour t b) → a ≡ b → u ≡ t
      → Owed (Exchange.pour t b a (Poured.refused k u))
  unfolding pour_of
  unpoured-is t u b a k h f w = go (right number past t) refl
    where
      go : (y : Bool) → right number past t ≡ y → Owed (Exchange.pour t b a (Poured.refused k u))
      go true y = absurd (granted≢refused k (sym (rw (y, due) at h)))
      go false y = let j : k ≡ 3 = refused_same k 3 (rw (y, due) at h) in rw (fitting-right t false y, j, f, w)

  -- finish
  finish-is : (t : Ticket) (x : Finished) → Due (Exchange.finish t x) → Untouched {S = AnySink I V} (Exchange.finish t x) → Owed (Exchange.finish t x)
  unfolding finish_of
  finish-is t x h w = go (right number past t) refl (lf t) refl (le t) refl
    where
      -- two answers with the same verdict that hand the ticket back are the same
      one : (x y : Finished) → verdict {S = AnySink I V} (Exchange.finish t x) ≡ verdict {S = AnySink I V} (Exchange.finish t y)
          → Untouched {S = AnySink I V} (Exchange.finish t x) → Untouched {S = AnySink I V} (Exchange.finish t y) → x ≡ y
      one Finished.done Finished.done e v w = refl
      one Finished.done (Finished.body_fault f u) e v w = absurd (granted≢faulty f e)
      one Finished.done (Finished.refused k u) e v w = absurd (granted≢refused k e)
      one (Finished.body_fault f u) Finished.done e v w = absurd (granted≢faulty f (sym e))
      one (Finished.body_fault f u) (Finished.body_fault g z) e v w = let y : f ≡ g = fault_same f g e in let q : u ≡ z = v ∙ sym w in cc
      one (Finished.body_fault f u) (Finished.refused k z) e v w = absurd (refused≢faulty k f (sym e))
      one (Finished.refused k u) Finished.done e v w = absurd (granted≢refused k (sym e))
      one (Finished.refused k u) (Finished.body_fault f z) e v w = absurd (refused≢faulty k f e)
      one (Finished.refused k u) (Finished.refused j z) e v w = let y : k ≡ j = refused_same k j e in let q : u ≡ z = v ∙ sym w in cc

      answer : (y : Finished) → verdict {S = AnySink I V} (Exchange.finish t x) ≡ verdict {S = AnySink I V} (Exchange.finish t y)
          → Untouched {S = AnySink I V} (Exchange.finish t y) → ◌≡◌ {A = Exchange (AnySink I V)} (Exchange.finish t x) (Exchange.finish t y)
      answer y e v = ap (λ (u : Finished). Exchange.finish t u) (one x y e w v)

      go : (y : Bool) → right number past t ≡ y → (l : Bytes) → lf t ≡ l → (e : End) → le t ≡ e → Owed (Exchange.finish t x)
      go false y l z e v = rw (fitting-right t false y) (answer (Finished.refused 3 t) (rw (y, due) at h) refl)
      go true y [] z Clean v =
          let n : left row t.part past ≡ 0 = left_is t ∙ ap length z in
          rw (fitting-right t true y, z, v) (answer Finished.done (rw (y, n, v, due) at h) tt)
      go true y [] z (Faulty f) v =
          let n : left row t.part past ≡ 0 = left_is t ∙ ap length z in
          rw (fitting-right t true y, z, v) (answer (Finished.body_fault f t) (rw (y, n, v, due) at h) refl)
      go true y (c ∷ cs) z e v =
          let n : ltb 0 (left row t.part past) ≡ true = lt-ltb 0 (left row t.part past) (omega (arith, left_is t, ap length z)) in
          rw (fitting-right t true y, z) (answer (Finished.refused 4 t) (rw (y, n, due) at h) refl)

  -- skip
  skip_is : (t : Ticket) (x : Skipped) → Due (Exchange.skip t x) → Owed (Exchange.skip t x)
  unfolding skip_of
  skip_is t x h = go (right number past t) refl x h
    where
      go : (y : Bool) → right number past t ≡ y → (x : Skipped) → Due (Exchange.skip t x) → Owed (Exchange.skip t x)
      go true y Skipped.done h = rw (fitting-right t true y)
      go true y (Skipped.refused k) h = absurd (granted≢refused k (sym (rw (y, due) at h)))
      go false y Skipped.done h = absurd (granted≢refused 3 (rw (y, due) at h))
      go false y (Skipped.refused k) h = let j : k ≡ 3 = refused_same k 3 (rw (y, due) at h) in rw (fitting-right t false y, j)

  -- delivered
  delivered-is : (n : ℕ) → n ≡ total past → Owed (Exchange.delivered n)
  unfolding delivered_of
  delivered-is n h = ap (λ (k : ℕ). Exchange.delivered k) h

  -- an exchange that keeps the law is the one owed
  pub owed : (d : Exchange (AnySink I V)) (g rest : Bytes) → Due d × Untouched d → Tells number (entry (tellings past) row) d → Counted row past d
      → Gave (record { exchange = d; gave = g }) → drop (given_from (part d) past) (part_body row (part d)).bytes ≡ g ++ rest → Owed d
  owed (Exchange.next b a (Told.event ev)) g rest h t c v e = told_is b a (Told.event ev) h.0 t.0 t.1
  owed (Exchange.next b a (Told.leaf_event ev u)) g rest h t c v e = told_is b a (Told.leaf_event ev u) h.0 t.0 t.1
  owed (Exchange.next b a (Told.message_fault f)) g rest h t c v e = told_is b a (Told.message_fault f) h.0 t.0 t.1
  owed (Exchange.next b a (Told.refused k)) g rest h t c v e = untold-is b a k h.0 h.1
  owed (Exchange.read t b a (ReadAnswer.bytes n)) g rest h _ c v e =
      let l = left_is t in
      read_is t b a (ReadAnswer.bytes n) g rest h.0 (read_bytes b (lf t) (le t) n (omega arith) c.1) (omega arith) e v.1
  owed (Exchange.read t b a ReadAnswer.done) g rest h _ c v e =
      let l = left_is t in
      read_is t b a ReadAnswer.done g rest h.0 (read_done b (lf t) (le t) (omega arith) c.1 c.2) (omega arith) e v.1
  owed (Exchange.read t b a (ReadAnswer.body_fault f)) g rest h _ c v e =
      let l = left_is t in
      read_is t b a (ReadAnswer.body_fault f) g rest h.0 (read_fault b (lf t) (le t) f (omega arith) c.1 c.2) (omega arith) e v.1
  owed (Exchange.read t b a (ReadAnswer.refused k)) g rest h _ c v e = unread-is t b a k h.0 h.1
  owed (Exchange.pour t b a (Poured.done n)) g rest h _ c v e =
      let l = left_is t in let x = fill_is t b in let y = spare-is t b in
      pour-is t b a (Poured.done n) g rest h.0
      (poured_done t n (fill t b) (drop (fill t b) (lf t)) (le t) (omega arith) (omega arith) c.2) (omega arith) e v.1
  owed (Exchange.pour t b a (Poured.body_fault n f u)) g rest h _ c v e =
      let l = left_is t in let x = fill_is t b in let y = spare-is t b in
      pour-is t b a (Poured.body_fault n f u) g rest h.0
      (poured_fault t u n (fill t b) (drop (fill t b) (lf t)) (le t) f (omega arith) (omega arith) c.2 c.3) (omega arith) e v.1
  owed (Exchange.pour t b a (Poured.partly n u)) g rest h _ c v e =
      let l = left_is t in let x = fill_is t b in let y = spare-is t b in
      pour-is t b a (Poured.partly n u) g rest h.0
      (poured_partly t u n (fill t b) (drop (fill t b) (lf t)) (le t) (omega arith) (omega arith) c.2) (omega arith) e v.1
  owed (Exchange.pour t b a (Poured.refused k u)) g rest h _ c v e = unpoured-is t u b a k h.0 h.1.0 h.1.1
  owed (Exchange.finish t x) g rest h _ c v e = finish-is t x h.0 h.1
  owed (Exchange.skip t x) g rest h _ c v e = skip_is t x h.0
  owed (Exchange.delivered n) g rest h _ c v e = delivered-is n c
