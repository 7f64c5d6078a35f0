-- Each read, pour, finish, skip and delivered keeps the law.
use Rattle.std.proofs.Common.{◌≡◌, ℕ, ◌+◌, ◌-◌, ◌≤◌, min, Bool, true, false, ◌&&◌, eqb, ltb, List, [], ◌∷◌, ◌++◌, length, take, drop, Some, None, Option, sym, refl, ap, ◌∙◌, subst, arith, length-drop, length-take}
use native.Mathlib.Nat.{sub-zero}
use Rattle.std.proofs.lemmas.Bool.{eqb-true, and_parts, and_right, lt-ltb, false≢true}
use Rattle.byte_lines.specs.Bytes.{Bytes}
use Rattle.source.specs.declared.ends.End.{End}
use Rattle.source.specs.declared.ends.End.TheVariants.{Clean, Faulty}
use Rattle.sink.specs.Meanings.{Meaning as SinkMeaning}
use Rattle.message.specs.Entries.{Entry}
use Rattle.calls.specs.Calls.{Ticket, AnySink, sink_after, Told, ReadAnswer, Poured, Finished, Skipped, Exchange, Trace}
use Rattle.calls.specs.ReaderMeaning.{Part, Meaning, rest, fitting, read_answer, pour_answer, finish_answer, after_pour, after_finish, giving, Reply, read_by, pour_by, finish_by, skip_by}
use Rattle.calls.specs.Traces.{part_body, granted, verdict, count, part, completes, given_from, total, left, is_part, right, due}
use Rattle.calls.specs.RunLaw.{Untouched, Counted}
use Rattle.calls.proofs.Words.{no_news, take-taken, given-here}
use Rattle.calls.proofs.Steps.{Fits, Reached, bytes_of, Good, idle-good, shut, moved}

-- what is left of part p, and its end
record Here {S : Type 0} (row : List Entry) (r : Trace S) (p : ℕ) (lf : Bytes) (e : End) : Type 0 where
  bytes : lf ≡ drop (given_from p r) (part_body row p).bytes
  within : given_from p r ≤ length (part_body row p).bytes
  ending : e ≡ (part_body row p).ending

here : {S : Type 0} (row : List Entry) (r : Trace S) (n p : ℕ) (q : Part) → Fits row r n q → p ≡ q.number
    → Here row r p q.left q.ending
here row r n p q f e =
    subst (λ (x : ℕ). Here row r x q.left q.ending) (sym e) (record { bytes = f.bytes; within = f.within; ending = f.ending })

left-length : {S : Type 0} (row : List Entry) (r : Trace S) (p : ℕ) (lf : Bytes) (e : End) → Here row r p lf e → left row p r ≡ length lf
left-length row r p lf e h = sym (ap length h.bytes ∙ length-drop (given_from p r) (part_body row p).bytes)

-- nothing left: all was given
all_given : {S : Type 0} (row : List Entry) (r : Trace S) (p : ℕ) (lf : Bytes) (e : End) (k : ℕ) → Here row r p lf e → k ≡ length lf
    → given_from p r + k ≡ length (part_body row p).bytes
all_given row r p lf e k h z = omega (arith, left-length row r p lf e h, h.within, z)

-- the bytes that the law says an exchange gives are those that it does
bytes_are : {S : Type 0} (row : List Entry) (r : Trace S) (d : Exchange S) (m : ℕ) (lf : Bytes) (e : End)
    → Here row r (part d) lf e → count d ≡ length (take m lf) → bytes_of row r d ≡ take m lf
bytes_are row r d m lf e h k =
    ap (λ (x : Bytes). take (count d) x) (sym h.bytes) ∙ (ap (λ (x : ℕ). take x lf) k ∙ take-taken m lf)

-- read's answers by their cases
module _ (S : Type 0) where
  pub read-granted : (t : Ticket) (b a lf : Bytes) (e : End)
      → (verdict {S = S} (Exchange.read t b a (read_answer b lf e)) ≡ granted) × Untouched {S = S} (Exchange.read t b a (read_answer b lf e))
  read-granted t [] a lf e = (refl, tt)
  read-granted t (x ∷ b) a [] Clean = (refl, tt)
  read-granted t (x ∷ b) a [] (Faulty f) = (refl, tt)
  read-granted t (x ∷ b) a (y ∷ lf) e = (refl, tt)

  pub read_count : (t : Ticket) (b a lf : Bytes) (e : End) → count {S = S} (Exchange.read t b a (read_answer b lf e)) ≡ length (take (length b) lf)
  read_count t [] a lf e = refl
  read_count t (x ∷ b) a [] Clean = refl
  read_count t (x ∷ b) a [] (Faulty f) = refl
  read_count t (x ∷ b) a (y ∷ lf) e = refl

  read_whole : (t : Ticket) (b a lf : Bytes) (e : End) → completes {S = S} (Exchange.read t b a (read_answer b lf e)) ≡ true → lf ≡ []
  read_whole t [] a lf e h = absurd (false≢true h)
  read_whole t (x ∷ b) a [] Clean h = refl
  read_whole t (x ∷ b) a [] (Faulty f) h = refl
  read_whole t (x ∷ b) a (y ∷ lf) e h = absurd (false≢true h)

module _ {I : Type 0} {V : I → Type 0} where
  read-counted : (row : List Entry) (r : Trace (AnySink I V)) (t : Ticket) (b a lf : Bytes) (e : End) → Here row r t.part lf e
      → Counted row r (Exchange.read t b a (read_answer b lf e))
  read-counted row r t [] a lf e h = (omega arith, λ _. refl)
  read-counted row r t (x ∷ b) a [] Clean h = (left-length row r t.part [] Clean h, omega arith, sym h.ending)
  read-counted row r t (x ∷ b) a [] (Faulty f) h = (left-length row r t.part [] (Faulty f) h, omega arith, sym h.ending)
  read-counted row r t (x ∷ b) a (y ∷ lf) e h =
      (omega (arith, left-length row r t.part (y ∷ lf) e h, length-take (length b) lf), λ z. absurd (omega (arith, z)))

  -- pour's answers by their cases
  pub pour-granted : (t : Ticket) (b a : AnySink I V) (n : ℕ) (lf : Bytes) (e : End)
      → (verdict (Exchange.pour t b a (pour_answer t n lf e)) ≡ granted) × Untouched (Exchange.pour t b a (pour_answer t n lf e))
  pour-granted t b a n [] Clean = (refl, tt)
  pour-granted t b a n [] (Faulty f) = (refl, tt)
  pour-granted t b a n (x ∷ lf) e = (refl, tt)

  pub pour-count : (t : Ticket) (b a : AnySink I V) (n : ℕ) (lf : Bytes) (e : End) → count (Exchange.pour t b a (pour_answer t n lf e)) ≡ n
  pour-count t b a n [] Clean = refl
  pour-count t b a n [] (Faulty f) = refl
  pour-count t b a n (x ∷ lf) e = refl

  pour-whole : (t : Ticket) (b a : AnySink I V) (n : ℕ) (lf : Bytes) (e : End)
      → completes (Exchange.pour t b a (pour_answer t n lf e)) ≡ true → lf ≡ []
  pour-whole t b a n [] Clean h = refl
  pour-whole t b a n [] (Faulty f) h = refl
  pour-whole t b a n (x ∷ lf) e h = absurd (false≢true h)

  pour-counted : (row : List Entry) (r : Trace (AnySink I V)) (t : Ticket) (b a : AnySink I V) (lf rest : Bytes) (e : End)
      → Here row r t.part lf e → drop (length (take b.means.space lf)) lf ≡ rest
      → Counted row r (Exchange.pour t b a (pour_answer t (length (take b.means.space lf)) rest e))
  pour-counted row r t b a lf rest e h z =
      go rest e z h (length-take b.means.space lf) (length-drop (length (take b.means.space lf)) lf) (left-length row r t.part lf e h)
    where
      g : ℕ
      g = length (take b.means.space lf)

      go : (rest : Bytes) (e : End) → drop g lf ≡ rest → Here row r t.part lf e
          → g ≡ min b.means.space (length lf) → length (drop g lf) ≡ length lf - g → left row t.part r ≡ length lf
          → Counted row r (Exchange.pour t b a (pour_answer t g rest e))
      go [] Clean z h x y l = (omega (arith, ap length z), omega arith, sym h.ending)
      go [] (Faulty f) z h x y l = (omega (arith, ap length z), omega arith, sym h.ending, refl)
      go (c ∷ rest) e z h x y l = (omega (arith, ap length z), omega (arith, ap length z), refl)

  module _ (number : ℕ) (row : List Entry) (r : Trace (AnySink I V)) (n : ℕ) where
    -- the meaning with these entries ahead and this part
    abbrev at : ℕ → List Entry → Option Part → Meaning
    at dl ah pt = record { number = number; ahead = ah; part = pt; delivered = dl }

    -- the ticket's numbers are those of the part q
    abbrev fits_by : Ticket → (q : Part) → Bool
    fits_by t q = eqb t.reader number && eqb t.part q.number

    is_right : (t : Ticket) (q : Part) (ah : List Entry) (b : Bool) → fits_by t q ≡ b → Reached row r ah (Some q) n → right number r t ≡ b
    is_right t q ah b h i = subst (λ (o : Option ℕ). (eqb t.reader number && is_part t.part o) ≡ b) i.opens h

    is-wrong : (t : Ticket) (ah : List Entry) → Reached row r ah None n → right number r t ≡ false
    is-wrong t ah i =
        subst (λ (o : Option ℕ). (eqb t.reader number && is_part t.part o) ≡ false) i.opens (and_right (eqb t.reader number) false refl)

    is-part : (t : Ticket) (q : Part) → fits_by t q ≡ true → t.part ≡ q.number
    is-part t q h = eqb-true t.part q.number (and_parts (eqb t.reader number) (eqb t.part q.number) h).1

    -- a call with a ticket keeps the law, if it does so with a wrong one and with a right one
    by-ticket : (P : Option Part → Option Part → Type 0) (t : Ticket) (ah : List Entry) (pt : Option Part) → Reached row r ah pt n
        → ((pt : Option Part) → Reached row r ah pt n → right number r t ≡ false → P pt None)
        → ((q : Part) → Reached row r ah (Some q) n → right number r t ≡ true → t.part ≡ q.number → P (Some q) (Some q))
        → P pt (fitting number t pt)
    by-ticket P t ah None i wrong fits = wrong None i (is-wrong t ah i)
    by-ticket P t ah (Some q) i wrong fits = go (fits_by t q) refl
      where
        go : (y : Bool) → fits_by t q ≡ y → P (Some q) (elim y [ true ↦ Some q | false ↦ None ])
        go true y = fits q i (is_right t q ah true y i) (is-part t q y)
        go false y = wrong (Some q) i (is_right t q ah false y i)

    -- read
    abbrev ReadGood : Ticket → Bytes → ℕ → List Entry → Option Part → Option Part → Type 0
    ReadGood t b dl ah pt fit =
        let o : Reply ReadAnswer Bytes = read_by (at dl ah pt) b fit in
        Good number row r (Exchange.read t b o.leaves o.answer) o.meaning

    read_right : (t : Ticket) (b : Bytes) (dl : ℕ) (ah : List Entry) (q : Part)
        → Reached row r ah (Some q) n → right number r t ≡ true → t.part ≡ q.number
        → ReadGood t b dl ah (Some q) (Some q)
    read_right t b dl ah q i w p =
        let h : Here row r t.part q.left q.ending = here row r n t.part q i.fits p in
        let g : Bytes = take (length b) q.left in
        let a : Bytes = g ++ drop (length g) b in
        let d : Exchange (AnySink I V) = Exchange.read t b a (read_answer b q.left q.ending) in
        let c : count d ≡ length g = read_count (AnySink I V) t b a q.left q.ending in
        let same : bytes_of row r d ≡ g = bytes_are row r d (length b) q.left q.ending h c in
        let v = read-granted (AnySink I V) t b a q.left q.ending in
        record {
          refusal = (v.0 ∙ rw (w, due), v.1);
          in_order = tt;
          ends_whole = λ x h k. absurd (no_news (Told.event x) h);
          counted = read-counted row r t b a q.left q.ending h;
          gave = (ap length same ∙ sym c, ap (λ (x : Bytes). x ++ drop (length x) b) (sym same));
          whole = λ z. given-here d r ∙ all_given row r t.part q.left q.ending (count d) h
              (omega (arith, c, length-take (length b) q.left, ap length (read_whole (AnySink I V) t b a q.left q.ending z)));
          entities = n;
          reached = moved row r ah n q d (length g) i p c (omega (arith, length-take (length b) q.left)) refl refl refl;
        }

    pub read-good : (t : Ticket) (b : Bytes) (dl : ℕ) (ah : List Entry) (pt : Option Part) → Reached row r ah pt n
        → ReadGood t b dl ah pt (fitting number t pt)
    read-good t b dl ah pt i =
        by-ticket (ReadGood t b dl ah) t ah pt i
        (λ o j w. idle-good number row r n (at dl ah o) j (Exchange.read t b b (ReadAnswer.refused 3))
        (rw (w, due), refl) tt tt refl refl refl refl refl refl)
        (λ q j w p. read_right t b dl ah q j w p)

    -- pour
    abbrev PourGood : Ticket → AnySink I V → ℕ → List Entry → Option Part → Option Part → Type 0
    PourGood t k dl ah pt fit =
        let o : Reply Poured (AnySink I V) = pour_by (at dl ah pt) t k fit in
        Good number row r (Exchange.pour t k o.leaves o.answer) o.meaning

    -- the sink with that space
    abbrev spaced : AnySink I V → ℕ → AnySink I V
    spaced k n =
        let m : SinkMeaning (V k.kind) = k.means in
        record { kind = k.kind; means = record { value = m.value; step = m.step; space = n; unwritten = m.unwritten; lent = m.lent } }

    after_none : (k : AnySink I V) → k ≡ sink_after k []
    after_none k = ap (spaced k) (sym (sub-zero k.means.space))

    pour-right : (t : Ticket) (k : AnySink I V) (dl : ℕ) (ah : List Entry) (q : Part) → Reached row r ah (Some q) n → right number r t ≡ true
        → t.part ≡ q.number → PourGood t k dl ah (Some q) (Some q)
    pour-right t k dl ah q i w p = go (drop (length g) q.left) q.ending refl refl
      where
        g : Bytes
        g = take k.means.space q.left

        fits : length g ≤ length q.left
        fits = omega (arith, length-take k.means.space q.left)

        reach : (lf : Bytes) (e : End) → Reached row (Exchange.pour t k (sink_after k g) (pour_answer t (length g) lf e) ∷ r) ah
            (after_pour (length g) q lf e) n
        reach [] Clean = shut row r ah n q (Exchange.pour t k (sink_after k g) (Poured.done (length g))) i p refl refl refl
        reach [] (Faulty f) =
            moved row r ah n q (Exchange.pour t k (sink_after k g) (Poured.body_fault (length g) f t)) (length g) i p refl fits refl refl refl
        reach (x ∷ xs) e =
            moved row r ah n q (Exchange.pour t k (sink_after k g) (Poured.partly (length g) t)) (length g) i p refl fits refl refl refl

        go : (lf : Bytes) (e : End) → drop (length g) q.left ≡ lf → q.ending ≡ e
            → Good number row r (Exchange.pour t k (sink_after k g) (pour_answer t (length g) lf e))
            (giving (at dl ah (Some q)) (after_pour (length g) q lf e) (length g))
        go lf e z z' =
            let h : Here row r t.part q.left e =
            subst (λ (x : End). Here row r t.part q.left x) z' (here row r n t.part q i.fits p) in
            let d : Exchange (AnySink I V) = Exchange.pour t k (sink_after k g) (pour_answer t (length g) lf e) in
            let c : count d ≡ length g = pour-count t k (sink_after k g) (length g) lf e in
            let same : bytes_of row r d ≡ g = bytes_are row r d k.means.space q.left e h c in
            let v = pour-granted t k (sink_after k g) (length g) lf e in
            record {
              refusal = (v.0 ∙ rw (w, due), v.1);
              in_order = tt;
              ends_whole = λ x h k. absurd (no_news (Told.event x) h);
              counted = pour-counted row r t k (sink_after k g) q.left lf e h z;
              gave = (ap length same ∙ sym c, ap (λ (x : Bytes). sink_after k x) (sym same));
              whole = λ v.
                  let none : length lf ≡ 0 = ap length (pour-whole t k (sink_after k g) (length g) lf e v) in
                  let spare : length lf ≡ length q.left - length g = sym (ap length z) ∙ length-drop (length g) q.left in
                  given-here d r ∙ all_given row r t.part q.left e (count d) h (omega (arith, c, fits));
              entities = n;
              reached = reach lf e;
            }

    pub pour-good : (t : Ticket) (k : AnySink I V) (dl : ℕ) (ah : List Entry) (pt : Option Part) → Reached row r ah pt n
        → PourGood t k dl ah pt (fitting number t pt)
    pour-good t k dl ah pt i =
        by-ticket (PourGood t k dl ah) t ah pt i
        (λ o j w. idle-good number row r n (at dl ah o) j (Exchange.pour t k k (Poured.refused 3 t))
        (rw (w, due), (refl, refl)) tt tt (after_none k) refl refl refl refl refl)
        (λ q j w p. pour-right t k dl ah q j w p)

    -- finish
    abbrev FinishGood : Ticket → ℕ → List Entry → Option Part → Option Part → Type 0
    FinishGood t dl ah pt fit =
        let o : Reply Finished (Unit {0}) = finish_by (at dl ah pt) t fit in
        Good number row r (Exchange.finish t o.answer) o.meaning

    finish-right : (t : Ticket) (dl : ℕ) (ah : List Entry) (q : Part)
        → Reached row r ah (Some q) n → right number r t ≡ true → t.part ≡ q.number
        → FinishGood t dl ah (Some q) (Some q)
    finish-right t dl ah q i w p = go q.left q.ending refl refl
      where
        h : Here row r t.part q.left q.ending
        h = here row r n t.part q i.fits p

        l : left row t.part r ≡ length q.left
        l = left-length row r t.part q.left q.ending h

        go : (lf : Bytes) (e : End) → q.left ≡ lf → q.ending ≡ e
            → Good number row r (Exchange.finish t (finish_answer t lf e)) (giving (at dl ah (Some q)) (after_finish q lf e) 0)
        go [] Clean z z' =
            let none : left row t.part r ≡ 0 = l ∙ ap length z in
            let e : (part_body row t.part).ending ≡ Clean = sym h.ending ∙ z' in
            let d : Exchange (AnySink I V) = Exchange.finish t Finished.done in
            record {
              refusal = (rw (w, none, e, due), tt);
              in_order = tt;
              ends_whole = λ x h k. absurd (no_news (Told.event x) h);
              counted = tt;
              gave = (refl, tt);
              whole = λ v. given-here d r ∙ all_given row r t.part q.left q.ending 0 h (sym (ap length z));
              entities = n;
              reached = shut row r ah n q d i p refl refl refl;
            }
        go [] (Faulty f) z z' =
            let none : left row t.part r ≡ 0 = l ∙ ap length z in
            let e : (part_body row t.part).ending ≡ Faulty f = sym h.ending ∙ z' in
            idle-good number row r n (at (dl + 0) ah (Some q)) i (Exchange.finish t (Finished.body_fault f t))
            (rw (w, none, e, due), refl) tt tt tt refl refl refl refl refl
        go (x ∷ xs) e z z' =
            let some : ltb 0 (left row t.part r) ≡ true = lt-ltb 0 (left row t.part r) (omega (arith, l, ap length z)) in
            idle-good number row r n (at (dl + 0) ah (Some q)) i (Exchange.finish t (Finished.refused 4 t))
            (rw (w, some, due), refl) tt tt tt refl refl refl refl refl

    pub finish-good : (t : Ticket) (dl : ℕ) (ah : List Entry) (pt : Option Part) → Reached row r ah pt n → FinishGood t dl ah pt (fitting number t pt)
    finish-good t dl ah pt i =
        by-ticket (FinishGood t dl ah) t ah pt i
        (λ o j w. idle-good number row r n (at dl ah o) j (Exchange.finish t (Finished.refused 3 t))
        (rw (w, due), refl) tt tt tt refl refl refl refl refl)
        (λ q j w p. finish-right t dl ah q j w p)

    -- skip
    abbrev SkipGood : Ticket → ℕ → List Entry → Option Part → Option Part → Type 0
    SkipGood t dl ah pt fit =
        let o : Reply Skipped (Unit {0}) = skip_by (at dl ah pt) fit in
        Good number row r (Exchange.skip t o.answer) o.meaning

    skip-right : (t : Ticket) (dl : ℕ) (ah : List Entry) (q : Part)
        → Reached row r ah (Some q) n → right number r t ≡ true → t.part ≡ q.number
        → SkipGood t dl ah (Some q) (Some q)
    skip-right t dl ah q i w p =
        record {
          refusal = (rw (w, due), tt);
          in_order = tt;
          ends_whole = λ x h k. absurd (no_news (Told.event x) h);
          counted = tt;
          gave = (refl, tt);
          whole = λ h. absurd (false≢true h);
          entities = n;
          reached = shut row r ah n q (Exchange.skip t Skipped.done) i p refl refl refl;
        }

    pub skip-good : (t : Ticket) (dl : ℕ) (ah : List Entry) (pt : Option Part) → Reached row r ah pt n → SkipGood t dl ah pt (fitting number t pt)
    skip-good t dl ah pt i =
        by-ticket (SkipGood t dl ah) t ah pt i
        (λ o j w. idle-good number row r n (at dl ah o) j (Exchange.skip t (Skipped.refused 3))
        (rw (w, due), tt) tt tt tt refl refl refl refl refl)
        (λ q j w p. skip-right t dl ah q j w p)

    -- delivered
    pub delivered-good : (st : Meaning) → Reached row r st.ahead st.part n → st.delivered ≡ total r
        → Good number row r (Exchange.delivered st.delivered) st
    delivered-good st i s = idle-good number row r n st i (Exchange.delivered st.delivered) (refl, tt) tt s tt refl refl refl refl refl
