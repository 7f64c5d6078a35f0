-- Every run keeps the law, by induction over its calls.
use Rattle.std.proofs.Common.{◌≡◌, ℕ, ◌+◌, Bool, true, false, eqb, ◌⊎◌, List, [], ◌∷◌, ◌++◌, map, length, take, drop, Some, None, Option, sym, refl, ap, ◌∙◌, subst, inl, inr, append-nil, add-zero, arith}
use Rattle.std.proofs.lemmas.List.{take_all, take-append-drop}
use Rattle.std.proofs.lemmas.Bool.{cases_Bool, eqb-true}
use Rattle.byte_lines.specs.Bytes.{Bytes}
use Rattle.source.specs.Meanings.{Meaning as SourceMeaning}
use Rattle.message.specs.Entries.{Entry}
use Rattle.message.specs.Rows.{row_of}
use Rattle.calls.specs.Calls.{Ticket, HeadSpace, AnySink, Told, ReadAnswer, Poured, Finished, Skipped, Call, Exchange, Trace, handed, too_small}
use Rattle.calls.specs.ReaderMeaning.{Part, Meaning, made, fitting, Reply, next_by, read_by, pour_by, finish_by, skip_by, next_of, read_of, pour_of, finish_of, skip_of, delivered_of, outcome, meaning_after, trace_of}
use Rattle.calls.specs.Traces.{entry, part_body, up_to, verdict, count, part, tellings, given_from, total, due}
use Rattle.calls.specs.RunLaw.{Every, Untouched, Tells, InOrder, EndsWhole, Item, joined, Gave, Counted, FirstBytes, Whole, KeepsLaw}
use Rattle.calls.proofs.Numbering.{Numbered, row_numbered}
use Rattle.calls.proofs.Words.{up_to_length, take-add}
use Rattle.calls.proofs.Steps.{Reached, bytes_of, Good}
use Rattle.calls.proofs.ToldLists.{NotEmpty, listed}
use Rattle.calls.proofs.NextKeeps.{next-good}
use Rattle.calls.proofs.PartsKeep.{read_count, pour-count, read-good, pour-good, finish-good, skip-good, delivered-good}

module _ {I : Type 0} {V : I → Type 0} where
  -- after a call the reader has its number still, and the total has grown by the bytes that the exchange gave
  pub record Counts (st : Meaning) (d : Exchange (AnySink I V)) (now : Meaning) : Type 0 where
    pub number : now.number ≡ st.number
    pub sum : now.delivered ≡ st.delivered + count d

  -- nothing was given
  counts-none : (st now : Meaning) (d : Exchange (AnySink I V)) → now.number ≡ st.number → now.delivered ≡ st.delivered → count d ≡ 0
      → Counts st d now
  counts-none st now d e f k = record { number = e; sum = omega arith }

  next-counts : (st : Meaning) (h : HeadSpace) (pt : Option Part) (small : Bool)
      → Counts st (Exchange.next h (next_by st h pt small).leaves (next_by st h pt small).answer) (next_by st h pt small).meaning
  next-counts st h (Some p) small = counts-none st st (Exchange.next h h (Told.refused 1)) refl refl refl
  next-counts st h None true = counts-none st st (Exchange.next h h (Told.refused 2)) refl refl refl
  next-counts st h None false =
      let o : Reply Told HeadSpace = next_by st h None false in
      counts-none st o.meaning (Exchange.next h o.leaves o.answer) refl refl refl

  read-counts : (st : Meaning) (t : Ticket) (b : Bytes) (pt : Option Part)
      → Counts st (Exchange.read t b (read_by st b pt).leaves (read_by st b pt).answer) (read_by st b pt).meaning
  read-counts st t b None = counts-none st st (Exchange.read t b b (ReadAnswer.refused 3)) refl refl refl
  read-counts st t b (Some p) =
      let o : Reply ReadAnswer Bytes = read_by st b (Some p) in
      record { number = refl; sum = ap (λ (n : ℕ). st.delivered + n) (sym (read_count (AnySink I V) t b o.leaves p.left p.ending)) }

  pour-counts : (st : Meaning) (t : Ticket) (k : AnySink I V) (pt : Option Part)
      → Counts st (Exchange.pour t k (pour_by st t k pt).leaves (pour_by st t k pt).answer) (pour_by st t k pt).meaning
  pour-counts st t k None = counts-none st st (Exchange.pour t k k (Poured.refused 3 t)) refl refl refl
  pour-counts st t k (Some p) =
      let g : ℕ = length (take k.means.space p.left) in
      let o : Reply Poured (AnySink I V) = pour_by st t k (Some p) in
      record { number = refl; sum = ap (λ (n : ℕ). st.delivered + n) (sym (pour-count t k o.leaves g (drop g p.left) p.ending)) }

  finish-counts : (st : Meaning) (t : Ticket) (pt : Option Part)
      → Counts st (Exchange.finish t (finish_by st t pt).answer) (finish_by st t pt).meaning
  finish-counts st t None = counts-none st st (Exchange.finish t (Finished.refused 3 t)) refl refl refl
  finish-counts st t (Some p) = record { number = refl; sum = refl }

  skip-counts : (st : Meaning) (t : Ticket) (pt : Option Part) → Counts st (Exchange.skip t (skip_by st pt).answer) (skip_by st pt).meaning
  skip-counts st t None = counts-none st st (Exchange.skip t (Skipped.refused 3)) refl refl refl
  skip-counts st t (Some p) = record { number = refl; sum = refl }

  outcome-counts : (st : Meaning) (c : Call (AnySink I V)) → Counts st (outcome st c).exchange (outcome st c).meaning
  unfolding next_of read_of pour_of finish_of skip_of delivered_of
  outcome-counts st (Call.next h) = next-counts st h st.part (too_small h)
  outcome-counts st (Call.read t b) = read-counts st t b (fitting st.number t st.part)
  outcome-counts st (Call.pour t k) = pour-counts st t k (fitting st.number t st.part)
  outcome-counts st (Call.finish t) = finish-counts st t (fitting st.number t st.part)
  outcome-counts st (Call.skip t) = skip-counts st t (fitting st.number t st.part)
  outcome-counts st Call.delivered = counts-none st st (Exchange.delivered st.delivered) refl refl refl

  -- one more call
  step-good : (row : List Entry) (r : Trace (AnySink I V)) (n : ℕ) (st : Meaning) (c : Call (AnySink I V))
      → Reached row r st.ahead st.part n → st.delivered ≡ total r → Good st.number row r (outcome st c).exchange (outcome st c).meaning
  unfolding next_of read_of pour_of finish_of skip_of delivered_of
  step-good row r n st (Call.next h) i s = next-good st.number row r n h st.delivered st.ahead st.part (too_small h) refl i
  step-good row r n st (Call.read t b) i s = read-good st.number row r n t b st.delivered st.ahead st.part i
  step-good row r n st (Call.pour t k) i s = pour-good st.number row r n t k st.delivered st.ahead st.part i
  step-good row r n st (Call.finish t) i s = finish-good st.number row r n t st.delivered st.ahead st.part i
  step-good row r n st (Call.skip t) i s = skip-good st.number row r n t st.delivered st.ahead st.part i
  step-good row r n st Call.delivered i s = delivered-good st.number row r n st i s

  -- the exchanges of a trace, each with the bytes that it gave
  abbrev items_of : List Entry → Trace (AnySink I V) → List (Item (AnySink I V))
  items_of row [] = []
  items_of row (d ∷ r) = record { exchange = d; gave = bytes_of row r d } ∷ items_of row r

  items-same : (row : List Entry) (r : Trace (AnySink I V)) → map (λ (x : Item (AnySink I V)). x.exchange) (items_of row r) ≡ r
  items-same row [] = refl
  items-same row (d ∷ r) = ap (λ (x : Trace (AnySink I V)). d ∷ x) (items-same row r)

  joined_is : (row : List Entry) (p : ℕ) (r : Trace (AnySink I V)) → joined p (items_of row r) ≡ take (given_from p r) (part_body row p).bytes
  joined_is row p [] = refl
  joined_is row p (d ∷ r) = go (cases_Bool (eqb (part d) p)) (joined_is row p r)
    where
      go : (eqb (part d) p ≡ true) ⊎ (eqb (part d) p ≡ false) → joined p (items_of row r) ≡ take (given_from p r) (part_body row p).bytes
          → joined p (items_of row (d ∷ r)) ≡ take (given_from p (d ∷ r)) (part_body row p).bytes
      go (inl y) ih =
          let e : part d ≡ p = eqb-true (part d) p y in
          rw y
          (ap (λ (x : Bytes). x ++ bytes_of row r d) ih
          ∙ ap (λ (x : ℕ). take (given_from p r) (part_body row p).bytes ++ take (count d) (drop (given_from x r) (part_body row x).bytes)) e
          ∙ take-add (given_from p r) (count d) (part_body row p).bytes)
      go (inr y) ih = rw (y, add-zero, append-nil) ih

  first-bytes : (row : List Entry) (p : ℕ) (r : Trace (AnySink I V)) → FirstBytes row (items_of row r) p
  first-bytes row p r =
      let body : Bytes = (part_body row p).bytes in
      record {
        rest = drop (given_from p r) body;
        whole = ap (λ (x : Bytes). x ++ drop (given_from p r) body) (joined_is row p r) ∙ take-append-drop (given_from p r) body;
      }

not_empty : (row : List Entry) → Numbered 0 row → NotEmpty row
not_empty [] h = h
not_empty (x ∷ xs) h = tt

module _ {I : Type 0} {V : I → Type 0} (number : ℕ) (m : SourceMeaning) where
  -- the meaning after these calls, and their trace
  abbrev now : List (Call (AnySink I V)) → Meaning
  now cs = meaning_after (made number m) cs

  abbrev trace : List (Call (AnySink I V)) → Trace (AnySink I V)
  trace cs = trace_of (made number m) cs

  number-stays : (cs : List (Call (AnySink I V))) → (now cs).number ≡ number
  unfolding meaning_after made
  number-stays [] = refl
  number-stays (c ∷ cs) = (outcome-counts (now cs) c).number ∙ number-stays cs

  sum_is : (cs : List (Call (AnySink I V))) → (now cs).delivered ≡ total (trace cs)
  unfolding meaning_after made trace_of
  sum_is [] = refl
  sum_is (c ∷ cs) = (outcome-counts (now cs) c).sum ∙ ap (λ (k : ℕ). k + count (outcome (now cs) c).exchange) (sum_is cs)

  reached : (cs : List (Call (AnySink I V))) → (n : ℕ) × Reached (row_of m) (trace cs) (now cs).ahead (now cs).part n
  unfolding meaning_after made trace_of
  reached [] =
      (0, record { ahead = refl; numbered = row_numbered m; opens = refl; fits = tt; fresh = λ p h. refl; bodies = λ p h. refl; told = refl })
  reached (c ∷ cs) = let g = step-good (row_of m) (trace cs) (reached cs).0 (now cs) c (reached cs).1 (sum_is cs) in (g.entities, g.reached)

  good : (c : Call (AnySink I V)) (cs : List (Call (AnySink I V)))
      → Good number (row_of m) (trace cs) (outcome (now cs) c).exchange (outcome (now cs) c).meaning
  good c cs =
      subst (λ (k : ℕ). Good k (row_of m) (trace cs) (outcome (now cs) c).exchange (outcome (now cs) c).meaning)
      (number-stays cs) (step-good (row_of m) (trace cs) (reached cs).0 (now cs) c (reached cs).1 (sum_is cs))

  -- what holds of each call's exchange holds of the whole trace
  each : (P : Trace (AnySink I V) → Exchange (AnySink I V) → Type 0)
      → ((c : Call (AnySink I V)) (cs : List (Call (AnySink I V))) → P (trace cs) (outcome (now cs) c).exchange)
      → (cs : List (Call (AnySink I V))) → Every P (trace cs)
  unfolding trace_of
  each P f [] = tt
  each P f (c ∷ cs) = (f c cs, each P f cs)

  abbrev items : List (Call (AnySink I V)) → List (Item (AnySink I V))
  items cs = items_of (row_of m) (trace cs)

  abbrev item_of : Call (AnySink I V) → List (Call (AnySink I V)) → Item (AnySink I V)
  item_of c cs = record { exchange = (outcome (now cs) c).exchange; gave = bytes_of (row_of m) (trace cs) (outcome (now cs) c).exchange }

  each_item : (P : List (Item (AnySink I V)) → Item (AnySink I V) → Type 0)
      → ((c : Call (AnySink I V)) (cs : List (Call (AnySink I V))) → P (items cs) (item_of c cs))
      → (cs : List (Call (AnySink I V))) → Every P (items cs)
  unfolding trace_of
  each_item P f [] = tt
  each_item P f (c ∷ cs) = (f c cs, each_item P f cs)

  -- the bytes given from a completed part are its whole body
  whole : (c : Call (AnySink I V)) (cs : List (Call (AnySink I V))) → Whole (row_of m) (items cs) (item_of c cs)
  whole c cs h =
      let d : Exchange (AnySink I V) = (outcome (now cs) c).exchange in
      joined_is (row_of m) (part d) (d ∷ trace cs)
      ∙ take_all (given_from (part d) (d ∷ trace cs)) (part_body (row_of m) (part d)).bytes (omega (arith, (good c cs).whole h))

  pub run-keeps : (cs : List (Call (AnySink I V))) → KeepsLaw number m (trace cs)
  run-keeps cs =
      let r : Trace (AnySink I V) = trace cs in
      let ordered : InOrder number (row_of m) r = each (λ past x. Tells number (entry (tellings past) (row_of m)) x) (λ c cs. (good c cs).in_order) cs in
      record {
        refusals = each (λ past x. (verdict x ≡ due number (row_of m) past (handed x)) × Untouched x) (λ c cs. (good c cs).refusal) cs;
        tells = listed number (row_of m) (not_empty (row_of m) (row_numbered m)) r ordered;
        in_order = ordered;
        once = (reached cs).1.told ∙ ap up_to (sym (ap length (reached cs).1.told ∙ up_to_length (reached cs).0));
        ends_whole = each EndsWhole (λ c cs. (good c cs).ends_whole) cs;
        counted = each (Counted (row_of m)) (λ c cs. (good c cs).counted) cs;
        delivery = record {
          items = items cs;
          same = items-same (row_of m) r;
          gave = each_item (λ past x. Gave x) (λ c cs. (good c cs).gave) cs;
          first = λ p. first-bytes (row_of m) p r;
          whole = each_item (Whole (row_of m)) whole cs;
        };
      }
