-- Each next keeps the law.
use Rattle.std.proofs.Common.{◌≡◌, ℕ, suc, Bool, true, false, List, [], ◌∷◌, Some, None, Option, sym, refl, ap, ◌∙◌, subst, append-nil, arith}
use Rattle.std.proofs.lemmas.Bool.{eq-eqb, ne_eqb, false≢true}
use Rattle.coding.specs.Decoding.{Decoded}
use Rattle.message.specs.declared.events.Kind.TheVariants.{Group, Close, End as Ending}
use Rattle.message.specs.declared.events.Event.{Event}
use Rattle.message.specs.Entries.{Entry, leaf, opened, closed, ended, failed, decoded_body}
use Rattle.calls.specs.Calls.{HeadSpace, AnySink, Told, Call, Exchange, Trace, too_small, head_after, telling, fields_in}
use Rattle.calls.specs.ReaderMeaning.{Part, Meaning, first, rest, opens, Reply, next_by}
use Rattle.calls.specs.Traces.{entry, part_body, up_to, granted, verdict, tellings, open_part, given_from, due}
use Rattle.calls.specs.RunLaw.{Untouched, Tells, EndsWhole}
use Rattle.calls.proofs.Words.{entry-after, given-none}
use Rattle.calls.proofs.Steps.{Reached, Good, idle-good, advanced}

module _ (S : Type 0) (number : ℕ) where
  -- a next that tells the entry e
  abbrev pub telling_of : HeadSpace → (e : Entry) → Exchange S
  telling_of h e = Exchange.next h (head_after (fields_in e) h) (telling number e)

  pub next-granted : (h : HeadSpace) (e : Entry) → (verdict (telling_of h e) ≡ granted) × Untouched (telling_of h e)
  next-granted h (leaf ev fs b) = (refl, tt)
  next-granted h (opened ev fs) = (refl, tt)
  next-granted h (closed ev) = (refl, tt)
  next-granted h (ended ev) = (refl, tt)
  next-granted h (failed f) = (refl, tt)

  tells-it : (h : HeadSpace) (e : Entry) → Tells number e (telling_of h e)
  tells-it h (leaf ev fs b) = (refl, refl)
  tells-it h (opened ev fs) = (refl, refl)
  tells-it h (closed ev) = (refl, refl)
  tells-it h (ended ev) = (refl, refl)
  tells-it h (failed f) = (refl, refl)

module _ {I : Type 0} {V : I → Type 0} (number : ℕ) (row : List Entry) (r : Trace (AnySink I V)) (n : ℕ) where
  -- this reader's next that tells the entry e
  abbrev says : HeadSpace → (e : Entry) → Exchange (AnySink I V)
  says h e = telling_of (AnySink I V) number h e

  -- the entry told is the one whose turn it is
  turn : (e : Entry) (es : List Entry) → Reached row r (e ∷ es) None n → e ≡ entry (tellings r) row
  turn e es i = ap first i.ahead ∙ sym (entry-after (tellings r) row)

  allowed : (es : List Entry) (h : HeadSpace) → too_small h ≡ false → Reached row r es None n → granted ≡ due number row r (Call.next h)
  allowed es h s i = let o : None ≡ open_part r = i.opens in rw (← o, s, due)

  -- it keeps the law, given where it leads
  tell : (h : HeadSpace) (e : Entry) (es : List Entry) (st : Meaning) (m : ℕ) → too_small h ≡ false → Reached row r (e ∷ es) None n
      → EndsWhole r (says h e) → Reached row (says h e ∷ r) st.ahead st.part m → Good number row r (says h e) st
  tell h e es st m s i w a =
      record {
        refusal = ((next-granted (AnySink I V) number h e).0 ∙ allowed (e ∷ es) h s i, (next-granted (AnySink I V) number h e).1);
        in_order = subst (λ (x : Entry). Tells number x (says h e)) (turn e es i) (tells-it (AnySink I V) number h e);
        ends_whole = w;
        counted = tt;
        gave = (refl, tt);
        whole = λ h. absurd (false≢true h);
        entities = m;
        reached = a;
      }

  -- no other event than that of the end has kind 4
  not-ending : (ev x : Event) → ◌≡◌ {A = List Told} (Told.event ev ∷ []) (Told.event x ∷ []) → (ev.kind ≡ Ending → ⊥) → x.kind ≡ Ending → ⊥
  not-ending ev x h other k = let z : ev ≡ x = cc in other (ap (λ (y : Event). y.kind) z ∙ k)

  -- what next makes of the meaning with these entries ahead
  abbrev after_next : ℕ → List Entry → Meaning
  after_next dl es = record { number = number; ahead = rest es; part = opens (first es); delivered = dl }

  tell-good : (h : HeadSpace) (dl : ℕ) (es : List Entry) → too_small h ≡ false → Reached row r es None n
      → Good number row r (says h (first es)) (after_next dl es)
  tell-good h dl [] s i = absurd i.numbered
  tell-good h dl (leaf ev fs b ∷ []) s i = absurd i.numbered.2
  tell-good h dl (leaf ev fs b ∷ y ∷ ys) s i =
      let nm : ev.number ≡ suc n = i.numbered.0 in
      let e : Entry = leaf ev fs b in
      let d : Exchange (AnySink I V) = says h e in
      let none : given_from ev.number (d ∷ r) ≡ 0 = given-none ev.number d r refl ∙ i.fresh ev.number (omega arith) in
      let own : part_body row ev.number ≡ decoded_body ev b =
      i.bodies ev.number (omega arith) ∙ rw (eq-eqb ev.number ev.number refl, part_body) in
      tell h e (y ∷ ys) (after_next dl (e ∷ y ∷ ys)) (suc n) s i (λ x k _. let z : ◌≡◌ {A = ℕ} 0 1 = cc in absurd (omega arith))
      (advanced row r (e ∷ y ∷ ys) n d (telling number e) (y ∷ ys) (opens e) (suc n) i refl refl (omega arith) refl i.numbered.2 refl
      (record {
        last = nm;
        bytes = rw (none, own);
        within = omega (arith, none);
        ending = ap (λ (x : Decoded). x.ending) (sym own);
      })
      (λ p k. rw (ne_eqb ev.number p (λ q. omega (arith, q)), part_body))
      (rw (i.numbered.1, nm)))
  tell-good h dl (opened ev fs ∷ []) s i = absurd i.numbered.2
  tell-good h dl (opened ev fs ∷ y ∷ ys) s i =
      let nm : ev.number ≡ suc n = i.numbered.0 in
      let kd : ev.kind ≡ Group = i.numbered.1 in
      let e : Entry = opened ev fs in
      tell h e (y ∷ ys) (after_next dl (e ∷ y ∷ ys)) (suc n) s i
      (λ x k k4. absurd (not-ending ev x k (λ q. let z : ◌≡◌ {A = ℕ} 0 1 = cc in omega arith) k4))
      (advanced row r (e ∷ y ∷ ys) n (says h e) (telling number e) (y ∷ ys) None (suc n) i refl refl (omega arith) refl i.numbered.2 i.opens tt
      (λ p k. refl) (rw (kd, nm)))
  tell-good h dl (closed ev ∷ []) s i = absurd i.numbered.1
  tell-good h dl (closed ev ∷ y ∷ ys) s i =
      let kd : ev.kind ≡ Close = i.numbered.0 in
      let e : Entry = closed ev in
      tell h e (y ∷ ys) (after_next dl (e ∷ y ∷ ys)) n s i
      (λ x k k4. absurd (not-ending ev x k (λ q. let z : ◌≡◌ {A = ℕ} 0 1 = cc in omega arith) k4))
      (advanced row r (e ∷ y ∷ ys) n (says h e) (telling number e) (y ∷ ys) None n i refl refl (omega arith) refl i.numbered.1 i.opens tt
      (λ p k. refl) (rw kd (append-nil (up_to n))))
  tell-good h dl (ended ev ∷ []) s i =
      let kd : ev.kind ≡ Ending = i.numbered.0 in
      let e : Entry = ended ev in
      tell h e [] (after_next dl (e ∷ [])) n s i
      (λ x k _. let z : ev ≡ x = cc in i.told ∙ (ap up_to (sym i.numbered.1) ∙ ap (λ (y : Event). up_to y.number) z))
      (advanced row r (e ∷ []) n (says h e) (telling number e) (e ∷ []) None n i refl refl (omega arith) refl i.numbered i.opens tt
      (λ p k. refl) (rw kd (append-nil (up_to n))))
  tell-good h dl (ended ev ∷ y ∷ ys) s i = absurd (no_more y ys i.numbered.2)
    where
      no_more : (y : Entry) (ys : List Entry) → ◌≡◌ {A = List Entry} (y ∷ ys) [] → ⊥
      no_more y ys k = let z : ◌≡◌ {A = ℕ} 0 1 = cc in omega arith
  tell-good h dl (failed f ∷ []) s i =
      let e : Entry = failed f in
      tell h e [] (after_next dl (e ∷ [])) n s i (λ x k _. let z : ◌≡◌ {A = ℕ} 0 1 = cc in absurd (omega arith))
      (advanced row r (e ∷ []) n (says h e) (telling number e) (e ∷ []) None n i refl refl (omega arith) refl i.numbered i.opens tt
      (λ p k. refl) (append-nil (up_to n)))
  tell-good h dl (failed f ∷ y ∷ ys) s i =
      let k : ◌≡◌ {A = List Entry} (y ∷ ys) [] = i.numbered in let z : ◌≡◌ {A = ℕ} 0 1 = cc in absurd (omega arith)

  -- next, where the meaning has these entries ahead and this part
  abbrev NextGood : HeadSpace → ℕ → List Entry → Option Part → Bool → Type 0
  NextGood h dl es pt small =
      let o : Reply Told HeadSpace = next_by (record { number = number; ahead = es; part = pt; delivered = dl }) h pt small in
      Good number row r (Exchange.next h o.leaves o.answer) o.meaning

  pub next-good : (h : HeadSpace) (dl : ℕ) (es : List Entry) (pt : Option Part) (small : Bool) → too_small h ≡ small → Reached row r es pt n
      → NextGood h dl es pt small
  next-good h dl es (Some q) small s i =
      let o : Some q.number ≡ open_part r = i.opens in
      idle-good number row r n (record { number = number; ahead = es; part = Some q; delivered = dl }) i (Exchange.next h h (Told.refused 1))
      (rw (← o, due), refl) tt tt tt refl refl refl refl refl
  next-good h dl es None true s i =
      let o : None ≡ open_part r = i.opens in
      idle-good number row r n (record { number = number; ahead = es; part = None; delivered = dl }) i (Exchange.next h h (Told.refused 2))
      (rw (← o, s, due), refl) tt tt tt refl refl refl refl refl
  next-good h dl es None false s i = tell-good h dl es s i
