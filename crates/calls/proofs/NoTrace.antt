-- Without its refused calls a run is still a run.
use Rattle.std.proofs.Common.{◌≡◌, ℕ, Bool, true, false, ◌&&◌, eqb, List, [], ◌∷◌, map, length, take, drop, Some, None, Option, sym, refl, ap, ◌∙◌, subst, add-zero, arith}
use Rattle.byte_lines.specs.Bytes.{Bytes}
use Rattle.source.specs.declared.ends.End.{End}
use Rattle.source.specs.declared.ends.End.TheVariants.{Clean, Faulty}
use Rattle.message.specs.Entries.{Entry}
use Rattle.calls.specs.Calls.{Ticket, HeadSpace, AnySink, Call, Exchange, Trace, handed, too_small}
use Rattle.calls.specs.ReaderMeaning.{Part, Meaning, made, first, fitting, finish_answer, after_finish, giving, next_by, read_by, pour_by, finish_by, skip_by, next_of, read_of, pour_of, finish_of, skip_of, delivered_of, outcome, meaning_after, trace_of}
use Rattle.calls.specs.Traces.{Verdict, granted, refused_by, faulty_by, verdict}
use Rattle.calls.specs.RunLaw.{KeepsLaw}
use Rattle.calls.specs.Theorems.{unless_refused, unrefused, RefusalsLeaveNoTrace}
use Rattle.calls.proofs.NextKeeps.{telling_of, next-granted}
use Rattle.calls.proofs.PartsKeep.{read-granted, pour-granted}
use Rattle.calls.proofs.RunsKeep.{run-keeps}
use Rattle.calls.proofs.Theorems.{handed-outcome, only_run}

-- a verdict other than `granted`
abbrev Refused : Verdict → Type 0
Refused granted = ⊥
Refused (refused_by k) = Unit {0}
Refused (faulty_by f) = Unit {0}

-- a granted call is not refused
not_refused : (v : Verdict) → v ≡ granted → Refused v → ⊥
not_refused v e h = subst Refused e h

-- the part that fits a ticket is the one that is open
found : (n : ℕ) (t : Ticket) (o : Option Part) (p : Part) → fitting n t o ≡ Some p → o ≡ Some p
found n t None p h = let z : ◌≡◌ {A = ℕ} 0 1 = cc in absurd (omega arith)
found n t (Some q) p h = go (eqb t.reader n && eqb t.part q.number) h
  where
    go : (b : Bool) → ◌≡◌ {A = Option Part} (elim b [ true ↦ Some q | false ↦ None ]) (Some p) → Some q ≡ Some p
    go true e = e
    go false e = let z : ◌≡◌ {A = ℕ} 0 1 = cc in absurd (omega arith)

same_meaning : (st : Meaning) (p : Part) → st.part ≡ Some p → giving st (Some p) 0 ≡ st
same_meaning st p h =
    ap (λ (m : ℕ). let x : Meaning = record { number = st.number; ahead = st.ahead; part = Some p; delivered = m } in x) (add-zero st.delivered)
    ∙ ap (λ (o : Option Part). let x : Meaning = record { number = st.number; ahead = st.ahead; part = o; delivered = st.delivered } in x) (sym h)

module _ (I : Type 0) (V : I → Type 0) where
  -- a refused call leaves the meaning as it was
  refused-next : (st : Meaning) (h : HeadSpace) (pt : Option Part) (small : Bool)
      → Refused (verdict {S = AnySink I V} (Exchange.next h (next_by st h pt small).leaves (next_by st h pt small).answer))
      → (next_by st h pt small).meaning ≡ st
  refused-next st h (Some p) small w = refl
  refused-next st h None true w = refl
  refused-next st h None false w =
      let e : Entry = first st.ahead in
      absurd (not_refused (verdict (telling_of (AnySink I V) st.number h e)) (next-granted (AnySink I V) st.number h e).0 w)

  refused-read : (st : Meaning) (t : Ticket) (b : Bytes) (pt : Option Part)
      → Refused (verdict {S = AnySink I V} (Exchange.read t b (read_by st b pt).leaves (read_by st b pt).answer)) → (read_by st b pt).meaning ≡ st
  refused-read st t b None w = refl
  refused-read st t b (Some p) w =
      absurd (not_refused _ (read-granted (AnySink I V) t b (read_by st b (Some p)).leaves p.left p.ending).0 w)

  refused-pour : (st : Meaning) (t : Ticket) (k : AnySink I V) (pt : Option Part)
      → Refused (verdict (Exchange.pour t k (pour_by st t k pt).leaves (pour_by st t k pt).answer)) → (pour_by st t k pt).meaning ≡ st
  refused-pour st t k None w = refl
  refused-pour st t k (Some p) w =
      let g : ℕ = length (take k.means.space p.left) in
      absurd (not_refused _ (pour-granted t k (pour_by st t k (Some p)).leaves g (drop g p.left) p.ending).0 w)

  refused-finish : (st : Meaning) (t : Ticket) (pt : Option Part) → fitting st.number t st.part ≡ pt
      → Refused (verdict {S = AnySink I V} (Exchange.finish t (finish_by st t pt).answer)) → (finish_by st t pt).meaning ≡ st
  refused-finish st t None e w = refl
  refused-finish st t (Some p) e w = go p.left p.ending w
    where
      go : (lf : Bytes) (x : End) → Refused (verdict {S = AnySink I V} (Exchange.finish t (finish_answer t lf x)))
          → giving st (after_finish p lf x) 0 ≡ st
      go [] Clean w = absurd w
      go [] (Faulty f) w = same_meaning st p (found st.number t st.part p e)
      go (y ∷ lf) x w = same_meaning st p (found st.number t st.part p e)

  refused-skip : (st : Meaning) (t : Ticket) (pt : Option Part)
      → Refused (verdict {S = AnySink I V} (Exchange.skip t (skip_by st pt).answer)) → (skip_by st pt).meaning ≡ st
  refused-skip st t None w = refl
  refused-skip st t (Some p) w = absurd w

  refused-outcome : (st : Meaning) (c : Call (AnySink I V)) → Refused (verdict (outcome st c).exchange) → (outcome st c).meaning ≡ st
  unfolding next_of read_of pour_of finish_of skip_of delivered_of
  refused-outcome st (Call.next h) w = refused-next st h st.part (too_small h) w
  refused-outcome st (Call.read t b) w = refused-read st t b (fitting st.number t st.part) w
  refused-outcome st (Call.pour t k) w = refused-pour st t k (fitting st.number t st.part) w
  refused-outcome st (Call.finish t) w = refused-finish st t (fitting st.number t st.part) refl w
  refused-outcome st (Call.skip t) w = refused-skip st t (fitting st.number t st.part) w
  refused-outcome st Call.delivered w = absurd w

  -- these calls have this trace, and lead to that meaning
  abbrev Leads : Meaning → List (Call (AnySink I V)) → Meaning → Trace (AnySink I V) → Type 0
  Leads st cs now r = (trace_of st cs ≡ r) × (meaning_after st cs ≡ now)

  -- the calls that were not refused have their part of the trace, and lead to the same meaning
  without : (st : Meaning) (cs : List (Call (AnySink I V)))
      → Leads st (map handed (unrefused (trace_of st cs))) (meaning_after st cs) (unrefused (trace_of st cs))
  unfolding trace_of meaning_after
  without st [] = (refl, refl)
  without st (c ∷ cs) = go (verdict d) refl (without st cs)
    where
      now : Meaning
      now = meaning_after st cs

      d : Exchange (AnySink I V)
      d = (outcome (meaning_after st cs) c).exchange

      r : Trace (AnySink I V)
      r = unrefused (trace_of st cs)

      go : (v : Verdict) → verdict d ≡ v → Leads st (map handed r) now r
          → Leads st (map handed (unless_refused (verdict d) d r)) (outcome now c).meaning (unless_refused (verdict d) d r)
      go granted e ih =
          let h : handed d ≡ c = handed-outcome (meaning_after st cs) c in
          rw e (
            ap (λ (x : Call (AnySink I V)). (outcome (meaning_after st (map handed r)) x).exchange ∷ trace_of st (map handed r)) h
                ∙ (ap (λ (x : Meaning). (outcome x c).exchange ∷ trace_of st (map handed r)) ih.1
                ∙ ap (λ (x : Trace (AnySink I V)). d ∷ x) ih.0),
            ap (λ (x : Call (AnySink I V)). (outcome (meaning_after st (map handed r)) x).meaning) h
                ∙ ap (λ (x : Meaning). (outcome x c).meaning) ih.1,
          )
      go (refused_by k) e ih = rw e (ih.0, ih.1 ∙ sym (refused-outcome now c (subst Refused (sym e) tt)))
      go (faulty_by f) e ih = rw e (ih.0, ih.1 ∙ sym (refused-outcome now c (subst Refused (sym e) tt)))

pub refusals_leave_no_trace : (I : Type 0) (V : I → Type 0) → RefusalsLeaveNoTrace I V
refusals_leave_no_trace I V number m calls r h =
    let run : Trace (AnySink I V) = trace_of (made number m) calls in
    let is-run : r ≡ run = only_run I V number m calls r h in
    let kept : trace_of (made number m) (map handed (unrefused run)) ≡ unrefused run = (without I V (made number m) calls).0 in
    record {
      same = refl;
      keeps = subst (λ (x : Trace (AnySink I V)). KeepsLaw number m (unrefused x)) (sym is-run)
          (subst (λ (x : Trace (AnySink I V)). KeepsLaw number m x) kept (run-keeps number m (map handed (unrefused run))));
    }
