-- Every run keeps the law, no other trace does, and a run can go on.
use Rattle.std.proofs.Common.{◌≡◌, ℕ, List, [], ◌∷◌, map, sym, refl, ap, ◌∙◌, subst}
use Rattle.source.specs.Meanings.{Meaning as SourceMeaning}
use Rattle.calls.specs.Calls.{AnySink, Call, Trace, handed}
use Rattle.calls.specs.ReaderMeaning.{Meaning, made, outcome, meaning_after, trace_of}
use Rattle.calls.specs.RunLaw.{KeepsLaw}
use Rattle.calls.specs.Theorems.{RunOf, EveryRunKeepsTheLaw, RunsAlike, HasRun, RunsGoOn}
use Rattle.calls.proofs.RunsKeep.{run-keeps}
use Rattle.calls.proofs.OneTrace.{one-trace}

module _ {I : Type 0} {V : I → Type 0} where
  pub handed-outcome : (st : Meaning) (c : Call (AnySink I V)) → handed (outcome st c).exchange ≡ c
  handed-outcome st (Call.next d) = refl
  handed-outcome st (Call.read t b) = refl
  handed-outcome st (Call.pour t k) = refl
  handed-outcome st (Call.finish t) = refl
  handed-outcome st (Call.skip t) = refl
  handed-outcome st Call.delivered = refl

  pub handed-trace : (st : Meaning) (cs : List (Call (AnySink I V))) → map handed (trace_of st cs) ≡ cs
  unfolding trace_of
  handed-trace st [] = refl
  handed-trace st (c ∷ cs) =
      ap (λ (x : Call (AnySink I V)). x ∷ map handed (trace_of st cs)) (handed-outcome _ c)
      ∙ ap (λ (xs : List (Call (AnySink I V))). c ∷ xs) (handed-trace st cs)

pub every_run : (I : Type 0) (V : I → Type 0) → EveryRunKeepsTheLaw I V
every_run I V number m calls = record { same = handed-trace (made number m) calls; keeps = run-keeps number m calls }

pub runs_alike : (I : Type 0) (V : I → Type 0) → RunsAlike I V
runs_alike I V number m calls one other h k = one-trace number m one other h.keeps k.keeps (h.same ∙ sym k.same)

-- a trace that keeps the law is the run of its calls
pub only_run : (I : Type 0) (V : I → Type 0) (number : ℕ) (m : SourceMeaning) (calls : List (Call (AnySink I V))) (r : Trace (AnySink I V))
    → RunOf number m calls r → r ≡ trace_of (made number m) calls
only_run I V number m calls r h = runs_alike I V number m calls r (trace_of (made number m) calls) h (every_run I V number m calls)

runs_start : (I : Type 0) (V : I → Type 0) (number : ℕ) (m : SourceMeaning) → HasRun {I = I} {V = V} number m (made number m) []
unfolding trace_of meaning_after
runs_start I V number m = record { run = every_run I V number m []; means = refl }

runs_more : (I : Type 0) (V : I → Type 0) (number : ℕ) (m : SourceMeaning) (st : Meaning) (r : Trace (AnySink I V)) (c : Call (AnySink I V))
    → HasRun number m st r → HasRun number m (outcome st c).meaning ((outcome st c).exchange ∷ r)
unfolding trace_of meaning_after
runs_more I V number m st r c h =
    let cs : List (Call (AnySink I V)) = map handed r in
    let run : r ≡ trace_of (made number m) cs = only_run I V number m cs r h.run in
    let hd : handed (outcome st c).exchange ≡ c = handed-outcome st c in
    let calls : map handed ((outcome st c).exchange ∷ r) ≡ c ∷ cs = ap (λ (x : Call (AnySink I V)). x ∷ cs) hd in
    let all : trace_of (made number m) (c ∷ cs) ≡ (outcome st c).exchange ∷ r =
    ap (λ (x : Meaning). (outcome x c).exchange ∷ trace_of (made number m) cs) (sym h.means)
    ∙ ap (λ (x : Trace (AnySink I V)). (outcome st c).exchange ∷ x) (sym run) in
    record {
      run = record { same = refl; keeps = subst (λ (x : Trace (AnySink I V)). KeepsLaw number m x) all (run-keeps number m (c ∷ cs)) };
      means = ap (λ (x : Meaning). (outcome x c).meaning) h.means
          ∙ ap (λ (x : List (Call (AnySink I V))). meaning_after (made number m) x) (sym calls);
    }

pub runs_go_on : (I : Type 0) (V : I → Type 0) → RunsGoOn I V
runs_go_on I V = record { start = runs_start I V; more = runs_more I V }
