-- The theorems over runs, which the contracts name. Assumes nothing.
use Rattle.std.specs.Prelude.{◌≡◌, ℕ, List, [], ◌∷◌, map}
use Rattle.source.specs.Meanings.{Meaning as SourceMeaning}
use Rattle.calls.specs.Calls.{AnySink, Call, Exchange, Trace, handed}
use Rattle.calls.specs.ReaderMeaning.{Meaning, made, outcome, meaning_after, trace_of}
use Rattle.calls.specs.Traces.{Verdict, verdict, granted, refused_by, faulty_by}
use Rattle.calls.specs.RunLaw.{KeepsLaw}

module _ {I : Type 0} {V : I → Type 0} where
  -- the trace is one of these calls, the latest first, and keeps the law of a reader with this number, made over a source that means m
  pub record RunOf (number : ℕ) (m : SourceMeaning) (calls : List (Call (AnySink I V))) (trace : Trace (AnySink I V)) : Type 0 where
    pub same : map handed trace ≡ calls
    pub keeps : KeepsLaw number m trace

  -- a reader that means `current` has had this run since it was made
  pub record HasRun (number : ℕ) (m : SourceMeaning) (current : Meaning) (trace : Trace (AnySink I V)) : Type 0 where
    pub run : RunOf number m (map handed trace) trace
    pub means : current ≡ meaning_after (made number m) (map handed trace)

-- whichever calls are made, their run keeps the law; the sinks' values may be of any kinds I, with the types V
abbrev pub EveryRunKeepsTheLaw : (I : Type 0) → (V : I → Type 0) → Type 0
EveryRunKeepsTheLaw I V =
    (number : ℕ) (m : SourceMeaning) (calls : List (Call (AnySink I V))) → RunOf number m calls (trace_of (made number m) calls)

-- two runs of the same calls, by readers of equal number whose sources mean the same, are equal in every answer and in all that they left
-- in buffers and sinks; so the law leaves a reader nothing to choose
abbrev pub RunsAlike : (I : Type 0) → (V : I → Type 0) → Type 0
RunsAlike I V =
    (number : ℕ) (m : SourceMeaning) (calls : List (Call (AnySink I V))) (one other : Trace (AnySink I V))
    → RunOf number m calls one → RunOf number m calls other → one ≡ other

-- the exchange before the others, unless it was refused
abbrev pub unless_refused : {S : Type 0} → Verdict → Exchange S → Trace S → Trace S
unless_refused granted x past = x ∷ past
unless_refused (refused_by k) x past = past
unless_refused (faulty_by f) x past = past

-- the exchanges that were not refused
abbrev pub unrefused : {S : Type 0} → Trace S → Trace S
unrefused [] = []
unrefused (x ∷ past) = unless_refused (verdict x) x (unrefused past)

-- a refusal leaves what later calls answer as without it: without its refused calls a run is still a run
abbrev pub RefusalsLeaveNoTrace : (I : Type 0) → (V : I → Type 0) → Type 0
RefusalsLeaveNoTrace I V =
    (number : ℕ) (m : SourceMeaning) (calls : List (Call (AnySink I V))) (trace : Trace (AnySink I V))
    → RunOf number m calls trace → RunOf number m (map handed (unrefused trace)) (unrefused trace)

-- a reader just made has had an empty run, and each call, chosen however, adds its exchange to the run
pub record RunsGoOn (I : Type 0) (V : I → Type 0) : Type 0 where
  pub start : (number : ℕ) (m : SourceMeaning) → HasRun {I = I} {V = V} number m (made number m) []
  pub more : (number : ℕ) (m : SourceMeaning) (current : Meaning) (trace : Trace (AnySink I V)) (call : Call (AnySink I V))
      → HasRun number m current trace → HasRun number m (outcome current call).meaning ((outcome current call).exchange ∷ trace)
