-- What it means to drain a source into a sink. Assumes nothing.
use Rattle.std.specs.Prelude.{cond, [], length, take, drop, Ok, Err, Result, nat_lt}
use Rattle.byte_lines.specs.Bytes.{Answer}
use Rattle.source.specs.Meanings.{Meaning as Source, means, ended}
use Rattle.sink.specs.Meanings.{Meaning as Sink, stepped, refusal}
use Rattle.source.specs.declared.ends.End.{End}
use Rattle.sink.specs.declared.sinks.Refusal.{Refusal}

-- 5: the space was used up
abbrev pub answer : Result End Refusal → Answer
answer (Ok e) = ended e
answer (Err r) = refusal r

-- the whole result: the answer, and what source and sink mean after it
abbrev pub drained : {Kind : Type 0} → Source → Sink Kind → Answer × Source × Sink Kind
drained m k =
    cond (nat_lt (length m.coming) k.space) (ended m.ending, means [] m.ending, stepped k m.coming)
    ((5, []), means (drop k.space m.coming) m.ending, stepped k (take k.space m.coming))
