-- What a sink means, and what a take owes. Assumes nothing.
use Rattle.std.specs.Prelude.{ℕ, ◌-◌, cond, List, [], length, drop, Ok, Err, fold, Result, nat_le}
use Rattle.std.specs.Borrow.{GName}
use Rattle.byte_lines.specs.Bytes.{Bytes, Answer}
use Rattle.sink.specs.declared.sinks.Refusal.{Refusal}
use Rattle.sink.specs.declared.sinks.Refusal.TheVariants.{Full}

-- what a sink means: a value of its own kind, the step by which a byte changes it, and the space;
-- and of memory that was lent to it, what it has not written yet, and the names of the references, which stay
pub record Meaning (Kind : Type 0) : Type 0 where
  pub value : Kind
  pub step : Kind → ℕ → Kind
  pub space : ℕ
  pub unwritten : Bytes
  pub lent : List GName

-- stepped through some bytes in order
abbrev pub stepped : {Kind : Type 0} → Meaning Kind → Bytes → Meaning Kind
stepped m bs =
    record {
      value = fold m.step m.value bs;
      step = m.step;
      space = m.space - length bs;
      unwritten = drop (length bs) m.unwritten;
      lent = m.lent;
    }

-- 5: more bytes than space
abbrev pub refusal : Refusal → Answer
refusal Full = (5, [])

abbrev pub answer : {U : Type 0} → Result U Refusal → Answer
answer (Ok u) = (0, [])
answer (Err r) = refusal r

-- the whole result of a take: the answer, and the meaning after it
abbrev pub taken : {Kind : Type 0} → Meaning Kind → Bytes → Answer × Meaning Kind
taken m bs = cond (nat_le (length bs) m.space) ((0, []), stepped m bs) ((5, []), m)
