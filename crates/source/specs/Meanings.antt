-- What a source means, and what a pull owes. Assumes nothing.
use Rattle.std.specs.Prelude.{◌≡◌, ℕ, ◌<◌, ◌≤◌, [], ◌∷◌, ◌++◌, length, take, drop, Ok, Err, Result}
use Rattle.byte_lines.specs.Bytes.{Bytes, Answer}
use Rattle.source.specs.declared.ends.Fault.{Fault}
use Rattle.source.specs.declared.ends.End.{End}
use Rattle.source.specs.declared.ends.End.TheVariants.{Clean, Faulty}

abbrev pub fault : (number layer place : ℕ) → Fault
fault n l p = record { number = n; layer = l; place = p }

-- the bytes to come, and the end behind them
pub record Meaning : Type 0 where
  pub coming : Bytes
  pub ending : End

abbrev pub means : Bytes → End → Meaning
means s e = record { coming = s; ending = e }

abbrev pub gave : ℕ → Answer
gave n = (0, n ∷ [])

abbrev pub ended : End → Answer
ended Clean = (1, [])
ended (Faulty f) = (2, f.number ∷ (f.layer ∷ (f.place ∷ [])))

abbrev pub answer : Result ℕ End → Answer
answer (Ok n) = gave n
answer (Err e) = ended e

-- the whole result of a pull that chose to give n bytes, by the bytes to come, the end and the buffer: the answer, the meaning after it, and the buffer after it
abbrev pub pulled : ℕ → Bytes → End → Bytes → Answer × Meaning × Bytes
pulled n s e [] = (gave 0, means s e, [])
pulled n [] e (b ∷ bs) = (ended e, means [] e, b ∷ bs)
pulled n (x ∷ xs) e (b ∷ bs) = (gave n, means (drop n (x ∷ xs)) e, take n (x ∷ xs) ++ drop n (b ∷ bs))

-- a pull may choose n: no more than are to come and than the buffer holds, and at least 1 where it can
pub record MayGive (s buffer : Bytes) (n : ℕ) : Type 0 where
  pub comes : n ≤ length s
  pub fits : n ≤ length buffer
  pub some : 0 < length s → 0 < length buffer → 0 < n

-- what a pull owes: for some choice it gives that pull's whole result
pub record Pulls (m : Meaning) (buffer : Bytes) (a : Answer) (m' : Meaning) (buffer' : Bytes) : Type 0 where
  pub chosen : ℕ
  pub lawful : MayGive m.coming buffer chosen
  pub result : (a, m', buffer') ≡ pulled chosen m.coming m.ending buffer
