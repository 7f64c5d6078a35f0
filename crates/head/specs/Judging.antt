-- What `judge` and its steps tell. Assumes nothing.
use Rattle.std.specs.Prelude.{◌≡◌, ℕ, ◌+◌, Bool, not, ◌&&◌, List, ◌∷◌, Result, Ok, Err, ◌==◌}
use Rattle.byte_lines.specs.Bytes.{Bytes}
use Rattle.byte_lines.specs.Classes.{within}
use Rattle.byte_lines.specs.Lines.{Line, width}
use Rattle.head.specs.declared.faults.HeadFault.{HeadFault}
use Rattle.head.specs.declared.faults.HeadFault.TheVariants.{TooLong, Malformed, TooManyFields, Repeated, CodedGroup, BadBoundary, TooDeep}
use Rattle.head.specs.declared.faults.FaultAt.{FaultAt}
use Rattle.head.specs.LineFaults.{Verdict, passes, faulty, judged}

abbrev pub fault_number : HeadFault → ℕ
fault_number TooLong = 41
fault_number Malformed = 42
fault_number TooManyFields = 43
fault_number Repeated = 44
fault_number CodedGroup = 45
fault_number BadBoundary = 46
fault_number TooDeep = 47

abbrev pub verdict_of : Result ℕ FaultAt → Verdict
verdict_of (Ok n) = passes n
verdict_of (Err f) = faulty (fault_number f.fault) f.offset

-- 33 to 126 without ':'
abbrev pub name_byte : ℕ → Bool
name_byte b = within 33 126 b && not (58 == b)

-- the verdict on a line that begins at `size` and ends at `end`, and on the lines behind it, by what the line gave
abbrev pub verdict_by : Result ℕ HeadFault → (size end : ℕ) → List Line → Verdict
verdict_by (Ok n) size end ls = judged end n ls
verdict_by (Err f) size end ls = faulty (fault_number f) size

-- r is what a line of these bytes, which ends at `end` and stands behind n fields, makes of the verdict on a head
abbrev pub JudgesLine : Result ℕ HeadFault → Bytes → (end n : ℕ) → Type 0
JudgesLine r s end n =
    (size : ℕ) (ended : Bool) (ls : List Line) → size + width (record { content = s; ended = ended }) ≡ end → judged size n (record { content = s; ended = ended } ∷ ls) ≡ verdict_by r size end ls
