-- What can be wrong with a coded body. Assumes nothing.
use Rattle.std.specs.Prelude.{ℕ}
use Rattle.coding.specs.declared.flaw.Flaw.{Flaw}
use Rattle.coding.specs.declared.flaw.Flaw.TheVariants.{LeftOver, TooManyBlanks}

-- the fault's number
abbrev pub flaw_number : Flaw → ℕ
flaw_number LeftOver = 51
flaw_number TooManyBlanks = 52
