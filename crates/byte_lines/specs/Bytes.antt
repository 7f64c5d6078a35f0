-- Strings of bytes, and how an enum answers. Assumes nothing.
use Rattle.std.specs.Prelude.{ℕ, List}

abbrev pub Bytes : Type 0
Bytes = List ℕ

-- what an enum answers: its number, and its values
abbrev pub Answer : Type 0
Answer = ℕ × List ℕ
