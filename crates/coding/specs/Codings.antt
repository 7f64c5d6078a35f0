-- The decoded body, by its coding. Assumes nothing.
use Rattle.std.specs.Prelude.{ℕ, zero, suc}
use Rattle.byte_lines.specs.Bytes.{Bytes}
use Rattle.source.specs.declared.ends.End.{End}
use Rattle.coding.specs.declared.decoder.Coding.{Coding}
use Rattle.coding.specs.declared.decoder.Coding.TheVariants.{Plain, Quoted, Base64}
use Rattle.coding.specs.Decoding.{Decoded, gives}
use Rattle.coding.specs.Base64.{base64}
use Rattle.coding.specs.Quoted.{quoted}

-- the decoded body of a raw body that begins at the offset `at` and meets the end e
abbrev pub decoded : Coding → (at : ℕ) → (raw : Bytes) → End → Decoded
decoded Plain at raw e = gives raw e
decoded Quoted at raw e = quoted at raw e
decoded Base64 at raw e = base64 at raw e

-- a coding's number
abbrev pub coding_number : Coding → ℕ
coding_number Plain = 0
coding_number Quoted = 1
coding_number Base64 = 2

-- the coding of a number
abbrev pub coding_by : ℕ → Coding
coding_by zero = Plain
coding_by (suc zero) = Quoted
coding_by (suc (suc n)) = Base64
