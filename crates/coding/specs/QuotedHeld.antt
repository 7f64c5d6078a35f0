-- A quoted-printable decoder that stands within a line. Assumes nothing.
use Rattle.std.specs.Prelude.{ℕ, ◌-◌, ◌++◌, length, ◌≢◌}
use Rattle.byte_lines.specs.Bytes.{Bytes}
use Rattle.source.specs.declared.ends.End.{End}
use Rattle.coding.specs.Decoding.{Decoded}
use Rattle.coding.specs.Quoted.{quoted}

-- what comes of raw bytes from the offset `at` on, behind those that are held back
abbrev pub quoted_from : (held : Bytes) (at : ℕ) (raw : Bytes) → End → Decoded
quoted_from held at raw e = quoted (at - length held) (held ++ raw) e

-- neither a blank nor '=' nor CR
abbrev pub Mere : ℕ → Type 0
Mere b = (b ≢ 32) × (b ≢ 9) × (b ≢ 61) × (b ≢ 13)
