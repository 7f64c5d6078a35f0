-- The first line of a text. Assumes nothing.
use Rattle.std.specs.Prelude.{◌≡◌, ℕ, ◌+◌, ◌<◌, ◌≤◌, cond, ◌∷◌, length, take, drop, nat_lt}
use Rattle.byte_lines.specs.Bytes.{Bytes}
use Rattle.byte_lines.specs.Lines.{lines}

-- the first line of a text has `len` bytes and takes `width` of the text; an empty text has none
pub record FirstLine (s : Bytes) (len width : ℕ) : Type 0 where
  pub within : width ≤ length s
  pub wide : width ≡ len + cond (nat_lt len width) 2 0
  pub some : 0 < length s → 0 < width
  pub splits : 0 < length s → lines s ≡ record { content = take len s; ended = nat_lt len width } ∷ lines (drop width s)
