-- How a decoder goes on behind a raw byte. Assumes nothing.
use Rattle.std.specs.Prelude.{ℕ, []}
use Rattle.byte_lines.specs.Bytes.{Bytes}
use Rattle.source.specs.declared.ends.End.{End}
use Rattle.coding.specs.declared.flow.Flow.{Flow}
use Rattle.coding.specs.declared.flow.Flow.TheVariants.{On, Spent, Ended}
use Rattle.coding.specs.Decoding.{Decoded, gives}

-- what is left to decode, where the coding itself would give `on`, by the raw bytes still to come and the end behind them
abbrev pub flowing : Flow → (on : Bytes → End → Decoded) → (raw : Bytes) → End → Decoded
flowing On on raw e = on raw e
flowing Spent on raw e = gives [] e
flowing (Ended x) on raw e = gives [] x

-- of n bytes that are held back, how many stay so
abbrev pub still_held : Flow → ℕ → ℕ
still_held On n = n
still_held Spent n = 0
still_held (Ended x) n = 0
