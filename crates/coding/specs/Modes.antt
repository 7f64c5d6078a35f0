-- What a decoder will give, by its mode. Assumes nothing.
use Rattle.std.specs.Prelude.{ℕ, [], length}
use Rattle.byte_lines.specs.Bytes.{Bytes}
use Rattle.source.specs.declared.ends.End.{End}
use Rattle.coding.specs.declared.decoder.Mode.{Mode}
use Rattle.coding.specs.declared.decoder.Mode.TheVariants.{Plain, Base64, Quoted, Spent, Ended}
use Rattle.coding.specs.Decoding.{Decoded, gives}
use Rattle.coding.specs.Base64.{base64_from}
use Rattle.coding.specs.Sextets.{sextets_of}
use Rattle.coding.specs.Buffers.{items}
use Rattle.coding.specs.QuotedHeld.{quoted_from}

-- what the raw bytes from the offset `at` on give, by the end behind them
abbrev pub later_by : Mode → (at : ℕ) → (raw : Bytes) → End → Decoded
later_by Plain at raw e = gives raw e
later_by (Base64 d) at raw e = base64_from (sextets_of d.held) at raw e
later_by (Quoted d) at raw e = quoted_from (items d.held) at raw e
later_by Spent at raw e = gives [] e
later_by (Ended x) at raw e = gives [] x

-- how many raw bytes are held back
abbrev pub held_by : Mode → ℕ
held_by Plain = 0
held_by (Base64 d) = 0
held_by (Quoted d) = length (items d.held)
held_by Spent = 0
held_by (Ended x) = 0

-- how many bytes what is held back may still give at most: one for each raw byte, or each character, that is held
abbrev pub backlog_by : Mode → ℕ
backlog_by Plain = 0
backlog_by (Base64 d) = length (sextets_of d.held)
backlog_by (Quoted d) = length (items d.held)
backlog_by Spent = 0
backlog_by (Ended x) = 0
