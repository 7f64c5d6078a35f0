-- A whole body, decoded into a buffer. Assumes nothing.
use Rattle.std.specs.Prelude.{◌≡◌, ℕ, ◌<◌, ◌≤◌, true, false, [], ◌++◌, length, take, drop, Some, None, Option, Ok, Err, codes, decimal, Result, nat_le}
use Rattle.byte_lines.specs.Bytes.{Bytes}
use Rattle.source.specs.declared.ends.End.{End}
use Rattle.source.specs.declared.ends.End.TheVariants.{Clean}
use Rattle.coding.specs.declared.decoder.Coding.{Coding}
use Rattle.coding.specs.Codings.{decoded}
use Rattle.coding.specs.Decoding.{Decoded, prefixed}
use Rattle.coding.specs.Decoders.{Meaning, outlook, limit}
use Rattle.decode.specs.declared.whole.Unfit.{Unfit}
use Rattle.decode.specs.declared.whole.Unfit.TheVariants.{TooLong, NoRoom}

-- how many bytes a decoded body has and its end, and the buffer with these bytes in place of as many at its start
abbrev pub put : Decoded → (old : Bytes) → (ℕ × End) × Bytes
put d old = ((length d.bytes, d.ending), d.bytes ++ drop (length d.bytes) old)

-- what decoding into a buffer owes: the bytes and the end, or where they are too many as many of them as the buffer holds
abbrev pub Within : Decoded → (old new : Bytes) → Option (ℕ × End) → Type 0
Within d old new (Some p) = (length d.bytes ≤ length old) × ((p, new) ≡ put d old)
Within d old new None = (length old < length d.bytes) × (new ≡ take (length old) d.bytes)

-- what feeding a raw body owes: nothing waits, and what was given stands at the buffer's start; or it was full before
abbrev pub FedAll : Meaning → Meaning → (raw old new : Bytes) → Option ℕ → Type 0
FedAll m m' raw old new (Some n) =
    (n ≤ length old) × (drop n new ≡ drop n old) × (m'.ready ≡ []) × ((q : Bytes) (e : End) → outlook m (raw ++ q) e ≡ prefixed (take n new) (outlook m' q e))
FedAll m m' raw old new None = (length old < length (outlook m raw Clean).bytes) × (new ≡ take (length old) (outlook m raw Clean).bytes)

-- the answer and the buffer after it: a raw body longer than an input is refused, and the buffer is as it was; where the buffer is too short, it holds the first
-- of the decoded bytes
abbrev pub wholly : Coding → (raw old : Bytes) → Result (ℕ × End) Unfit × Bytes
wholly coding raw old =
    let d = decoded coding 0 raw Clean in
    elim (nat_le (length raw) limit) [
      | true ↦ elim (nat_le (length d.bytes) (length old)) [
        | true ↦ let p = put d old in (Ok p.0, p.1)
        | false ↦ (Err NoRoom, take (length old) d.bytes)
      ]
      | false ↦ (Err TooLong, old)
    ]

-- how a refusal is printed
abbrev pub unfit_text : Unfit → Bytes
unfit_text TooLong = codes "a body of more than " ++ (decimal limit ++ codes " bytes")
unfit_text NoRoom = codes "a buffer too short for the decoded body"
