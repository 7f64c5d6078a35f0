-- What a decoder means, and what a feed owes. Assumes nothing.
use Rattle.std.specs.Prelude.{◌≡◌, ℕ, ◌+◌, ◌<◌, ◌≤◌, min, Bool, true, false, [], ◌++◌, length, take, drop, Some, None, Option}
use Rattle.byte_lines.specs.Bytes.{Bytes}
use Rattle.source.specs.declared.ends.End.{End}
use Rattle.coding.specs.declared.decoder.Decoder.{Decoder}
use Rattle.coding.specs.Decoding.{Decoded, gives, prefixed}
use Rattle.coding.specs.Modes.{later_by, backlog_by}
use Rattle.coding.specs.Buffers.{items}

-- the input has no byte at this offset or past it, so a decoder takes none
abbrev pub limit : ℕ
limit = 16777216

-- what a decoder means: decoded bytes that wait to be given, what the raw bytes to come will give behind them, by their end,
-- and the offset of the next raw byte
pub record Meaning : Type 0 where
  pub ready : Bytes
  pub later : (raw : Bytes) → End → Decoded
  pub place : ℕ

abbrev pub meaning : Decoder → Meaning
meaning d = record { ready = items d.ready; later = later_by d.mode d.at; place = d.at }

-- how many bytes a decoder may still give at most for the raw bytes that it has taken: those that wait, and what is held back
unfoldable pub backlog : Decoder → ℕ
backlog d = length (items d.ready) + backlog_by d.mode

-- all that is still to be given, if these raw bytes come and then that end
abbrev pub outlook : Meaning → (raw : Bytes) → End → Decoded
outlook m raw e = prefixed m.ready (m.later raw e)

-- what a feed of raw bytes owes that took some of them and gave some bytes into a buffer
pub record Feeds (m : Meaning) (raw out : Bytes) (taken given : ℕ) (m' : Meaning) (out' : Bytes) : Type 0 where
  pub took : taken ≤ length raw
  pub gave : given ≤ length out
  pub kept : drop given out' ≡ drop given out
  pub moved : m'.place ≡ m.place + taken
  -- however it goes on, the bytes given and the outlook are the outlook before
  pub whole : (q : Bytes) (e : End) → outlook m (raw ++ q) e ≡ prefixed (take given out') (outlook m' (drop taken raw ++ q) e)
  -- bytes that wait are given first, as many as the buffer holds
  pub waits : 0 < length m.ready → (taken ≡ 0) × (given ≡ min (length m.ready) (length out))
  -- where none waits, raw bytes are taken if there are any, up to the limit
  pub goes : m.ready ≡ [] → 0 < length raw → m.place < limit → 0 < taken

-- what the end of the raw body owes, by whether it was taken: not while a decoded byte waits
abbrev pub Finishes : Bool → Meaning → End → Meaning → Type 0
Finishes true m x m' = (m.ready ≡ []) × ((raw : Bytes) (e : End) → outlook m' raw e ≡ m.later [] x)
Finishes false m x m' = (0 < length m.ready) × (m' ≡ m)

-- where the end was taken, all that it sets free waits
abbrev pub Releases : Bool → Meaning → End → Meaning → Type 0
Releases true m x m' = m'.ready ≡ (m.later [] x).bytes
Releases false m x m' = Unit {0}

-- nothing more is to be given, whatever comes, and the end is x
abbrev pub Settled : Meaning → End → Type 0
Settled m x = (raw : Bytes) (e : End) → outlook m raw e ≡ gives [] x

-- the answer to whether that is so
abbrev pub Outcome : Meaning → Option End → Type 0
Outcome m (Some x) = Settled m x
Outcome m None = (x : End) → Settled m x → ⊥
