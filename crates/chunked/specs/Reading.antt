-- What a reader of chunks means. Assumes nothing.
use Rattle.std.specs.Prelude.{ℕ, ◌+◌, Bool, length, Ok, Err, is_err}
use Rattle.byte_lines.specs.Bytes.{Bytes}
use Rattle.source.specs.Meanings.{Meaning, means}
use Rattle.chunked.specs.declared.reader.Chunked.{Chunked}
use Rattle.chunked.specs.Framing.{Step, Framed, framed, stops}

-- the framing from an offset on, by what comes next there and what the source below means
abbrev pub framing_from : Step → (taken : ℕ) → Meaning → Framed
framing_from (Ok p) taken m = framed p taken m.coming m.ending
framing_from (Err e) taken m = stops e taken m.coming

-- the framing from where a reader stands
abbrev pub framing : {S : Type 0} → (S → Meaning) → Chunked S → Framed
framing below c = framing_from c.next c.taken (below c.source)

-- the bytes to come and their end
abbrev pub unframes : Framed → Meaning
unframes f = means f.bytes f.ending

-- the reader has come to the end, and takes no more from below
abbrev pub at_end : {S : Type 0} → Chunked S → Bool
at_end c = is_err c.next

-- what the source below means
abbrev pub below_meaning : {S : Type 0} → (S → Meaning) → Chunked S → Meaning
below_meaning below c = below c.source

-- at most so many bytes and ends are still to be met
abbrev pub pending_by : Step → Bytes → ℕ
pending_by (Ok p) s = length s + 1
pending_by (Err e) s = 0

abbrev pub pending : {S : Type 0} → (S → Meaning) → Chunked S → ℕ
pending below c = pending_by c.next (below c.source).coming
