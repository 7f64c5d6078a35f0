-- The values of the store and of the tally. Assumes nothing.
use Rattle.std.specs.Prelude.{ℕ, ◌+◌, ◌-◌, ◌*◌, ◌%◌, ◌^◌, min, [], ◌∷◌, ◌++◌, length, take, drop, bit_xor}
use Rattle.sink.specs.declared.store.Store.{Store}
use Rattle.sink.specs.declared.tally.Tally.{Tally}
use Rattle.byte_lines.specs.Bytes.{Bytes}
use Rattle.sink.specs.Meanings.{Meaning}

-- a store's step: the byte behind those written
abbrev pub written : Bytes → ℕ → Bytes
written bs b = bs ++ (b ∷ [])

-- the bytes written to a buffer, of which a store uses the first 16,777,216 at most
abbrev pub store_meaning : Store → Meaning Bytes
store_meaning s =
    record {
      value = take s.used s.buffer.now;
      step = written;
      space = min (length s.buffer.now) 16777216 - s.used;
      unwritten = drop s.used s.buffer.now;
      lent = s.buffer.ghost_name ∷ [];
    }

-- a count, and the FNV-1a sum of 32 bits
pub record Count : Type 0 where
  pub count : ℕ
  pub sum : ℕ

abbrev pub none : Count
none = record { count = 0; sum = 2166136261 }

-- a tally's step: the byte is XORed in and the sum multiplied by 16,777,619
abbrev pub counted : Count → ℕ → Count
counted c b = record { count = c.count + 1; sum = (bit_xor c.sum b * 16777619) % 2 ^ 32 }

abbrev pub tally_meaning : Tally → Meaning Count
tally_meaning t =
    record {
      value = record { count = t.count; sum = t.sum };
      step = counted;
      space = 4294967295 - t.count;
      unwritten = [];
      lent = [];
    }
