-- How fields lie in the head buffer and in the table. Assumes nothing.
use Rattle.std.specs.Prelude.{ℕ, ◌+◌, ◌-◌, List, [], ◌∷◌, ◌++◌, length, drop, replicate}
use Rattle.byte_lines.specs.Bytes.{Bytes}
use Rattle.head.specs.declared.table.Record.{Record}
use Rattle.head.specs.Fields.{Field}

-- names and values in their order, with nothing between them
unfoldable pub packed : List Field → Bytes
packed [] = []
packed (f ∷ fs) = f.name ++ (f.value ++ packed fs)

abbrev pub record_at : (start : ℕ) → Field → Record
record_at start f =
    record {
      name_start = start;
      name_len = length f.name;
      value_start = start + length f.name;
      value_len = length f.value;
    }

-- each field's name and value by start and length, the first field from `start` on
unfoldable pub records : (start : ℕ) → List Field → List Record
records start [] = []
records start (f ∷ fs) = record_at start f ∷ records (start + length f.name + length f.value) fs

abbrev pub no_record : Record
no_record = record { name_start = 0; name_len = 0; value_start = 0; value_len = 0 }

-- xs at the start of the first n elements of a list, then zeros up to n; what lies beyond stays
abbrev pub laid : {A : Type 0} → (zero : A) (n : ℕ) (xs old : List A) → List A
laid zero n xs old = xs ++ (replicate (n - length xs) zero ++ drop n old)

-- the head buffer and the table after a head with these fields
abbrev pub buffer_after : List Field → Bytes → Bytes
buffer_after fs old = laid 0 8192 (packed fs) old

abbrev pub table_after : List Field → List Record → List Record
table_after fs old = laid no_record 64 (records 0 fs) old
