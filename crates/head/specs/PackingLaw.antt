-- The law of packing. Assumes nothing.
use Rattle.std.specs.Prelude.{◌≡◌, List, length, take}
use Rattle.byte_lines.specs.Bytes.{Bytes}
use Rattle.head.specs.declared.table.Record.{Record}
use Rattle.head.specs.Fields.{Field}
use Rattle.head.specs.Packing.{buffer_after, table_after}
use Rattle.head.specs.Lookup.{fields_in}

-- the first records of a table name in the head buffer the very fields that were packed
abbrev pub PackingGivesBack : Type 0
PackingGivesBack = (fs : List Field) (buffer : Bytes) (table : List Record) → fields_in (buffer_after fs buffer) (take (length fs) (table_after fs table)) ≡ fs
