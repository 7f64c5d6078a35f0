-- The fields of a table over a head buffer, and what `lookup` finds. Assumes nothing.
use Rattle.std.specs.Prelude.{◌≡◌, ◌<◌, List, [], ◌∷◌, map, length, take, drop, Some, None, Option, Result, Ok, Err}
use Rattle.std.specs.Borrow.{Bor}
use Rattle.byte_lines.specs.Bytes.{Bytes}
use Rattle.head.specs.declared.faults.HeadFault.{HeadFault}
use Rattle.head.specs.declared.faults.HeadFault.TheVariants.{Repeated}
use Rattle.head.specs.declared.table.Record.{Record}
use Rattle.head.specs.Fields.{Field}

-- the field that a record says of a buffer
abbrev pub field_at : Bytes → Record → Field
field_at buffer r =
    record {
      name = take r.name_len (drop r.name_start buffer);
      value = take r.value_len (drop r.value_start buffer);
    }

abbrev pub fields_in : Bytes → List Record → List Field
fields_in buffer rs = map (field_at buffer) rs

-- none or the one of a list of values, or the fault that there are more
abbrev pub ValueIs : Result (Option (Bor Bytes)) HeadFault → List Bytes → Type 0
ValueIs (Ok None) vs = vs ≡ []
ValueIs (Ok (Some v)) vs = vs ≡ v.now ∷ []
ValueIs (Err f) vs = (f ≡ Repeated) × (1 < length vs)
