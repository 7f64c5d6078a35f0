-- What the code tells of a head's entity, as the definitions say it. Assumes nothing.
use Rattle.std.specs.Prelude.{◌≡◌, ℕ, ◌<◌, true, false, ◌&&◌, List, length, Some, None, Option, Result, Ok, Err, ◌==◌}
use Rattle.byte_lines.specs.Bytes.{Bytes}
use Rattle.coding.specs.Codings.{coding_number}
use Rattle.coding.specs.declared.decoder.Coding.{Coding}
use Rattle.head.specs.declared.faults.HeadFault.{HeadFault}
use Rattle.head.specs.declared.faults.HeadFault.TheVariants.{Repeated}
use Rattle.head.specs.declared.opening.Opening.{Opening}
use Rattle.head.specs.declared.opening.Opening.TheVariants.{Leaf, Group}
use Rattle.head.specs.BoundaryBytes.{boundary_bytes}
use Rattle.head.specs.Entities.{Coded, Entity, leaf, group, refused, leaf_of, group_of, coding_of, twice}
use Rattle.head.specs.Judging.{fault_number}
use Rattle.head.specs.Summaries.{Summary, broken, single, multipart}

-- a coding, or one that is not known
abbrev pub coded_by : Option Coding → Coded
coded_by (Some c) = record { coding = coding_number c; mark = 0 }
coded_by None = record { coding = 0; mark = 2 }

abbrev pub entity_by : Result Opening HeadFault → Entity
entity_by (Ok (Leaf coding marks)) = leaf (coding_number coding) marks
entity_by (Ok (Group b)) = group (boundary_bytes b)
entity_by (Err f) = refused (fault_number f)

-- the entity, by what its Content-Type says in short
abbrev pub entity_from : (around : ℕ) → Summary → Coded → Entity
entity_from around broken c = leaf_of c 1
entity_from around single c = leaf_of c 0
entity_from around (multipart b) c = elim (c.coding == 0 && c.mark == 0) [ true ↦ group_of around b | false ↦ refused 45 ]

-- the coding of a list of values, unless there is more than one
abbrev pub CodingIs : Result (Option Coding) HeadFault → List Bytes → Type 0
CodingIs (Ok c) vs = (twice vs ≡ false) × (coded_by c ≡ coding_of vs)
CodingIs (Err f) vs = (f ≡ Repeated) × (1 < length vs)
