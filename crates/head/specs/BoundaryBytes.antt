-- What a boundary holds. Assumes nothing.
use Rattle.std.specs.Prelude.{true, false, take, Some, None, Option}
use Rattle.byte_lines.specs.Bytes.{Bytes}
use Rattle.head.specs.declared.boundary.Boundary.{Boundary}
use Rattle.head.specs.Entities.{lawful}

abbrev pub boundary_bytes : Boundary → Bytes
boundary_bytes b = take b.len b.bytes

abbrev pub boundary_of : Option Boundary → Option Bytes
boundary_of None = None
boundary_of (Some b) = Some (boundary_bytes b)

-- a text, if it is lawful as a boundary
abbrev pub if_lawful : Bytes → Option Bytes
if_lawful s = elim (lawful s) [ true ↦ Some s | false ↦ None ]
