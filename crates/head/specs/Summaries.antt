-- What a Content-Type's value says of its entity. Assumes nothing.
use Rattle.std.specs.Prelude.{Bool, true, false, Some, None, codes, Option}
use Rattle.byte_lines.specs.Bytes.{Bytes}
use Rattle.byte_lines.specs.Strings.{named}
use Rattle.head.specs.declared.media.Media.{Media}
use Rattle.head.specs.declared.media.Media.TheVariants.{Single, Multipart}
use Rattle.head.specs.BoundaryBytes.{boundary_of}
use Rattle.head.specs.Entities.{boundaries, boundary}
use Rattle.head.specs.Media.{MediaType}

-- broken, not a multipart, or a multipart with its one lawful boundary if it has that
pub data Summary : Type 0 where
  broken single : Summary
  multipart : (boundary : Option Bytes) → Summary

abbrev pub told : Option Media → Summary
told None = broken
told (Some Single) = single
told (Some (Multipart b)) = multipart (boundary_of b)

abbrev pub typed_summary : (is_multipart : Bool) → Option Bytes → Summary
typed_summary true b = multipart b
typed_summary false b = single

abbrev pub summary : Option MediaType → Summary
summary None = broken
summary (Some t) = typed_summary (named (codes "multipart") t.type) (boundary (boundaries t.parameters))
