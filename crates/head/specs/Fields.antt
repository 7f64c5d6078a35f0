-- The fields of a head. Assumes nothing.
use Rattle.std.specs.Prelude.{Bool, true, false, ◌&&◌, List, [], ◌∷◌, ◌++◌, length}
use Rattle.byte_lines.specs.Bytes.{Bytes}
use Rattle.byte_lines.specs.Classes.{within, blank}
use Rattle.byte_lines.specs.Lines.{Line}
use Rattle.byte_lines.specs.Strings.{has, every, before, after, trim, named}

pub record Field : Type 0 where
  pub name : Bytes
  pub value : Bytes

-- a field line has a name of 1 to 64 bytes from 33 to 126 without ':', and then ':'
abbrev pub is_field : Bytes → Bool
is_field s = has 58 s && (within 1 64 (length (before 58 s)) && every (within 33 126) (before 58 s))

-- a line that begins with a blank continues the field before it
abbrev pub continues : Bytes → Bool
continues [] = false
continues (b ∷ bs) = blank b

-- the fields of a head's lines, and before them what the lines at the start continue
pub record Gathered : Type 0 where
  pub more : Bytes
  pub fields : List Field

-- a value is all after ':', over its continuation lines without their CRLFs, stripped of blanks at both ends
abbrev pub field : (line more : Bytes) → Field
field s more = record { name = before 58 s; value = trim (after 58 s ++ more) }

unfoldable pub gathered : List Line → Gathered
gathered [] = record { more = []; fields = [] }
gathered (l ∷ ls) =
    elim (continues l.content) [
      | true ↦ record { more = l.content ++ (gathered ls).more; fields = (gathered ls).fields }
      | false ↦ record { more = []; fields = field l.content (gathered ls).more ∷ (gathered ls).fields }
    ]

abbrev pub fields_of : List Line → List Field
fields_of ls = (gathered ls).fields

-- the values of the fields of that name, which is in small letters
unfoldable pub values_of : (word : Bytes) → List Field → List Bytes
values_of word [] = []
values_of word (f ∷ fs) = elim (named word f.name) [ true ↦ f.value ∷ values_of word fs | false ↦ values_of word fs ]
