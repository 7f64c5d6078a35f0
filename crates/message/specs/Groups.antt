-- The open groups, and what a line is to them. Assumes nothing.
use Rattle.std.specs.Prelude.{ℕ, Bool, true, false, List, [], ◌∷◌, ◌++◌}
use Rattle.std.specs.Str.{bytes_eq}
use Rattle.byte_lines.specs.Bytes.{Bytes}

-- an open group: the number of its entity, and its boundary. A list of open groups has the innermost first
pub record Group : Type 0 where
  pub number : ℕ
  pub boundary : Bytes

-- the number of the innermost group, 0 for none
abbrev pub innermost : List Group → ℕ
innermost [] = 0
innermost (g ∷ gs) = g.number

abbrev pub hyphens : Bytes
hyphens = 45 ∷ (45 ∷ [])

-- a group's separator is two hyphens and its boundary; its closing line has two hyphens more after it
abbrev pub separator : Group → Bytes
separator g = hyphens ++ g.boundary

abbrev pub closing_line : Group → Bytes
closing_line g = separator g ++ hyphens

-- what a line is to the open groups: a group's separator or closing line, with the groups open inside that group and those around it, or text
pub data Role : Type 0 where
  separates : (deeper : List Group) (group : Group) (around : List Group) → Role
  closes : (deeper : List Group) (group : Group) (around : List Group) → Role
  text : Role

-- the same line, where g is open inside all the others
abbrev pub inside : Group → Role → Role
inside g (separates deeper h around) = separates (g ∷ deeper) h around
inside g (closes deeper h around) = closes (g ∷ deeper) h around
inside g text = text

-- every line is tested against the open groups, innermost first; the first group that fits counts
unfoldable pub role : List Group → (line : Bytes) → Role
role [] s = text
role (g ∷ gs) s =
    elim (bytes_eq (separator g) s) [
      | true ↦ separates [] g gs
      | false ↦ elim (bytes_eq (closing_line g) s) [ true ↦ closes [] g gs | false ↦ inside g (role gs s) ]
    ]

abbrev pub fits : Role → Bool
fits (separates deeper g around) = true
fits (closes deeper g around) = true
fits text = false
