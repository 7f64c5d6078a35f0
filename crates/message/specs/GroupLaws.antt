-- What the role of a line says, in other words. Assumes nothing.
use Rattle.std.specs.Prelude.{◌≡◌, List, [], ◌∷◌, ◌++◌, ◌≢◌}
use Rattle.byte_lines.specs.Bytes.{Bytes}
use Rattle.message.specs.Groups.{Group, Role, separates, closes, text, separator, closing_line, role}

-- the line is neither separator nor closing line of any of these groups
abbrev pub Apart : List Group → (line : Bytes) → Type 0
Apart [] s = Unit {0}
Apart (g ∷ gs) s = (s ≢ separator g) × (s ≢ closing_line g) × Apart gs s

-- the groups, from the innermost out, are those that the line does not fit, the first that it fits, and those around that one
abbrev pub RoleSays : List Group → (line : Bytes) → Role → Type 0
RoleSays gs s (separates deeper g around) = (gs ≡ deeper ++ (g ∷ around)) × Apart deeper s × (s ≡ separator g)
RoleSays gs s (closes deeper g around) = (gs ≡ deeper ++ (g ∷ around)) × Apart deeper s × (s ≢ separator g) × (s ≡ closing_line g)
RoleSays gs s text = Apart gs s

-- a whole line is compared, against the innermost group first
abbrev pub WholeLines : Type 0
WholeLines = (gs : List Group) (s : Bytes) → RoleSays gs s (role gs s)
