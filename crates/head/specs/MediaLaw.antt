-- A Content-Type that is written from its parts is read back as the same parts. Assumes nothing.
use Rattle.std.specs.Prelude.{◌≡◌, Bool, true, false, not, ◌&&◌, List, [], ◌∷◌, ◌++◌, map, Some, ◌==◌}
use Rattle.byte_lines.specs.Bytes.{Bytes}
use Rattle.head.specs.Media.{token, Parameter, media_type}

-- a parameter's value, as a token or by the content of a quoted string
pub data Value : Type 0 where
  plain : (text : Bytes) → Value
  quoted : (text : Bytes) → Value

pub record Written : Type 0 where
  pub name : Bytes
  pub value : Value

-- a quoted string may have this content: each '"' in it has its '\', and no '\' stands last
unfoldable pub quotable : Bytes → (is_protected : Bool) → Bool
quotable [] p = not p
quotable (b ∷ bs) true = quotable bs false
quotable (b ∷ bs) false = elim (b == 34) [ true ↦ false | false ↦ quotable bs (b == 92) ]

abbrev pub lawful_value : Value → Bool
lawful_value (plain s) = token s
lawful_value (quoted s) = quotable s false

abbrev pub content_of : Value → Bytes
content_of (plain s) = s
content_of (quoted s) = s

abbrev pub value_text : Value → Bytes
value_text (plain s) = s
value_text (quoted s) = 34 ∷ (s ++ 34 ∷ [])

-- SP, and then the parameter
abbrev pub piece_text : Written → Bytes
piece_text p = 32 ∷ (p.name ++ 61 ∷ value_text p.value)

unfoldable pub lawful_parameters : List Written → Bool
lawful_parameters [] = true
lawful_parameters (p ∷ ps) = token p.name && (lawful_value p.value && lawful_parameters ps)

-- each parameter behind a ';'
unfoldable pub written : List Written → Bytes
written [] = []
written (p ∷ ps) = 59 ∷ (piece_text p ++ written ps)

abbrev pub canonical : (type subtype : Bytes) → List Written → Bytes
canonical t s ps = (t ++ 47 ∷ s) ++ written ps

abbrev pub parameter_from : Written → Parameter
parameter_from p = record { name = p.name; value = content_of p.value }

abbrev pub ReadsBack : Type 0
ReadsBack =
    (t s : Bytes) (ps : List Written) → token t ≡ true → token s ≡ true → lawful_parameters ps ≡ true → media_type (canonical t s ps) ≡ Some (record { type = t; parameters = map parameter_from ps })
