-- What a quoted-printable decoder holds back of a line. Assumes nothing.
use Rattle.std.specs.Prelude.{Bool, true, false, ◌&&◌, [], ◌∷◌, length, is_some, Some, None, Option, ◌==◌, nat_le}
use Rattle.byte_lines.specs.Bytes.{Bytes}
use Rattle.byte_lines.specs.Classes.{blank, hex}
use Rattle.coding.specs.Quoted.{also}
use Rattle.coding.specs.declared.quoted.Kind.{Kind}
use Rattle.coding.specs.declared.quoted.Kind.TheVariants.{Blanks, Digit, Cr}

unfoldable pub all_blank : Bytes → Bool
all_blank [] = true
all_blank (b ∷ bs) = blank b && all_blank bs

-- an '=' if `soft`, then at most 76 blanks
abbrev pub blanks_held : (soft : Bool) → Bytes → Bool
blanks_held false held = all_blank held && nat_le (length held) 76
blanks_held true [] = false
blanks_held true (b ∷ bs) = b == 61 && (all_blank bs && nat_le (length bs) 76)

-- an '=' and a hexadecimal digit
abbrev pub digit_held : Bytes → Bool
digit_held [] = false
digit_held (a ∷ []) = false
digit_held (a ∷ b ∷ []) = a == 61 && is_some (hex b)
digit_held (a ∷ b ∷ c ∷ cs) = false

-- without the CR that stands last in it, if one does
unfoldable pub before_cr : Bytes → Option Bytes
before_cr [] = None
before_cr (b ∷ []) = elim (b == 13) [ true ↦ Some [] | false ↦ None ]
before_cr (b ∷ c ∷ cs) = also b (before_cr (c ∷ cs))

abbrev pub cr_held : (soft : Bool) → Option Bytes → Bool
cr_held soft None = false
cr_held soft (Some front) = blanks_held soft front

-- what is held is of its kind
unfoldable pub shaped : Kind → Bytes → Bool
shaped (Blanks soft) held = blanks_held soft held
shaped Digit held = digit_held held
shaped (Cr soft) held = cr_held soft (before_cr held)
