-- Classes of bytes. Assumes nothing.
use Rattle.std.specs.Prelude.{ℕ, ◌-◌, Bool, true, false, ◌&&◌, ◌||◌, Some, None, Option, ◌==◌, nat_le}

abbrev pub within : (low high : ℕ) → ℕ → Bool
within low high b = nat_le low b && nat_le b high

-- SP or HTAB
abbrev pub blank : ℕ → Bool
blank b = b == 32 || b == 9

-- the value of a hexadecimal digit of either case: 0 to 9, A to F, a to f
abbrev pub hex : ℕ → Option ℕ
hex b =
    elim (within 48 57 b) [
      | true ↦ Some (b - 48)
      | false ↦ elim (within 65 70 b) [
        | true ↦ Some (b - 55)
        | false ↦ elim (within 97 102 b) [ true ↦ Some (b - 87) | false ↦ None ]
      ]
    ]
