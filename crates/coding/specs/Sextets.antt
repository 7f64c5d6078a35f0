-- Characters that wait for a fourth. Assumes nothing.
use Rattle.std.specs.Prelude.{◌≡◌, ℕ, ◌+◌, ◌*◌, ◌/◌, ◌%◌, Bool, true, false, ◌&&◌, length, ◌==◌, List, [], ◌∷◌, Some, None, Option, nat_lt}
use Rattle.std.specs.List.{flat_map}
use Rattle.byte_lines.specs.Bytes.{Bytes}
use Rattle.coding.specs.declared.buffer.Buffer.{Buffer}
use Rattle.coding.specs.declared.base64.Sextets.{Sextets}
use Rattle.coding.specs.declared.base64.Sextets.TheVariants.{None as Empty, One, Two, Three}
use Rattle.coding.specs.Base64.{bits, octets}
use Rattle.coding.specs.Buffers.{items}

-- what they stand for, in their order
abbrev pub sextets_of : Sextets → List ℕ
sextets_of Empty = []
sextets_of (One a) = a ∷ []
sextets_of (Two a b) = a ∷ (b ∷ [])
sextets_of (Three a b c) = a ∷ (b ∷ (c ∷ []))

-- each stands for six bits
abbrev pub six_bits : Sextets → Bool
six_bits Empty = true
six_bits (One a) = nat_lt a 64
six_bits (Two a b) = nat_lt a 64 && nat_lt b 64
six_bits (Three a b c) = nat_lt a 64 && (nat_lt b 64 && nat_lt c 64)

-- the three bytes of four
abbrev pub byte1 : (a b : ℕ) → ℕ
byte1 a b = a * 4 + b / 16

abbrev pub byte2 : (b c : ℕ) → ℕ
byte2 b c = b % 16 * 16 + c / 4

abbrev pub byte3 : (c d : ℕ) → ℕ
byte3 c d = c % 4 * 64 + d

abbrev pub three_of : (a b c d : ℕ) → Bytes
three_of a b c d = byte1 a b ∷ (byte2 b c ∷ (byte3 c d ∷ []))

-- those of four raw bytes, if each stands for a character
abbrev pub group_of : (a b c d : Option ℕ) → Option Bytes
group_of (Some a) (Some b) (Some c) (Some d) = Some (three_of a b c d)
group_of (Some a) (Some b) (Some c) None = None
group_of (Some a) (Some b) None d = None
group_of (Some a) None c d = None
group_of None b c d = None

-- what characters vs give where the data end behind them, or None where one of them is left over
abbrev pub Closes : {N : ℕ} → (vs : List ℕ) → Option (Buffer N) → Type 0
Closes vs (Some w) = ((length vs % 4 == 1) ≡ false) × (items w ≡ octets (flat_map bits vs))
Closes vs None = ((length vs % 4 == 1) ≡ true) × (octets (flat_map bits vs) ≡ [])
