-- Base64: the characters that count, their bits, and the bytes of these. Assumes nothing.
use Rattle.std.specs.Prelude.{ℕ, ◌+◌, ◌-◌, ◌*◌, ◌/◌, ◌%◌, Bool, true, false, ◌||◌, List, [], ◌∷◌, ◌++◌, length, Some, None, Option, ◌==◌}
use Rattle.std.specs.List.{flat_map}
use Rattle.byte_lines.specs.Bytes.{Bytes}
use Rattle.byte_lines.specs.Classes.{within}
use Rattle.source.specs.declared.ends.Fault.{Fault}
use Rattle.source.specs.declared.ends.End.{End}
use Rattle.source.specs.declared.ends.End.TheVariants.{Faulty}
use Rattle.source.specs.Meanings.{fault}
use Rattle.coding.specs.Decoding.{Decoded, gives, yields}

-- what a character stands for: A to Z, a to z, 0 to 9, + and / for 0 to 63; any other byte is ignored
abbrev pub sextet : ℕ → Option ℕ
sextet b =
    elim (within 65 90 b) [
      | true ↦ Some (b - 65)
      | false ↦ elim (within 97 122 b) [
        | true ↦ Some (b - 71)
        | false ↦ elim (within 48 57 b) [
          | true ↦ Some (b + 4)
          | false ↦ elim (b == 43) [ true ↦ Some 62 | false ↦ elim (b == 47) [ true ↦ Some 63 | false ↦ None ] ]
        ]
      ]
    ]

abbrev pub keeping : Option ℕ → List ℕ → List ℕ
keeping (Some v) vs = v ∷ vs
keeping None vs = vs

-- the characters of a text, by what they stand for
unfoldable pub sextets : Bytes → List ℕ
sextets [] = []
sextets (b ∷ bs) = keeping (sextet b) (sextets bs)

-- the six bits of a character, high bits first
abbrev pub bits : ℕ → List ℕ
bits v = v / 32 ∷ (v / 16 % 2 ∷ (v / 8 % 2 ∷ (v / 4 % 2 ∷ (v / 2 % 2 ∷ (v % 2 ∷ [])))))

-- bytes of eight bits each, high bits first; bits over that make no byte are dropped
unfoldable pub octets : List ℕ → Bytes
octets [] = []
octets (a ∷ []) = []
octets (a ∷ b ∷ []) = []
octets (a ∷ b ∷ c ∷ []) = []
octets (a ∷ b ∷ c ∷ d ∷ []) = []
octets (a ∷ b ∷ c ∷ d ∷ e ∷ []) = []
octets (a ∷ b ∷ c ∷ d ∷ e ∷ f ∷ []) = []
octets (a ∷ b ∷ c ∷ d ∷ e ∷ f ∷ g ∷ []) = []
octets (a ∷ b ∷ c ∷ d ∷ e ∷ f ∷ g ∷ h ∷ rest) = (a * 128 + b * 64 + c * 32 + d * 16 + e * 8 + f * 4 + g * 2 + h) ∷ octets rest

-- what stands in a text before its first '='
unfoldable pub data_part : Bytes → Bytes
data_part [] = []
data_part (b ∷ bs) = elim (b == 61) [ true ↦ [] | false ↦ b ∷ data_part bs ]

unfoldable pub has_equals : Bytes → Bool
has_equals [] = false
has_equals (b ∷ bs) = b == 61 || has_equals bs

-- the end of a body, by whether a character is left over and whether an '=' ended the data, where f is the fault 51
abbrev pub base64_end : (over equals : Bool) → Fault → End → End
base64_end true true f e = Faulty f
base64_end true false f e = yields e f
base64_end false equals f e = e

-- from the offset `at` on, behind characters that stand for vs
unfoldable pub base64_from : (vs : List ℕ) (at : ℕ) → (raw : Bytes) → End → Decoded
base64_from vs at raw e =
    gives (octets (flat_map bits (vs ++ sextets (data_part raw))))
    (base64_end (length (vs ++ sextets (data_part raw)) % 4 == 1) (has_equals raw) (fault 51 5 (at + length (data_part raw))) e)

-- the raw body begins at the offset `at` and meets the end e
abbrev pub base64 : (at : ℕ) → (raw : Bytes) → End → Decoded
base64 at raw e = base64_from [] at raw e
