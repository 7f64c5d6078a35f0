-- Base64: how much a text gives, and that an encoded text gives back what was encoded. Assumes nothing.
use Rattle.std.specs.Prelude.{◌≡◌, ℕ, ◌+◌, ◌*◌, ◌/◌, ◌%◌, ◌<◌, ◌≤◌, [], ◌∷◌, ◌++◌, length, None, codes, ◌≢◌, slice_index}
use Rattle.std.specs.List.{AllByRecursion}
use Rattle.byte_lines.specs.Bytes.{Bytes}
use Rattle.source.specs.declared.ends.End.{End}
use Rattle.source.specs.declared.ends.End.TheVariants.{Clean}
use Rattle.coding.specs.Decoding.{gives}
use Rattle.coding.specs.Base64.{sextet, sextets, data_part, base64}

-- the characters that stand for 0 to 63
abbrev pub alphabet : Bytes
alphabet = codes "ABCDEFGHIJKLMNOPQRSTUVWXYZabcdefghijklmnopqrstuvwxyz0123456789+/"

abbrev pub letter : ℕ → ℕ
letter v = slice_index alphabet v

-- each three bytes as four characters of six bits; one or two bytes at the end as two or three characters, with zero bits behind the last, and '=' up to four
unfoldable pub encoded : Bytes → Bytes
encoded [] = []
encoded (a ∷ []) = letter (a / 4) ∷ (letter (a % 4 * 16) ∷ (61 ∷ (61 ∷ [])))
encoded (a ∷ b ∷ []) = letter (a / 4) ∷ (letter (a % 4 * 16 + b / 16) ∷ (letter (b % 16 * 4) ∷ (61 ∷ [])))
encoded (a ∷ b ∷ c ∷ s) = letter (a / 4) ∷ (letter (a % 4 * 16 + b / 16) ∷ (letter (b % 16 * 4 + c / 64) ∷ (letter (c % 64) ∷ encoded s)))

-- six bits a character before the first '=', and eight a byte
abbrev pub Counts : Type 0
Counts = (at : ℕ) (raw : Bytes) (e : End) → length (base64 at raw e).bytes ≡ 6 * length (sextets (data_part raw)) / 8

abbrev pub NeverLonger : Type 0
NeverLonger = (at : ℕ) (raw : Bytes) (e : End) → length (base64 at raw e).bytes ≤ length raw

abbrev pub RoundTrip : Type 0
RoundTrip = (s : Bytes) → AllByRecursion (λ b. b < 256) s → (at : ℕ) → base64 at (encoded s) Clean ≡ gives s Clean

-- a byte that stands for nothing changes nothing, but for the place of a fault behind it
abbrev pub IgnoresOthers : Type 0
IgnoresOthers =
    (s t : Bytes) (b : ℕ) → sextet b ≡ None → (b ≢ 61) → (at : ℕ) (e : End)
    → ((base64 at (s ++ (b ∷ t)) e).bytes ≡ (base64 at (s ++ t) e).bytes) × ((base64 at (s ++ (b ∷ t)) Clean).ending ≡ Clean → (base64 at (s ++ t) Clean).ending ≡ Clean)

pub record Base64Law : Type 0 where
  pub counts : Counts
  pub never_longer : NeverLonger
  pub round_trip : RoundTrip
  pub ignores_others : IgnoresOthers
