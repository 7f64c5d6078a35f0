-- What stands first in raw bytes behind which nothing is held back. Assumes nothing.
use Rattle.std.specs.Prelude.{◌≡◌, ℕ, ◌+◌, [], ◌∷◌, drop, Some, None, Option}
use Rattle.byte_lines.specs.Bytes.{Bytes}
use Rattle.byte_lines.specs.Lines.{crlf}
use Rattle.source.specs.declared.ends.End.{End}
use Rattle.coding.specs.declared.quoted.Token.{Token}
use Rattle.coding.specs.declared.quoted.Token.TheVariants.{Itself, Byte, Soft, Hard}
use Rattle.coding.specs.Decoding.{prefixed}
use Rattle.coding.specs.Quoted.{quoted}

-- what a token that begins with the byte a gives
abbrev pub token_gives : Token → (a : ℕ) → Bytes
token_gives Itself a = a ∷ []
token_gives (Byte v) a = v ∷ []
token_gives Soft a = []
token_gives Hard a = crlf

-- how many raw bytes it has
abbrev pub token_width : Token → ℕ
token_width Itself = 1
token_width (Byte v) = 3
token_width Soft = 3
token_width Hard = 2

-- the byte b stands for itself if `next` follows
abbrev pub Stands : (b next : ℕ) → Type 0
Stands b next = (at : ℕ) (q : Bytes) (e : End) → quoted at (b ∷ (next ∷ q)) e ≡ prefixed (b ∷ []) (quoted (at + 1) (next ∷ q) e)

-- a token stands first in a, b, c
abbrev pub Reads : Option Token → (a b c : ℕ) → Type 0
Reads (Some t) a b c = (at : ℕ) (q : Bytes) (e : End) → quoted at (a ∷ (b ∷ (c ∷ q))) e ≡ prefixed (token_gives t a) (quoted (at + token_width t) (drop (token_width t) (a ∷ (b ∷ (c ∷ q)))) e)
Reads None a b c = Unit {0}
