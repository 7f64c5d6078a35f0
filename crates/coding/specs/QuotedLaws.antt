-- What holds of quoted-printable as a whole. Assumes nothing.
use Rattle.std.specs.Prelude.{◌≡◌, ℕ, ◌+◌, ◌/◌, ◌%◌, ◌<◌, ◌≤◌, true, false, [], ◌∷◌, length, None, nat_lt}
use Rattle.std.specs.List.{AllByRecursion}
use Rattle.byte_lines.specs.Bytes.{Bytes}
use Rattle.byte_lines.specs.Lines.{Line, lines}
use Rattle.byte_lines.specs.Strings.{has, trim_end}
use Rattle.source.specs.declared.ends.End.{End}
use Rattle.coding.specs.Decoding.{gives}
use Rattle.coding.specs.Quoted.{quoted, overlong}

-- each of them is below 256
abbrev pub Octets : Bytes → Type 0
Octets [] = Unit {0}
Octets (b ∷ bs) = (b < 256) × Octets bs

-- the hexadecimal digit for a value below 16: 0 to 9, A to F
abbrev pub digit : ℕ → ℕ
digit v = elim (nat_lt v 10) [ true ↦ v + 48 | false ↦ v + 55 ]

-- each byte as '=' and two hexadecimal digits
unfoldable pub escaped : Bytes → Bytes
escaped [] = []
escaped (b ∷ bs) = 61 ∷ (digit (b / 16) ∷ (digit (b % 16) ∷ escaped bs))

-- a body decodes to no more bytes than it has
abbrev pub NeverLonger : Type 0
NeverLonger = (at : ℕ) (raw : Bytes) (e : End) → length (quoted at raw e).bytes ≤ length raw

-- what is escaped decodes to what it was
abbrev pub EscapedBack : Type 0
EscapedBack = (at : ℕ) (s : Bytes) (e : End) → Octets s → quoted at (escaped s) e ≡ gives s e

-- a line with no '=', no blank at its end and no more than 76 blanks in a row
pub record PlainLine (l : Line) : Type 0 where
  pub mere : has 61 l.content ≡ false
  pub solid : trim_end l.content ≡ l.content
  pub short : overlong l.content ≡ None

-- a body of such lines is itself
abbrev pub PlainIsItself : Type 0
PlainIsItself = (at : ℕ) (raw : Bytes) (e : End) → AllByRecursion PlainLine (lines raw) → quoted at raw e ≡ gives raw e

pub record QuotedLaw : Type 0 where
  pub shorter : NeverLonger
  pub back : EscapedBack
  pub plain : PlainIsItself
