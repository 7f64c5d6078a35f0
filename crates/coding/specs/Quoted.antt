-- Quoted-printable, by lines. Assumes nothing.
use Rattle.std.specs.Prelude.{ℕ, suc, ◌+◌, ◌*◌, true, false, cond, List, [], ◌∷◌, ◌++◌, take, Some, None, Option, ◌==◌, nat_lt}
use Rattle.byte_lines.specs.Bytes.{Bytes}
use Rattle.byte_lines.specs.Classes.{blank, hex}
use Rattle.byte_lines.specs.Strings.{trim_end}
use Rattle.byte_lines.specs.Lines.{Line, width, crlf, lines}
use Rattle.source.specs.declared.ends.End.{End}
use Rattle.source.specs.declared.ends.End.TheVariants.{Faulty}
use Rattle.source.specs.Meanings.{fault}
use Rattle.coding.specs.Decoding.{Decoded, gives, prefixed}

-- the byte that '=' and two hexadecimal digits stand for
abbrev pub byte_of : Option ℕ → Option ℕ → Option ℕ
byte_of (Some h) (Some l) = Some (h * 16 + l)
byte_of (Some h) None = None
byte_of None low = None

abbrev pub escape : (a b c : ℕ) → Option ℕ
escape a b c = elim (a == 61) [ true ↦ byte_of (hex b) (hex c) | false ↦ None ]

-- an '=' followed by two hexadecimal digits is that byte, any other '=' is itself
unfoldable pub unescaped : Bytes → Bytes
unescaped [] = []
unescaped (a ∷ []) = a ∷ []
unescaped (a ∷ b ∷ []) = a ∷ (b ∷ [])
unescaped (a ∷ b ∷ c ∷ cs) = elim (escape a b c) [ Some v ↦ v ∷ unescaped cs | None ↦ a ∷ unescaped (b ∷ c ∷ cs) ]

abbrev pub also : ℕ → Option Bytes → Option Bytes
also b None = None
also b (Some s) = Some (b ∷ s)

-- without the '=' that stands last in it, if one does
unfoldable pub softened : Bytes → Option Bytes
softened [] = None
softened (b ∷ []) = elim (b == 61) [ true ↦ Some [] | false ↦ None ]
softened (b ∷ c ∷ cs) = also b (softened (c ∷ cs))

-- what a line gives, once its last blanks are dropped: an '=' then last is dropped with the line's CRLF
abbrev pub text_of : Option Bytes → (line end : Bytes) → Bytes
text_of (Some t) line end = unescaped t
text_of None line end = unescaped line ++ end

abbrev pub line_text : Line → Bytes
line_text l = text_of (softened (trim_end l.content)) (trim_end l.content) (cond l.ended crlf [])

-- how many blanks stand at its start
unfoldable pub blanks : Bytes → ℕ
blanks [] = 0
blanks (b ∷ bs) = elim (blank b) [ true ↦ suc (blanks bs) | false ↦ 0 ]

abbrev pub later : Option ℕ → Option ℕ
later None = None
later (Some k) = Some (suc k)

-- where the first run of more than 76 blanks begins, if there is one
unfoldable pub overlong : Bytes → Option ℕ
overlong [] = None
overlong (b ∷ bs) = elim (nat_lt 76 (blanks (b ∷ bs))) [ true ↦ Some 0 | false ↦ later (overlong bs) ]

-- a line at the offset `at`, before what the others give: such a run is fault 52, and what stands before it is decoded as if the line went on
abbrev pub quoted_line : Option ℕ → (at : ℕ) → Line → Decoded → Decoded
quoted_line (Some k) at l rest = gives (unescaped (take k l.content)) (Faulty (fault 52 5 (at + k)))
quoted_line None at l rest = prefixed (line_text l) rest

unfoldable pub quoted_lines : (at : ℕ) → List Line → End → Decoded
quoted_lines at [] e = gives [] e
quoted_lines at (l ∷ ls) e = quoted_line (overlong l.content) at l (quoted_lines (at + width l) ls e)

-- the raw body begins at the offset `at` and meets the end e
unfoldable pub quoted : (at : ℕ) → (raw : Bytes) → End → Decoded
quoted at raw e = quoted_lines at (lines raw) e
