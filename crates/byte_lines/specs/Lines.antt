-- The lines of a text. Assumes nothing.
use Rattle.std.specs.Prelude.{◌≡◌, ℕ, ◌+◌, Bool, true, false, cond, ◌&&◌, List, [], ◌∷◌, ◌++◌, length, ◌==◌}
use Rattle.byte_lines.specs.Bytes.{Bytes}

abbrev pub crlf : Bytes
crlf = 13 ∷ (10 ∷ [])

-- a line's bytes, and whether a CRLF stands after them
pub record Line : Type 0 where
  pub content : Bytes
  pub ended : Bool

-- how many bytes of the text the line takes
abbrev pub width : Line → ℕ
width l = length l.content + cond l.ended 2 0

-- those bytes: the content, and its CRLF
abbrev pub line_bytes : Line → Bytes
line_bytes l = l.content ++ cond l.ended crlf []

-- the byte b before the first line
abbrev pub onto : ℕ → List Line → List Line
onto b [] = record { content = b ∷ []; ended = false } ∷ []
onto b (l ∷ ls) = record { content = b ∷ l.content; ended = l.ended } ∷ ls

-- a line ends at each CRLF, from the left; bytes after the last CRLF are a line if there are any
unfoldable pub lines : Bytes → List Line
lines [] = []
lines (b ∷ []) = onto b []
lines (b ∷ c ∷ cs) =
    elim (c == 10 && b == 13) [
      | true ↦ record { content = []; ended = true } ∷ lines cs
      | false ↦ onto b (lines (c ∷ cs))
    ]

-- each of the lines has its CRLF
abbrev pub AllEnded : List Line → Type 0
AllEnded [] = Unit {0}
AllEnded (l ∷ ls) = (l.ended ≡ true) × AllEnded ls
