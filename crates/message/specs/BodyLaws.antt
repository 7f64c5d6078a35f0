-- What a raw body is, in other words. Assumes nothing.
use Rattle.std.specs.Prelude.{◌≡◌, true, false, List, [], ◌∷◌, ◌++◌}
use Rattle.std.specs.List.{flat_map}
use Rattle.byte_lines.specs.Bytes.{Bytes}
use Rattle.byte_lines.specs.Lines.{Line, AllEnded, line_bytes, crlf}
use Rattle.message.specs.Groups.{Group, role, fits}
use Rattle.message.specs.Bodies.{body}

-- none of these lines fits an open group
abbrev pub NoneFits : List Group → List Line → Type 0
NoneFits gs [] = Unit {0}
NoneFits gs (l ∷ ls) = (fits (role gs l.content) ≡ false) × NoneFits gs ls

-- the CRLF before a line that lies behind these lines of a body, if it lies in the body
abbrev pub last_break : List Line → Bytes
last_break [] = []
last_break (l ∷ ls) = crlf

-- where no line ends it, a body is all its lines with their CRLFs
abbrev pub BodyToTheEnd : Type 0
BodyToTheEnd = (gs : List Group) (ls : List Line) → NoneFits gs ls → body gs ls ≡ flat_map line_bytes ls

-- where a line ends it, the lines before that one are the body and the CRLF before that line
abbrev pub BodyToALine : Type 0
BodyToALine =
    (gs : List Group) (ls : List Line) (l : Line) (rest : List Line) → NoneFits gs ls → AllEnded ls → fits (role gs l.content) ≡ true
    → body gs (ls ++ (l ∷ rest)) ++ last_break ls ≡ flat_map line_bytes ls
