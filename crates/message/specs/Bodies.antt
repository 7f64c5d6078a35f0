-- A leaf's raw body. Assumes nothing.
use Rattle.std.specs.Prelude.{ℕ, ◌+◌, Bool, true, false, cond, List, [], ◌∷◌, ◌++◌}
use Rattle.byte_lines.specs.Bytes.{Bytes}
use Rattle.byte_lines.specs.Lines.{Line, width, crlf}
use Rattle.source.specs.declared.ends.End.{End}
use Rattle.source.specs.declared.ends.End.TheVariants.{Clean, Faulty}
use Rattle.source.specs.Meanings.{fault}
use Rattle.message.specs.Groups.{Group, role, fits}

-- the body from a line's start on, where the CRLF before that line lies in the body or not: it belongs to the body unless this line ends it
unfoldable pub body_from : List Group → (held : Bool) → List Line → Bytes
body_from gs held [] = cond held crlf []
body_from gs held (l ∷ ls) =
    elim (fits (role gs l.content)) [ true ↦ [] | false ↦ cond held crlf [] ++ (l.content ++ body_from gs l.ended ls) ]

-- the body runs from the end of its head to the line that ends it, or to the input's end
abbrev pub body : List Group → List Line → Bytes
body gs ls = body_from gs false ls

-- a clean end that is met inside a group is fault 32, at the input's length
abbrev pub end_in : List Group → (length : ℕ) → End → End
end_in [] at e = e
end_in (g ∷ gs) at Clean = Faulty (fault 32 3 at)
end_in (g ∷ gs) at (Faulty f) = Faulty f

-- the end that a body meets which goes on at the offset `at`: clean where a line ends it, else the end e of the input
unfoldable pub body_end : List Group → (at : ℕ) → List Line → End → End
body_end gs at [] e = end_in gs at e
body_end gs at (l ∷ ls) e = elim (fits (role gs l.content)) [ true ↦ Clean | false ↦ body_end gs (at + width l) ls e ]
