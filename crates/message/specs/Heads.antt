-- Where a head ends. Assumes nothing.
use Rattle.std.specs.Prelude.{ℕ, ◌+◌, true, false, List, [], ◌∷◌}
use Rattle.byte_lines.specs.Lines.{Line, width}
use Rattle.head.specs.Media.{absent}
use Rattle.message.specs.Groups.{Group, role, fits}

-- what ends a head: a line of an open group, its first empty line, or the input's end
pub data Stop : Type 0 where
  at_line at_empty at_end : Stop

-- a head: its lines, what ends it, and what follows, by its offset and its lines
pub record Head : Type 0 where
  pub lines : List Line
  pub stop : Stop
  pub from : ℕ
  pub rest : List Line

abbrev pub and_line : Line → Head → Head
and_line l h = record { lines = l ∷ h.lines; stop = h.stop; from = h.from; rest = h.rest }

-- the head that begins at the offset `at`, inside the groups gs; the empty line belongs to it, a line of a group does not
unfoldable pub head : List Group → (at : ℕ) → List Line → Head
head gs at [] = record { lines = []; stop = at_end; from = at; rest = [] }
head gs at (l ∷ ls) =
    elim (fits (role gs l.content)) [
      | true ↦ record { lines = []; stop = at_line; from = at; rest = l ∷ ls }
      | false ↦ elim (absent l.content) [
        | true ↦ record { lines = []; stop = at_empty; from = at + width l; rest = ls }
        | false ↦ and_line l (head gs (at + width l) ls)
      ]
    ]
