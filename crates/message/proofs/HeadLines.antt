-- A head, line by line.
use Rattle.std.proofs.Common.{◌≡◌, ℕ, ◌+◌, true, false, List, [], ◌∷◌}
use Rattle.byte_lines.specs.Lines.{Line, width}
use Rattle.head.specs.Media.{absent}
use Rattle.message.specs.Groups.{Group, role, fits}
use Rattle.message.specs.Heads.{at_line, at_empty, and_line, head}

module _ (gs : List Group) (at : ℕ) (l : Line) (ls : List Line) where
  pub head-fits : fits (role gs l.content) ≡ true → head gs at (l ∷ ls) ≡ record { lines = []; stop = at_line; from = at; rest = l ∷ ls }
  unfolding head
  head-fits f = rw (f, head)

  pub head-empty : fits (role gs l.content) ≡ false → absent l.content ≡ true → head gs at (l ∷ ls) ≡ record { lines = []; stop = at_empty; from = at + width l; rest = ls }
  unfolding head
  head-empty f a = rw (f, a, head)

  pub head_more : fits (role gs l.content) ≡ false → absent l.content ≡ false → head gs at (l ∷ ls) ≡ and_line l (head gs (at + width l) ls)
  unfolding head
  head_more f a = rw (f, a, head)
