-- The open groups that levels stand for. Assumes nothing.
use Rattle.std.specs.Prelude.{ℕ, Bool, true, false, List, [], ◌∷◌, length, map, reverse, take, Some, None, Option, nat_lt}
use Rattle.head.specs.BoundaryBytes.{boundary_bytes}
use Rattle.message.specs.Groups.{Group}
use Rattle.levels.specs.declared.levels.Level.{Level}
use Rattle.levels.specs.declared.levels.Levels.{Levels}

-- the group that a level stands for
abbrev pub group_of : Level → Group
group_of l = record { number = l.number; boundary = boundary_bytes l.boundary }

-- the open groups, the innermost first
unfoldable pub groups : Levels → List Group
groups ls = map group_of (reverse (take ls.count ls.slots))

-- whether a group was opened inside the others, and the groups after it: at most eight are open
abbrev pub pushed : Group → List Group → Bool × List Group
pushed g gs = elim (nat_lt (length gs) 8) [ true ↦ (true, g ∷ gs) | false ↦ (false, gs) ]

-- the number of the innermost group, if one is open, and the groups without it
abbrev pub popped : List Group → Option ℕ × List Group
popped [] = (None, [])
popped (g ∷ gs) = (Some g.number, gs)
