-- What a line is to the open groups, as the code answers it. Assumes nothing.
use Rattle.std.specs.Prelude.{◌≡◌, ℕ, zero, suc, ◌<◌, cond, List, [], ◌∷◌, ◌++◌, length, Some, None, Option}
use Rattle.std.specs.Str.{bytes_eq}
use Rattle.byte_lines.specs.Bytes.{Bytes}
use Rattle.byte_lines.specs.Lines.{Line, lines}
use Rattle.message.specs.Groups.{Group, hyphens, Role, separates, closes, text, inside, role}
use Rattle.levels.specs.declared.levels.Fit.{Fit}
use Rattle.levels.specs.declared.levels.Fit.TheVariants.{Separates, Closes}
use Rattle.levels.specs.declared.levels.fits.Mark.{Mark}
use Rattle.levels.specs.declared.levels.fits.Mark.TheVariants.{Separator, Closing}

-- the role of a line that fits the group inside which i groups are open: the first i are deeper, the others are around it; text where there are not so many
abbrev pub located : (List Group → Group → List Group → Role) → (i : ℕ) → List Group → Role
located make i [] = text
located make zero (g ∷ gs) = make [] g gs
located make (suc i) (g ∷ gs) = inside g (located make i gs)

-- the role of a line of a group
abbrev pub fit_role : List Group → Fit → Role
fit_role gs (Separates i) = located separates i gs
fit_role gs (Closes i) = located closes i gs

-- the role that an answer stands for
abbrev pub role_by : List Group → Option Fit → Role
role_by gs None = text
role_by gs (Some f) = fit_role gs f

-- the line's group is one of the first n
abbrev pub FitsIn : (n : ℕ) → Fit → Type 0
FitsIn n (Separates i) = i < n
FitsIn n (Closes i) = i < n

-- the group of the answer is one of the first n
abbrev pub InDepth : (n : ℕ) → Option Fit → Type 0
InDepth n None = Unit {0}
InDepth n (Some f) = FitsIn n f

-- which line of the boundary a line is, by what follows its two hyphens
abbrev pub mark_of : (boundary after : Bytes) → Option Mark
mark_of b s = cond (bytes_eq b s) (Some Separator) (cond (bytes_eq (b ++ hyphens) s) (Some Closing) None)

-- the first line's bytes, none where no line is left
abbrev pub content : List Line → Bytes
content [] = []
content (l ∷ ls) = l.content

-- the first line of a text
unfoldable pub leading : Bytes → Bytes
leading s = content (lines s)

-- r answers for the first line of each text that begins with v, and is no longer where v has fewer than 76 bytes
abbrev pub Decides : List Group → (v : Bytes) → Option Fit → Type 0
Decides gs v r = (q : Bytes) → (length v < 76 → q ≡ []) → role_by gs r ≡ role gs (leading (v ++ q))
