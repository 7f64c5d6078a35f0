-- What ended a body. Assumes nothing.
use Rattle.std.specs.Prelude.{Bool, true, false, ◌&&◌, ◌||◌, List, length, is_some, Some, None, Option, ◌==◌, nat_le}
use Rattle.byte_lines.specs.Bytes.{Bytes}
use Rattle.source.specs.declared.ends.End.{End}
use Rattle.message.specs.Groups.{Group, Role, separates, closes, text, role}
use Rattle.levels.specs.declared.levels.Fit.{Fit}
use Rattle.levels.specs.declared.levels.Fit.TheVariants.{Separates, Closes}
use Rattle.levels.specs.declared.levels.Levels.{Levels}
use Rattle.scan.specs.declared.places.Place.{Place}
use Rattle.scan.specs.declared.places.Place.TheVariants.{Start, Return, Feed, Within, Ended}
use Rattle.levels.specs.Opened.{groups}
use Rattle.levels.specs.Fits.{leading}

-- the role is that of such a line, with as many groups deeper than its own
abbrev pub is_role : Fit → Role → Bool
is_role (Separates i) (separates deeper g around) = length deeper == i
is_role (Separates i) (closes deeper g around) = false
is_role (Separates i) text = false
is_role (Closes i) (separates deeper g around) = false
is_role (Closes i) (closes deeper g around) = length deeper == i
is_role (Closes i) text = false

-- the bytes v shown decide about the first line of what is left: there are 76 of them, or the end is known and they are all
abbrev pub enough : (v : Bytes) → Option End → Bool
enough v e = nat_le 76 (length v) || is_some e

-- a body has ended with that answer: at such a line, or for none at the input's end
abbrev pub ends_by : List Group → Option Fit → (v : Bytes) → Option End → Bool
ends_by gs None v e = length v == 0 && is_some e
ends_by gs (Some f) v e = is_role f (role gs (leading v)) && enough v e

-- where the place says that the body has ended, it has, with the place's answer
abbrev pub tested : Levels → Place → (v : Bytes) → Option End → Bool
tested ls (Start held) v e = true
tested ls Return v e = true
tested ls Feed v e = true
tested ls Within v e = true
tested ls (Ended f) v e = ends_by (groups ls) f v e

-- the answer for the line that ended the body, if one did
abbrev pub answer : Place → Option Fit
answer (Start held) = None
answer Return = None
answer Feed = None
answer Within = None
answer (Ended f) = f
