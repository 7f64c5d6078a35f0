-- A leaf's raw body from where a scan stands. Assumes nothing.
use Rattle.std.specs.Prelude.{◌≡◌, ℕ, ◌+◌, ◌*◌, ◌≤◌, Bool, true, false, cond, ◌&&◌, List, [], ◌∷◌, ◌++◌, length, Some, None, Option, ◌==◌}
use Rattle.byte_lines.specs.Bytes.{Bytes}
use Rattle.byte_lines.specs.Lines.{Line, lines, width}
use Rattle.source.specs.declared.ends.End.{End}
use Rattle.source.specs.declared.ends.End.TheVariants.{Clean}
use Rattle.source.specs.Meanings.{Meaning}
use Rattle.input.specs.Inputs.{meaning}
use Rattle.message.specs.Groups.{Group, role, fits}
use Rattle.message.specs.Bodies.{body_from, end_in}
use Rattle.levels.specs.declared.levels.Fit.{Fit}
use Rattle.scan.specs.declared.places.Place.{Place}
use Rattle.scan.specs.declared.places.Place.TheVariants.{Start, Return, Feed, Within, Ended}
use Rattle.scan.specs.declared.places.Next.{Next}
use Rattle.scan.specs.declared.places.Next.TheVariants.{Byte, Nothing, Unknown}
use Rattle.scan.specs.declared.scans.Scan.{Scan}
use Rattle.levels.specs.Opened.{groups}
use Rattle.source.specs.declared.sources.Source.{Ghosts}

-- the body from within a line that does not end it
abbrev pub in_line : List Group → List Line → Bytes
in_line gs [] = []
in_line gs (l ∷ ls) = l.content ++ body_from gs l.ended ls

-- the body from a place on, where s is what is left of the input
abbrev pub body_at : List Group → Place → (s : Bytes) → Bytes
body_at gs (Start held) s = body_from gs held (lines s)
body_at gs Return s = 13 ∷ (10 ∷ in_line gs (lines s))
body_at gs Feed s = 10 ∷ in_line gs (lines s)
body_at gs Within s = in_line gs (lines s)
body_at gs (Ended f) s = []

-- what is left of the raw body
unfoldable pub raw_left : {S : Type 0} {G : Ghosts S} → (S → Meaning) → Scan S G → Bytes
raw_left source s = body_at (groups s.lines.levels) s.place (meaning source s.lines.input).left

-- where a body stops: at a line that fits a group, or at the input's end; by the offset and the lines from there on
pub record Stop : Type 0 where
  pub from : ℕ
  pub lines : List Line

-- the stop of a body that goes on at the start of a line, at the offset `at`
unfoldable pub stop_from : List Group → (at : ℕ) → List Line → Stop
stop_from gs at [] = record { from = at; lines = [] }
stop_from gs at (l ∷ ls) = elim (fits (role gs l.content)) [ true ↦ record { from = at; lines = l ∷ ls } | false ↦ stop_from gs (at + width l) ls ]

-- and within a line that does not end it
abbrev pub stop_in : List Group → (at : ℕ) → List Line → Stop
stop_in gs at [] = record { from = at; lines = [] }
stop_in gs at (l ∷ ls) = stop_from gs (at + width l) ls

-- and at a place
abbrev pub stop_at : List Group → Place → (at : ℕ) → (s : Bytes) → Stop
stop_at gs (Start held) at s = stop_from gs at (lines s)
stop_at gs Return at s = stop_in gs at (lines s)
stop_at gs Feed at s = stop_in gs at (lines s)
stop_at gs Within at s = stop_in gs at (lines s)
stop_at gs (Ended f) at s = record { from = at; lines = lines s }

-- where the body stops
unfoldable pub stop : {S : Type 0} {G : Ghosts S} → (S → Meaning) → Scan S G → Stop
stop source s = stop_at (groups s.lines.levels) s.place (meaning source s.lines.input).offset (meaning source s.lines.input).left

-- a body's end, by its stop: clean where lines are left, else the input's end as it is met inside the groups
abbrev pub end_at : List Group → Stop → End → End
end_at gs s e = elim s.lines [ [] ↦ end_in gs s.from e | l ∷ ls ↦ Clean ]

-- how many bytes of a CRLF that was passed over in the input are still to be given at a place, if the body goes on
abbrev pub owed : Place → ℕ
owed (Start held) = cond held 2 0
owed Return = 2
owed Feed = 1
owed Within = 0
owed (Ended f) = 0

-- how many bytes of the input were passed over
unfoldable pub passed_over : {S : Type 0} {G : Ghosts S} → Scan S G → ℕ
passed_over s = s.lines.input.at

-- the scan moved on by these bytes of the body, and nothing else has changed: the body stops where it did, in the same groups, and the input ends as it did
pub record Moves {S : Type 0} {G : Ghosts S} (source : S → Meaning) (before after : Scan S G) (given : Bytes) : Type 0 where
  pub gives : given ++ raw_left source after ≡ raw_left source before
  pub stops : stop source after ≡ stop source before
  pub ends : (meaning source after.lines.input).ending ≡ (meaning source before.lines.input).ending
  pub inside : after.lines.levels ≡ before.lines.levels
  pub later : (meaning source before.lines.input).offset ≤ (meaning source after.lines.input).offset
  -- no more is given than the input was passed over
  pub further : (meaning source before.lines.input).offset + owed after.place + length given ≤ (meaning source after.lines.input).offset + owed before.place

-- the scan stands before a line, and holds no CRLF back
abbrev pub AtLine : {S : Type 0} {G : Ghosts S} → Scan S G → Type 0
AtLine s = s.place ≡ Start false

-- the place at a line's start, by what the line is
abbrev pub place_by : Option Fit → (held : Bool) → Place
place_by None held = cond held Return Within
place_by (Some f) held = Ended (Some f)

-- what comes next within a line, by a view of two bytes or of all that is left
abbrev pub next_of : Bytes → Next
next_of [] = Nothing
next_of (b ∷ []) = Byte
next_of (b ∷ c ∷ s) = cond (b == 13 && c == 10) Unknown Byte

-- what there is to do yet at a place
abbrev pub rank : Place → ℕ
rank (Start held) = 4
rank Return = 3
rank Feed = 2
rank Within = 1
rank (Ended f) = 0

-- what there is to do yet
unfoldable pub weight : {S : Type 0} {G : Ghosts S} → (S → Meaning) → Scan S G → ℕ
weight source s = 4 * length (meaning source s.lines.input).left + rank s.place
