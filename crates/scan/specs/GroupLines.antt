-- A line of a group that was passed over. Assumes nothing.
use Rattle.std.specs.Prelude.{◌≡◌, ◌+◌, ◌<◌, ◌≤◌, true, [], ◌∷◌, length, is_some, Some, None, Option}
use Rattle.byte_lines.specs.Lines.{Line, lines, width}
use Rattle.source.specs.Meanings.{Meaning}
use Rattle.input.specs.Inputs.{meaning, known}
use Rattle.message.specs.Groups.{role, fits}
use Rattle.levels.specs.Opened.{groups}
use Rattle.levels.specs.Fits.{fit_role, FitsIn}
use Rattle.scan.specs.declared.scans.lines.GroupLine.{GroupLine}
use Rattle.scan.specs.declared.scans.Scan.{Scan}
use Rattle.scan.specs.Streams.{stop, passed_over, owed}
use Rattle.source.specs.declared.sources.Source.{Ghosts}

-- nothing of the groups and of the input's end has changed, and no CRLF is held back
pub record Onward {S : Type 0} {G : Ghosts S} (source : S → Meaning) (before after : Scan S G) : Type 0 where
  pub ends : (meaning source after.lines.input).ending ≡ (meaning source before.lines.input).ending
  pub inside : after.lines.levels ≡ before.lines.levels
  pub clear : owed after.place ≡ 0

-- the line that ended the body is that line, and the scan stands behind it
pub record BehindLine {S : Type 0} {G : Ghosts S} (source : S → Meaning) (before after : Scan S G) (r : GroupLine) : Type 0 where
  pub onward : Onward source before after
  pub line : Line
  pub here : stop source before ≡ record { from = r.at; lines = line ∷ lines (meaning source after.lines.input).left }
  pub next : (meaning source after.lines.input).offset ≡ r.at + width line
  pub is : fit_role (groups before.lines.levels) r.fit ≡ role (groups before.lines.levels) line.content
  pub fit : fits (fit_role (groups before.lines.levels) r.fit) ≡ true
  pub depth : FitsIn (length (groups before.lines.levels)) r.fit
  pub further : passed_over before < passed_over after

-- the input's end ended the body, and the scan stands there
pub record BehindAll {S : Type 0} {G : Ghosts S} (source : S → Meaning) (before after : Scan S G) : Type 0 where
  pub onward : Onward source before after
  pub here : stop source before ≡ record { from = (meaning source after.lines.input).offset; lines = [] }
  pub none : (meaning source after.lines.input).left ≡ []
  pub told : is_some (known after.lines.input) ≡ true
  pub further : passed_over before ≤ passed_over after

-- what came behind the body
abbrev pub NextLine : {S : Type 0} {G : Ghosts S} → (S → Meaning) → (before after : Scan S G) → Option GroupLine → Type 0
NextLine source before after None = BehindAll source before after
NextLine source before after (Some r) = BehindLine source before after r
