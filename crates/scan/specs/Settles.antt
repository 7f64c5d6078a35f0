-- What it is for a scan to be settled. Assumes nothing.
use Rattle.std.specs.Prelude.{◌≡◌, ℕ, ◌<◌, [], length, None}
use Rattle.byte_lines.specs.Lines.{lines}
use Rattle.source.specs.Meanings.{Meaning}
use Rattle.input.specs.Inputs.{meaning}
use Rattle.message.specs.Groups.{role}
use Rattle.scan.specs.declared.places.Place.TheVariants.{Ended}
use Rattle.scan.specs.declared.places.Next.{Next}
use Rattle.scan.specs.declared.places.Next.TheVariants.{Byte, Nothing, Unknown}
use Rattle.scan.specs.declared.scans.Scan.{Scan}
use Rattle.levels.specs.Opened.{groups}
use Rattle.levels.specs.Fits.{role_by, InDepth, leading}
use Rattle.scan.specs.Ends.{answer}
use Rattle.scan.specs.Streams.{raw_left, stop, weight}
use Rattle.scan.specs.Ready.{ready}
use Rattle.source.specs.declared.sources.Source.{Ghosts}

-- the scan stands behind the body: where it stops, at a line that is as the scan's answer says, or at the input's end, and then the answer is none
pub record Behind {S : Type 0} {G : Ghosts S} (source : S → Meaning) (s : Scan S G) : Type 0 where
  pub none : raw_left source s ≡ []
  pub here : stop source s ≡ record { from = (meaning source s.lines.input).offset; lines = lines (meaning source s.lines.input).left }
  pub line : role_by (groups s.lines.levels) (answer s.place) ≡ role (groups s.lines.levels) (leading (meaning source s.lines.input).left)
  pub within : InDepth (length (groups s.lines.levels)) (answer s.place)
  pub at_end : answer s.place ≡ None → (meaning source s.lines.input).left ≡ []
  pub place : s.place ≡ Ended (answer s.place)

-- what was found to come next, where w was the weight before
abbrev pub Found : {S : Type 0} {G : Ghosts S} → (S → Meaning) → Next → Scan S G → (w : ℕ) → Type 0
Found source Byte s w = 0 < ready s
Found source Nothing s w = Behind source s
Found source Unknown s w = weight source s < w
