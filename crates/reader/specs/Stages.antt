-- What a reader's stage asks of its counts and of its line. Assumes nothing.
use Rattle.std.specs.Prelude.{ℕ, Bool, true, List, length, nat_lt}
use Rattle.levels.specs.declared.levels.Fit.{Fit}
use Rattle.levels.specs.declared.levels.Fit.TheVariants.{Separates, Closes}
use Rattle.message.specs.Groups.{Group}
use Rattle.levels.specs.Opened.{groups}
use Rattle.scan.specs.declared.scans.Scan.{Scan}
use Rattle.scan.specs.Streams.{owed}
use Rattle.reader.specs.declared.reader.Stage.{Stage}
use Rattle.reader.specs.declared.reader.Stage.TheVariants.{Head, Body, Between, Line, Over}
use Rattle.source.specs.declared.sources.Source.{Ghosts}

-- how many bytes of a CRLF that was passed over are still to be given
abbrev pub owing : {S : Type 0} {G : Ghosts S} → Scan S G → ℕ
owing s = owed s.place

-- how many entities there may be besides one for each byte passed over: each but the first stands behind a separator
abbrev pub slack : Stage → ℕ
slack Head = 0
slack Body = 1
slack Between = 1
slack (Line fit at) = 0
slack (Over last) = 1

-- the line is one of these groups
abbrev pub is_of : Fit → List Group → Bool
is_of (Separates i) gs = nat_lt i (length gs)
is_of (Closes i) gs = nat_lt i (length gs)

-- a line behind which the reader stands is one of an open group
abbrev pub fits_by : Stage → List Group → Bool
fits_by Head gs = true
fits_by Body gs = true
fits_by Between gs = true
fits_by (Line fit at) gs = is_of fit gs
fits_by (Over last) gs = true

abbrev pub line_fits : {S : Type 0} {G : Ghosts S} → Stage → Scan S G → Bool
line_fits st s = fits_by st (groups s.lines.levels)
