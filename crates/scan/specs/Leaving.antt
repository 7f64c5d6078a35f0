-- What a scan ends as, where its lines are lent between bodies. Assumes nothing.
use Rattle.std.specs.Prelude.{false, refl}
use Rattle.std.specs.Borrow.{Lends, Fml, RattleType, MutBor}
use Rattle.scan.specs.declared.lines.Lines.{Lines}
use Rattle.scan.specs.declared.places.Place.TheVariants.{Start}
use Rattle.scan.specs.declared.scans.Scan.{Scan}
use Rattle.scan.specs.contracts.lines.Lines.{the_row as lines_row}
use Rattle.scan.specs.contracts.scans.Scan.{the_row}
use Rattle.source.specs.declared.sources.Source.{Ghosts}

-- the scan of these lines, before a line
abbrev pub before_line : {S : Type 0} {G : Ghosts S} → Lines S G → Scan S G
before_line w = record { lines = w; place = Start false; ended = refl }

-- the scan ends as that of the lines last left behind r
abbrev pub LendsLines : (S : RattleType) {G : Ghosts S.Denot} → MutBor (Scan S.Denot G) → MutBor (Lines S.Denot G) → Fml
LendsLines S {G} s r = Lends (the_row S G) (lines_row S G) s r before_line
