use Rattle.std.proofs.Common.{◌≡◌, Bool, true, false, refl, ap}
use mathlib.Core.Bool.{Bool-set}
use Rattle.scan.specs.declared.lines.Lines.{Lines}
use Rattle.scan.specs.declared.places.Place.TheVariants.{Start}
use Rattle.scan.specs.declared.scans.Scan.{Scan}
use Rattle.scan.specs.Leaving.{before_line}
use Rattle.source.specs.declared.sources.Source.{Ghosts}
use Rattle.scan.proofs.scans.Scan.leave_body.Goals as goal

-- however it was shown that nothing is asked there
lent : {S : Type 0} {G : Ghosts S} (w : Lines S G) (e : ◌≡◌ {A = Bool} true true) → ◌≡◌ {A = Scan S G} (record { lines = w; place = Start false; ended = e }) (before_line w)
lent {S} {G} w e = ap {B = Scan S G} (λ (x : ◌≡◌ {A = Bool} true true). record { lines = w; place = Start false; ended = x }) (Bool-set true true e refl)

pub returns : goal.returns
returns g c = ((refl, λ w. lent w _), record { lends = tt; lines = refl })
