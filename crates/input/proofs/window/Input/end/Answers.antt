use Rattle.std.proofs.Common.{refl}
use Rattle.input.specs.Inputs.{known}
use Rattle.input.proofs.Windows.{knows-by}
use Rattle.input.proofs.window.Input.end.Goals as goal

pub returns-clause-means : goal.returns-clause-means
unfolding known
returns-clause-means g c = knows-by g.S.Source.meaning c.args.self.now c.args.self.now.end refl
