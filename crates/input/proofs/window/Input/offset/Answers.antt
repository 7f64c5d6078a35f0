use Rattle.input.specs.Inputs.{meaning}
use Rattle.input.proofs.Windows.{within-limit}
use Rattle.input.proofs.window.Input.offset.Goals as goal

pub returns-clause-within : goal.returns-clause-within
unfolding meaning
returns-clause-within g c = within-limit g.S.Source.meaning c.args.self.now
