use Rattle.message.proofs.Roles.{role-says}
use Rattle.message.proofs.laws.line_laws.Goals as goal

pub returns : goal.returns
returns c = role-says
