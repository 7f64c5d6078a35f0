use Rattle.message.proofs.Rowing.{rows_proceed}
use Rattle.message.proofs.Stretching.{bodies_in_order}
use Rattle.message.proofs.laws.row_laws.Goals as goal

pub returns : goal.returns
returns c = record { proceed = rows_proceed; bodies = bodies_in_order }
