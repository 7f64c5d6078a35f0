use Rattle.message.proofs.BodyRuns.{body_to_the_end, body_to_a_line}
use Rattle.message.proofs.laws.body_laws.Goals as goal

pub returns : goal.returns
returns c = record { to_the_end = body_to_the_end; to_a_line = body_to_a_line }
