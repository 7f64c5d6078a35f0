use Rattle.head.proofs.PackingLaws.{packing_gives_back}
use Rattle.head.proofs.laws.packing_law.Goals as goal

pub returns : goal.returns
returns c = packing_gives_back
