use Rattle.coding.proofs.Base64Laws.{base64_law}
use Rattle.coding.proofs.laws.base64_laws.Goals as goal

pub returns : goal.returns
returns c = base64_law
