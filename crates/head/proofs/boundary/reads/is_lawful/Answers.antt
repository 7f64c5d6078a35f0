use Rattle.std.proofs.Common.{◌∙◌, rules}
use Rattle.head.specs.Entities.{boundary_byte}
use Rattle.head.proofs.LawfulTexts.{every-lawful}
use Rattle.head.proofs.TextScans.{every_by}
use Rattle.head.proofs.boundary.reads.is_lawful.Goals as goal

pub returns-then-text-le-LONGEST : goal.returns-then-text-le-LONGEST
returns-then-text-le-LONGEST c = every_by boundary_byte c.args.text.now c.all.result (search rules) ∙ every-lawful c.args.text.now (search rules) (search rules) (search rules)
