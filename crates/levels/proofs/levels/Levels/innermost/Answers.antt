use Rattle.std.proofs.Common.{rules}
use Rattle.levels.proofs.Stacks.{number_open}
use Rattle.levels.proofs.levels.Levels.innermost.Goals as goal

pub returns : goal.returns
returns c = number_open c.args.self.now c.open.result.now c.open.ensures c.last.result c.map_or.result c.last.ensures.item (search rules)
