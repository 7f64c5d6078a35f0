use Rattle.std.proofs.Common.{map, ap, arith}
use Rattle.levels.specs.Opened.{group_of, groups}
use Rattle.levels.proofs.Stacks.{count_is, stack-more}
use Rattle.levels.proofs.levels.Levels.push.Goals as goal

pub returns-then-self-eq-DEPTH : goal.returns-then-self-eq-DEPTH
returns-then-self-eq-DEPTH c = let l = c.args.self.now in let k = count_is l in grind arith

pub returns : goal.returns
unfolding groups
returns c =
    let l = c.args.self.now in let k = count_is l in let m = ap (map group_of) (stack-more l.slots l.count (record { number = c.args.number; boundary = c.args.boundary }) (omega arith)) in grind arith
