use Rattle.std.proofs.Common.{None, List, sym, ap, ◌∙◌}
use Rattle.message.specs.Groups.{Group}
use Rattle.levels.specs.Opened.{groups, popped}
use Rattle.levels.proofs.Stacks.{none_open, some_open}
use Rattle.levels.proofs.levels.Levels.pop.Goals as goal

pub returns-in_err-number : goal.returns-in_err-number
returns-in_err-number c =
    let none = none_open c.args.self.now c.open.result.now c.open.ensures c.in_err-number.ensures.item.3 in
    rw c.from_residual.ensures (ap (λ (gs : List Group). (None, gs)) none ∙ sym (ap popped none))

pub returns : goal.returns
unfolding groups
returns c =
    let last = c.in_ok-number.ensures.item in
    sym (ap popped (some_open c.args.self.now c.open.result.now c.open.ensures c.in_ok-number.field-0.now last.3.0 last.1))
