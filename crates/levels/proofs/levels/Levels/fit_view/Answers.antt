use Rattle.std.proofs.Common.{take, ap, ◌∙◌, arith}
use Rattle.message.specs.Groups.{role}
use Rattle.levels.specs.Opened.{groups}
use Rattle.levels.proofs.LineTests.{near_decides, text_other, leading-after}
use Rattle.levels.proofs.levels.Levels.fit_view.Goals as goal

pub returns-in_err-after : goal.returns-in_err-after
returns-in_err-after c =
    let l = c.args.self.now in
    let v = c.args.view.now in
    let n = c.min.result in
    rw c.from_residual.ensures
    record {
      is = λ q all. text_other (groups l) (take n v) c.in_err-after.ensures ∙ near_decides l v q all n (omega (arith, c.min.ensures));
      within = tt;
    }

pub returns-clause-is : goal.returns-clause-is
returns-clause-is c q all =
    let l = c.args.self.now in
    let v = c.args.view.now in
    let n = c.min.result in
    let t = c.in_ok-after.after.now in
    let len = c.first_line.result.len in
    c.fit_after.ensures.is
    ∙ ap (role (groups l)) (leading-after (take n v) t len c.first_line.result.width c.in_ok-after.ensures c.first_line.ensures)
    ∙ near_decides l v q all n (omega (arith, c.min.ensures))
