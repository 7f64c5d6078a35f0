use Rattle.std.proofs.Common.{◌≡◌, suc, ◌∷◌, length, drop, sym, ap, subst, arith}
use Rattle.std.proofs.lemmas.List.{length-drop, length_push}
use Rattle.levels.specs.Opened.{group_of, groups}
use Rattle.levels.proofs.Stacks.{met_one, met_all}
use Rattle.levels.proofs.LineTests.{Passed, fits-separator, fits-closing, passes_on, fits-none}
use Rattle.levels.proofs.levels.Levels.fit_after.Goals as goal
use Rattle.levels.proofs.levels.Levels.fit_after.Goals.{In-Some}

-- the level at hand, and that none of the levels inside it fits
met : (c : In-Some) → (drop c.in-Some.i (groups c.args.self.now) ≡ group_of c.in-Some.level.now ∷ drop (suc c.in-Some.i) (groups c.args.self.now))
    × Passed (groups c.args.self.now) c.args.after.now c.in-Some.i × (c.in-Some.i ≡ length c.loop-i.yielded)
met c =
    let same = c.into_iter-i-iterator.ensures.into_iter_gives in
    let m = met_one c.args.self.now c.open.result.now c.into_iter-i-iterator.result c.loop-i.i-iterator c.next.new.self c.loop-i.yielded c.next.result c.open.ensures (cc) (cc)
    c.loop-i.yielded_by c.next.ensures.steps (c.in-Some.i, c.in-Some.level) c.in-Some.is in
    (m.1, subst (Passed (groups c.args.self.now) c.args.after.now) (sym m.0) c.loop-i.invariant, m.0)

pub returns-in-Some-Separator : goal.returns-in-Some-Separator
returns-in-Some-Separator c =
    let m = met (goal.at.returns-in-Some-Separator c).In-Some in
    let gs = groups c.args.self.now in
    record {
      is = fits-separator gs c.args.after.now c.in-Some.i _ m.0 m.1 (rw c.in-Some-Separator.field-0-is at c.in-Some-Separator.ensures);
      within = omega (arith, ap length m.0, length-drop c.in-Some.i gs);
    }

pub returns-in-Some-Closing : goal.returns-in-Some-Closing
returns-in-Some-Closing c =
    let m = met (goal.at.returns-in-Some-Closing c).In-Some in
    let gs = groups c.args.self.now in
    record {
      is = fits-closing gs c.args.after.now c.in-Some.i _ m.0 m.1 (rw c.in-Some-Closing.field-0-is at c.in-Some-Closing.ensures);
      within = omega (arith, ap length m.0, length-drop c.in-Some.i gs);
    }

pub loop-i-preserved : goal.loop-i-preserved
loop-i-preserved c =
    let m = met (goal.at.loop-i-preserved c).In-Some in
    let gs = groups c.args.self.now in
    rw (length_push, ← m.2) (passes_on gs c.args.after.now c.in-Some.i _ m.0 m.1 c.in-None-mark.ensures)

pub returns-clause-is : goal.returns-clause-is
returns-clause-is c =
    let l = c.args.self.now in
    let same = c.into_iter-i-iterator.ensures.into_iter_gives in
    let all = met_all l c.open.result.now c.into_iter-i-iterator.result c.loop-i.i-iterator c.next.new.self c.loop-i.yielded c.next.result c.open.ensures (cc) (cc)
    c.loop-i.yielded_by c.next.ensures.steps c.in-None.is in
    fits-none (groups l) c.args.after.now (length c.loop-i.yielded) all c.loop-i.invariant
