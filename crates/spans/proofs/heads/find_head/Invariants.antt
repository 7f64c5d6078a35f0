use Rattle.std.proofs.Common.{◌-◌, ◌≤◌, length}
use Rattle.input.specs.Inputs.{meaning, shown, Kept}
use Rattle.message.specs.HeadWalks.{Walked}
use Rattle.levels.specs.Opened.{groups}
use Rattle.spans.proofs.heads.find_head.Given as goal

abbrev pub invariant-loop-to : goal.invariant-loop-to
invariant-loop-to g l =
    Kept g.S.Source.meaning l.initial.input l.input × (l.at ≤ 8192) × (l.at ≤ length (shown l.input))
    × Walked (groups l.levels) (meaning g.S.Source.meaning l.initial.input).offset (meaning g.S.Source.meaning l.initial.input).left l.at

abbrev pub decreases-loop-to : goal.decreases-loop-to
decreases-loop-to g l = 8192 - l.at
