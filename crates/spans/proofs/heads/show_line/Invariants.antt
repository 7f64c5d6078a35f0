use Rattle.std.proofs.Common.{◌+◌, ◌-◌, ◌≤◌, length}
use Rattle.input.specs.Inputs.{shown, known, Kept}
use Rattle.input.specs.Filling.{unended}
use Rattle.spans.proofs.heads.show_line.Given as goal

abbrev pub invariant-loop-input : goal.invariant-loop-input
invariant-loop-input g l = Kept g.S.Source.meaning l.initial.input l.input × (l.at ≤ length (shown l.input))

abbrev pub decreases-loop-input : goal.decreases-loop-input
decreases-loop-input g l = (16384 - length (shown l.input)) + unended (known l.input)
