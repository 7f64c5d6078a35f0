use Rattle.std.proofs.Common.{◌+◌, ◌≤◌}
use Rattle.input.specs.Inputs.{Kept}
use Rattle.input.specs.Filling.{wanting}
use Rattle.input.proofs.window.Input.fill.Given as goal

-- the bytes wanted fit behind `from`
abbrev pub invariant-loop-self : goal.invariant-loop-self
invariant-loop-self g l = Kept g.S.Source.meaning l.initial.self l.self × (l.self.from + l.wanted ≤ 16384)

abbrev pub decreases-loop-self : goal.decreases-loop-self
decreases-loop-self g l = wanting l.self
