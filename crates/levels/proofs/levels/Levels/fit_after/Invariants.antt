use Rattle.std.proofs.Common.{length}
use Rattle.levels.specs.Opened.{groups}
use Rattle.levels.proofs.LineTests.{Passed}
use Rattle.levels.proofs.levels.Levels.fit_after.Given as goal

abbrev pub invariant-loop-i : goal.invariant-loop-i
invariant-loop-i l = Passed (groups l.self) l.after (length l.yielded)
