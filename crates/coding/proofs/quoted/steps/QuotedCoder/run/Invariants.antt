use Rattle.std.proofs.Common.{length}
use Rattle.coding.specs.Quoted.{quoted}
use Rattle.coding.proofs.Runs.{Ran}
use Rattle.coding.proofs.quoted.steps.QuotedCoder.run.Given as goal

abbrev pub invariant-loop-rest : goal.invariant-loop-rest
invariant-loop-rest l = Ran quoted l.initial.rest l.rest l.initial.out l.out l.given

abbrev pub decreases-loop-rest : goal.decreases-loop-rest
decreases-loop-rest l = length l.rest
