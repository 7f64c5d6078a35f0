use Rattle.std.proofs.Common.{[], length}
use Rattle.coding.specs.Base64.{base64_from}
use Rattle.coding.proofs.Runs.{Ran}
use Rattle.coding.proofs.base64.steps.Base64Coder.run.Given as goal

abbrev pub invariant-loop-out : goal.invariant-loop-out
invariant-loop-out l = Ran (base64_from []) l.raw l.rest l.initial.out l.out l.given

abbrev pub decreases-loop-out : goal.decreases-loop-out
decreases-loop-out l = length l.rest
