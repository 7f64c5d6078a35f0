use Rattle.calls.proofs.laws.every_run_keeps_the_law.Goals as goal
use Rattle.calls.proofs.Theorems.{every_run, runs_alike, runs_go_on}
use Rattle.calls.proofs.NoTrace.{refusals_leave_no_trace}

pub returns : goal.returns
returns g c = record { keeps = every_run _ _; alike = runs_alike _ _; goes_on = runs_go_on _ _; refusals = refusals_leave_no_trace _ _ }
