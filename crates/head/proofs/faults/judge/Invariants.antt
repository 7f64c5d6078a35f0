use Rattle.std.proofs.Common.{◌≡◌, ◌-◌, ◌≤◌, length}
use Rattle.byte_lines.specs.Lines.{lines}
use Rattle.head.specs.LineFaults.{judged}
use Rattle.head.proofs.faults.judge.Given as goal

abbrev pub invariant-loop-rest : goal.invariant-loop-rest
invariant-loop-rest l = (judged (length l.head - length l.rest) l.fields (lines l.rest) ≡ judged 0 0 (lines l.head)) × (length l.rest ≤ length l.head) × (length l.head - length l.rest ≤ 8192)

abbrev pub decreases-loop-rest : goal.decreases-loop-rest
decreases-loop-rest l = length l.rest
