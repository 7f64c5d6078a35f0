use Rattle.std.proofs.Common.{◌≡◌, ap, ◌∙◌}
use Rattle.byte_lines.specs.Bytes.{Answer}
use Rattle.source.specs.Meanings.{Meaning as Source}
use Rattle.sink.specs.Meanings.{Meaning as Sink}
use Rattle.sink.specs.Values.{Count}
use Rattle.transfer.specs.Drains.{drained}
use Rattle.intake.specs.Reports.{reported, fresh}
use Rattle.intake.proofs.report.Report.of.Goals as goal

fresh_reports : (m m' : Source) (k k' : Sink Count) (a : Answer) → (a, m', k') ≡ drained m k → k ≡ fresh → (a, k') ≡ reported m
fresh_reports m m' k k' a e f = ap (λ x. (x.0, x.2)) (e ∙ ap (drained m) f)

pub returns : goal.returns
returns g c = fresh_reports _ _ _ _ _ c.drain-drained.ensures c.new-tally.ensures
