use Rattle.std.proofs.Common.{arith}
use Rattle.input.proofs.Windows.{shows-all, lacks-bytes, lacks-end}
use Rattle.input.proofs.window.Input.fill.Goals as goal

pub returns-then-shows-clause-shows : goal.returns-then-shows-clause-shows
returns-then-shows-clause-shows g c = λ h. shows-all g.S.Source.meaning c.args.self.now c.min-wanted.result c.if-shows.ensures (omega arith)

pub returns-clause-shows : goal.returns-clause-shows
returns-clause-shows g c = λ h. shows-all g.S.Source.meaning c.loop-self.self c.min-wanted.result c.loop-self-test.ensures (omega arith)

pub returns-clause-idle : goal.returns-clause-idle
returns-clause-idle g c = λ h. absurd (lacks-bytes g.S.Source.meaning c.args.self.now c.min-wanted.result c.if-shows.ensures (omega arith))

pub returns-clause-ended : goal.returns-clause-ended
returns-clause-ended g c = λ e h. absurd (lacks-end g.S.Source.meaning c.args.self.now c.min-wanted.result c.if-shows.ensures e h)
