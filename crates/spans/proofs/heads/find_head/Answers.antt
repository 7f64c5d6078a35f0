use Rattle.std.proofs.Common.{arith}
use Rattle.input.specs.Inputs.{meaning}
use Rattle.input.proofs.Windows.{kept_same}
use Rattle.message.proofs.HeadSpans.{walked_start}
use Rattle.levels.specs.Opened.{groups}
use Rattle.spans.proofs.heads.find_head.Goals as goal

pub loop-to-init : goal.loop-to-init
loop-to-init g c =
    let source = g.S.Source.meaning in
    let i = c.args.input.now in
    (kept_same source i, omega arith, omega arith, walked_start (groups c.args.levels.now) (meaning source i).offset (meaning source i).left)
