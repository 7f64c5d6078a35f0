use Rattle.std.proofs.Common.{[]}
use Rattle.scan.proofs.BodyMoves.{moves-twice}
use Rattle.scan.proofs.scans.Scan.skip_body.Goals as goal

pub loop-self-preserved : goal.loop-self-preserved
loop-self-preserved g c =
    let source = g.S.Source.meaning in
    (_, moves-twice source _ _ _ _ _ c.loop-self.invariant.1 (moves-twice source _ _ _ [] _ c.settle.ensures.moved c.advance.ensures))
