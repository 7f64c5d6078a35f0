use Rattle.std.proofs.Common.{refl}
use Rattle.scan.proofs.BodyMoves.{moves-run, moves-past}
use Rattle.scan.proofs.scans.Scan.advance.Goals as goal

pub returns-in-Within : goal.returns-in-Within
returns-in-Within g c =
    moves-run g.S.Source.meaning c.args.self.now _ c.args.n c.ready-n.result c.ready-n.ensures refl c.in-Within.is refl c.consume.ensures.means

pub returns-in_default : goal.returns-in_default
returns-in_default g c =
    moves-past g.S.Source.meaning c.args.self.now _ c.args.n c.ready-n.result c.ready-n.ensures refl c.in_default.not-Within refl c.past-self.ensures
