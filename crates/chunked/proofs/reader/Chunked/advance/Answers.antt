use Rattle.std.proofs.Common.{[], ◌∷◌, arith}
use Rattle.source.proofs.Pulling.{given, told}
use Rattle.chunked.proofs.Advances.{over_same, byte_same, early_same}
use Rattle.chunked.proofs.reader.Chunked.advance.Goals as goal

pub returns-then-self-ge-LIMIT-clause-same : goal.returns-then-self-ge-LIMIT-clause-same
returns-then-self-ge-LIMIT-clause-same g c =
    let s = c.args.self.now in
    over_same s.next c.args.place s.taken (g.S.Source.meaning s.source) c.at.result c.requires.here c.if-self-ge-LIMIT.true c.at.ensures

pub returns-in-Ok-clause-same : goal.returns-in-Ok-clause-same
returns-in-Ok-clause-same g c =
    let s = c.args.self.now in
    byte_same s.next c.step-self.result c.args.place s.taken c.in-Ok.field-0 _ _ c.pull.new.buffer c.requires.here (omega arith) (c.requires.overhead (omega arith))
    (given _ (0 ∷ []) c.in-Ok.field-0 _ c.pull.new.buffer c.in-Ok.ensures) c.step-self.ensures

pub returns-in-Err-clause-same : goal.returns-in-Err-clause-same
returns-in-Err-clause-same g c =
    let s = c.args.self.now in
    early_same s.next c.args.place s.taken _ _ c.in-Err.end c.early.result (0 ∷ []) c.pull.new.buffer c.requires.here (omega arith)
    (told _ (0 ∷ []) c.in-Err.end _ c.pull.new.buffer c.in-Err.ensures) c.early.ensures
