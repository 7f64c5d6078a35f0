use Rattle.std.proofs.Common.{length, ap, arith}
use Rattle.coding.specs.Decoding.{Decoded}
use Rattle.coding.specs.Decoders.{backlog}
use Rattle.coding.proofs.Backlogs.{end_fewer}
use Rattle.coding.proofs.decoder.Decoder.finish.Goals as goal

pub returns-clause-fewer : goal.returns-clause-fewer
unfolding backlog
returns-clause-fewer c =
    let s = c.args.self.now in
    let f = end_fewer s.mode s.at c.args.end in
    let n = ap (λ (d : Decoded). length d.bytes) c.finish-end.ensures in
    omega arith
