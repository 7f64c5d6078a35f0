use Rattle.std.proofs.Common.{min, length, take, sym, ap, ◌∙◌, arith, length-take-le}
use Rattle.scan.specs.Ready.{ready}
use Rattle.scan.proofs.ReadyBytes.{ready-front, ready-waits}
use Rattle.scan.proofs.scans.Scan.chunk.Goals as goal

pub slice_bounds-result-end : goal.slice_bounds-result-end
slice_bounds-result-end g c =
    let w = c.waiting.result.now in
    sym (length-take-le c.ready.result w (omega (arith, c.ready.ensures, ready-waits g.S.Source.meaning c.args.self.now, ap length c.waiting.ensures)))

pub returns : goal.returns
returns g c =
    let s = c.args.self.now in
    let k = min c.args.most (ready s) in
    let w = c.waiting.result.now in
    record {
      front = rw c.ready.ensures (ap (take k) c.waiting.ensures ∙ ready-front g.S.Source.meaning s k (omega arith));
      many = rw c.ready.ensures (length-take-le k w (omega (arith, ready-waits g.S.Source.meaning s, ap length c.waiting.ensures)));
    }
