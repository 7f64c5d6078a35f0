use Rattle.std.proofs.Common.{◌≡◌, Bool, cond, eqb, not, ap, arith}
use Rattle.std.proofs.lemmas.List.Sums.{prefix_len-le-length}
use Rattle.scan.specs.Ready.{until_cr, ready_in}
use Rattle.scan.proofs.ReadyBytes.{until_take}
use Rattle.scan.proofs.scans.ready.ready_in.Goals as goal

pub returns : goal.returns
returns c =
    let v = c.args.view.now in
    let run : until_cr v ≡ ready_in v c.args.all = ap (λ (t : Bool). cond t 1 (until_cr v)) c.if-is_lone_cr.ensures in
    omega (arith, c.run_len.ensures, until_take c.min-2.result v, prefix_len-le-length (λ b. not (eqb b 13)) v, c.min-2.ensures, run)
