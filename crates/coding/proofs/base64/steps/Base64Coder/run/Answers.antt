use Rattle.std.proofs.Common.{sym, arith}
use Rattle.std.proofs.lemmas.List.{take_rest}
use Rattle.coding.proofs.Base64Steps.{group_first, ignored_first}
use Rattle.coding.proofs.Runs.{ran_past, ran_put}
use Rattle.coding.proofs.base64.steps.Base64Coder.run.Goals as goal

pub loop-out-preserved-in-Some : goal.loop-out-preserved-in-Some
loop-out-preserved-in-Some c =
    let three = c.in-Some.three in
    ran_put three 4 3 _ c.loop-out.invariant c.loop-out.auto.out (take_rest c.loop-out.rest.now 4) c.in-len4-up.len_at_least c.copy_from_slice.ensures.after (omega arith) (omega arith) (omega arith) (omega arith) (group_first c.loop-out.rest.now three c.in-len4-up.len_at_least c.in-Some.ensures)

pub loop-out-preserved : goal.loop-out-preserved
loop-out-preserved c = ran_past 1 c.loop-out.invariant (take_rest c.loop-out.rest.now 1) (omega arith) (ignored_first c.loop-out.rest.now (omega arith) (sym c.if-is_ignored.ensures))
