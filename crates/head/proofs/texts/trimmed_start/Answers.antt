use Rattle.std.proofs.Common.{arith}
use Rattle.std.proofs.lemmas.Grind.{common_steps}
use Rattle.head.proofs.Trims.{trim_start_by}
use Rattle.head.proofs.texts.trimmed_start.Goals as goal

pub returns : goal.returns
returns c =
    let e = trim_start_by c.args.text.now c.unwrap_or.result (grind (arith, common_steps)) (λ k h. grind (arith, common_steps)) (λ h. grind (arith, common_steps)) in
    grind (arith, common_steps)
