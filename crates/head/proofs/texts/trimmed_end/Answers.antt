use Rattle.std.proofs.Common.{arith}
use Rattle.std.proofs.lemmas.Grind.{common_steps}
use Rattle.head.proofs.Trims.{trim_end_at, trim_end-blanks}
use Rattle.head.proofs.texts.trimmed_end.Goals as goal

pub returns-in-Some : goal.returns-in-Some
returns-in-Some c =
    let e = trim_end_at c.args.text.now c.in-Some.last (grind (arith, common_steps)) (λ k h l. grind (arith, common_steps)) (grind (arith, common_steps)) in
    grind (arith, common_steps)

pub returns-in-None : goal.returns-in-None
returns-in-None c = trim_end-blanks c.args.text.now (λ k h. grind (arith, common_steps))
