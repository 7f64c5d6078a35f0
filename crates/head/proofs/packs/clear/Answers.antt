use Rattle.std.proofs.Common.{ℕ, replicate, ap, ◌∙◌}
use Rattle.head.specs.Packing.{packed}
use Rattle.head.proofs.packs.clear.Goals as goal

pub returns-clause-bytes : goal.returns-clause-bytes
unfolding packed
returns-clause-bytes c = c.fill.ensures.after (λ y e. e) ∙ ap (λ (n : ℕ). replicate n 0) c.told-buffer
