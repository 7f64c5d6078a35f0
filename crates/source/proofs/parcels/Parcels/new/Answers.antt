use Rattle.std.proofs.Common.{◌∷◌, ap, ◌∙◌}
use Rattle.source.specs.Slices.{cut}
use Rattle.source.proofs.Cuts.{cut-zero, joined-cut}
use Rattle.source.proofs.parcels.Parcels.new.Goals as goal

pub returns-clause-parcels : goal.returns-clause-parcels
returns-clause-parcels c = cut-zero c.args.lengths.now c.new.result.rest.now ∙ ap (λ m. cut c.args.lengths.now m.coming) c.new.ensures

pub returns-clause-whole : goal.returns-clause-whole
returns-clause-whole c = joined-cut (0 ∷ c.args.lengths.now) c.new.result.rest.now ∙ ap (λ m. m.coming) c.new.ensures
