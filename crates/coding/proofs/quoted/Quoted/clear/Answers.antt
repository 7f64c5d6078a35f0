use Rattle.std.proofs.Common.{false, [], ap, ◌∙◌}
use Rattle.coding.specs.declared.quoted.Kind.TheVariants.{Blanks}
use Rattle.coding.specs.QuotedShapes.{shaped}
use Rattle.coding.proofs.QuotedShapes.{shape_whole, shape_none}
use Rattle.coding.proofs.quoted.Quoted.clear.Goals as goal

pub invariant_of-self : goal.invariant_of-self
invariant_of-self c = record { shape = ap (shaped (Blanks false)) c.clear.ensures ∙ shape_whole (Blanks false) [] shape_none }
