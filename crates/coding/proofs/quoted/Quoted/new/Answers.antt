use Rattle.std.proofs.Common.{false, [], ap, ◌∙◌}
use Rattle.coding.specs.declared.quoted.Kind.TheVariants.{Blanks}
use Rattle.coding.specs.QuotedShapes.{shaped}
use Rattle.coding.proofs.QuotedShapes.{shape_whole, shape_none}
use Rattle.coding.proofs.quoted.Quoted.new.Goals as goal

pub invariant_of-result : goal.invariant_of-result
invariant_of-result c = record { shape = ap (shaped (Blanks false)) c.new.ensures ∙ shape_whole (Blanks false) [] shape_none }
