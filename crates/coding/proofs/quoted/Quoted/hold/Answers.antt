use Rattle.std.proofs.Common.{[], ◌∷◌, ◌++◌, arith}
use Rattle.std.proofs.lemmas.List.{length-append}
use Rattle.coding.specs.Buffers.{items}
use Rattle.coding.proofs.QuotedShapes.{shape_parts, shape_length}
use Rattle.coding.proofs.quoted.Quoted.hold.Goals as goal

pub push-requires : goal.push-requires
push-requires c =
    let h = items c.args.self.now.held in
    let more = h ++ (c.args.b ∷ []) in
    let most = shape_length c.args.kind more (shape_parts c.args.kind more c.requires) in
    let l = length-append h (c.args.b ∷ []) in
    omega arith
