use Rattle.std.proofs.Common.{subst, arith}
use Rattle.std.proofs.lemmas.List.{length-take, length-drop, take_rest}
use Rattle.byte_lines.specs.Bytes.{Bytes}
use Rattle.head.specs.Packs.{MorePacked}
use Rattle.head.proofs.FieldPacks.{field-packed}
use Rattle.head.proofs.Gathers.{len_width}
use Rattle.head.proofs.packs.Packer.pack_field.Goals as goal

pub returns : goal.returns
returns c =
    let head = c.args.head.now in
    let len = c.first_line-line.result.len in
    let w = c.first_line-line.result.width in
    field-packed head c.split_name.result.0.now c.split_name.result.1.now c.put_more-rest.result.now
    c.args.self.now c.put.new.self c.put_value.new.self c.put_more-rest.new.self len w c.value_len-value.result
    c.first_line-line.ensures c.requires.some c.requires.starts c.split_name.ensures.name c.split_name.ensures.value c.requires.fits
    (omega (arith, c.put.ensures.grows, c.split_name.ensures.within, c.first_line-line.ensures.within, len_width head len w c.first_line-line.ensures, length-take len head, length-drop w head))
    c.put.ensures c.put_value.ensures.puts (subst (λ (t : Bytes). MorePacked c.put.new.self.to t c.put_more-rest.result.now c.put_value.new.self c.put_more-rest.new.self) (take_rest head w) c.put_more-rest.ensures)
    c.value_len-value.ensures.len
