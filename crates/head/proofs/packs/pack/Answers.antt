use Rattle.std.proofs.Common.{◌≡◌, List, length, sym, refl, ap, ◌∙◌, arith, rules}
use Rattle.byte_lines.specs.Lines.{lines}
use Rattle.head.specs.Fields.{Field, fields_of}
use Rattle.head.specs.Packing.{packed, records, no_record}
use Rattle.head.proofs.Fills.{padded_fill}
use Rattle.head.proofs.PackingLaws.{length-records}
use Rattle.head.proofs.Packings.{none_yet, one_more, all_done}
use Rattle.head.proofs.Passing.{lawful}
use Rattle.head.proofs.packs.pack.Goals as goal

pub loop-rest-init : goal.loop-rest-init
loop-rest-init c = none_yet c.args.head.now _ c.args.table.now refl (lawful c.args.head.now c.requires.lawful.0 c.requires.lawful.1) c.told-table

pub loop-rest-preserved : goal.loop-rest-preserved
loop-rest-preserved c =
    let l = c.loop-rest in
    let f = c.pack_field-field in
    one_more c.args.head.now l.rest.now f.result.rest.now _ l.packer f.new.self l.table l.n f.result.name f.result.value l.invariant f.ensures refl

pub returns : goal.returns
returns c =
    let l = c.loop-rest in
    let s = l.invariant in
    let fs = fields_of (lines c.args.head.now) in
    let empty : length l.rest.now ≡ 0 = search rules in
    let all : s.done ≡ fs = all_done c.args.head.now l.rest.now _ l.packer l.table l.n s empty in
    let size : length (packed fs) ≡ l.packer.to = omega (arith, s.puts.grows, ap (λ (gs : List Field). length (packed gs)) all) in
    record {
      few = omega arith;
      count = sym s.count ∙ ap length all;
      bytes = padded_fill 0 8192 l.packer.to l.packer.out.now (packed fs) c.fill.new.self (omega arith) (s.puts.bytes ∙ ap packed all) size (omega arith) (c.fill.ensures.after (λ y e. e));
      records = padded_fill no_record 64 l.n l.table (records 0 fs) c.fill-2.new.self s.wide (s.rows ∙ ap (records 0) all) (length-records 0 fs ∙ ap length (sym all) ∙ s.count) (omega arith) (c.fill-2.ensures.after (λ y e. e));
    }
