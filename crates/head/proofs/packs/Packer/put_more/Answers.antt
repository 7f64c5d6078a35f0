use Rattle.std.proofs.Common.{sym}
use Rattle.std.proofs.lemmas.List.{take_rest}
use Rattle.head.proofs.Joining.{more_none_yet, more_line, more_all}
use Rattle.head.proofs.packs.Packer.put_more.Goals as goal

pub loop-line-init : goal.loop-line-init
loop-line-init c = more_none_yet c.args.base c.args.text.now c.args.self.now

pub loop-line-preserved : goal.loop-line-preserved
loop-line-preserved c =
    let l = c.loop-line in
    let line = c.first_line-line in
    more_line c.args.base c.args.text.now l.rest.now _ c.args.self.now l.self c.put_value.new.self line.result.len line.result.width c.requires.behind l.invariant (sym c.loop-line-test.ensures) line.ensures
    (take_rest l.rest.now line.result.width) c.put_value.ensures.puts

pub returns : goal.returns
returns c = more_all c.args.base c.args.text.now c.loop-line.rest.now c.args.self.now c.loop-line.self c.loop-line.invariant (sym c.loop-line-test.ensures)
