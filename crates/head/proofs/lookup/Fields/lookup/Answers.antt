use Rattle.std.proofs.Common.{ap, ◌∙◌}
use Rattle.byte_lines.specs.Strings.{named}
use Rattle.head.specs.Fields.{values_of}
use Rattle.head.proofs.Founds.{found_first, found-again, found-past, found_all}
use Rattle.head.proofs.lookup.Fields.lookup.Goals as goal
use Rattle.head.proofs.lookup.Fields.lookup.Goals.{then-is_named+else-is_some, else-is_named}

pub returns-then-is_some : goal.returns-then-is_some
returns-then-is_some c =
    let word = c.args.word.now in
    let again = found-again (values_of word c.args.self.now) word c.self.inside.buffer.now c.self.inside.table.now c.loop-record.record-index c.loop-record-test.true c.loop-record.found
    c.if-is_some.ensures (c.if-is_named.ensures ∙ ap (named word) c.part.ensures) c.loop-record.invariant in
    search (again)

pub loop-record-preserved : goal.loop-record-preserved
loop-record-preserved c =
    let word = c.args.word.now in
    let all = values_of word c.args.self.now in
    let buffer = c.self.inside.buffer.now in
    let rs = c.self.inside.table.now in
    let i = c.loop-record.record-index in
    let o = c.loop-record.found in
    elim c.if-is_named.branch [
      | then-is_named+else-is_some w ↦ let e = w.found-is in
          rw e (found_first all word buffer rs i c.loop-record-test.true o w.if-is_some.ensures w.part-then-is_named.result w.part-then-is_named.ensures
          (w.if-is_named.ensures ∙ ap (named word) c.part.ensures) c.loop-record.invariant)
      | else-is_named w ↦ let e = w.found-is in
          rw e (found-past all word buffer rs i c.loop-record-test.true o (w.if-is_named.ensures ∙ ap (named word) c.part.ensures) c.loop-record.invariant)
    ]

pub returns : goal.returns
returns c =
    let word = c.args.word.now in
    found_all (values_of word c.args.self.now) word c.self.inside.buffer.now c.self.inside.table.now c.loop-record.record-index c.loop-record.found c.loop-record-test.false c.loop-record.invariant
