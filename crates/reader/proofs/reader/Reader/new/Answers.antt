use Rattle.std.proofs.Common.{ap, ◌∙◌}
use Rattle.input.specs.Inputs.{meaning as input_meaning}
use Rattle.levels.specs.Opened.{groups}
use Rattle.scan.specs.Streams.{stop}
use Rattle.reader.specs.Readers.{meaning}
use Rattle.reader.proofs.Makings.{made_by}
use Rattle.reader.proofs.reader.Reader.new.Goals as goal

pub returns : goal.returns
unfolding meaning
returns g c =
    let source = g.S.Source.meaning in
    let s = c.new-2.result in
    made_by c.args.number (groups s.lines.levels) (input_meaning source s.lines.input) (stop source s) (source c.args.source) c.new-2.ensures.groups
    (ap (input_meaning source) c.new-2.ensures.input ∙ c.new.ensures.means)
