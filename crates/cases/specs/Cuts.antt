-- A source that is cut off. Assumes nothing.
use Rattle.source.specs.Meanings.{Meaning, means}
use Rattle.source.specs.Slices.{block_meaning}
use Rattle.cases.specs.declared.cut.Cut.{Cut}

abbrev pub cut_meaning : Cut → Meaning
cut_meaning c = means (block_meaning c.block).coming c.end
