-- What a report says of a source. Assumes nothing.
use Rattle.std.specs.Prelude.{[]}
use Rattle.byte_lines.specs.Bytes.{Answer}
use Rattle.source.specs.Meanings.{Meaning as Source}
use Rattle.sink.specs.Meanings.{Meaning as Sink}
use Rattle.sink.specs.Values.{Count, counted, none}
use Rattle.transfer.specs.Drains.{drained}

abbrev pub fresh : Sink Count
fresh = record { value = none; step = counted; space = 4294967295; unwritten = []; lent = [] }

-- how a source ended, and the tally of what it gave
abbrev pub reported : Source → Answer × Sink Count
reported m = ((drained m fresh).0, (drained m fresh).2)
