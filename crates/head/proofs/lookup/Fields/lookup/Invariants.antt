use Rattle.head.specs.Fields.{values_of}
use Rattle.head.proofs.Founds.{Holds}
use Rattle.head.proofs.lookup.Fields.lookup.Given as goal

abbrev pub invariant-loop-record : goal.invariant-loop-record
invariant-loop-record l = Holds (values_of l.word l.self) l.word l.self-inside.buffer.now l.record-items l.record-index l.found
