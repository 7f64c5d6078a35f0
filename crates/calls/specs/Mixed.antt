-- Runs with stores and tallies. Assumes nothing.
use Rattle.byte_lines.specs.Bytes.{Bytes}
use Rattle.sink.specs.declared.store.Store.{Store}
use Rattle.sink.specs.declared.tally.Tally.{Tally}
use Rattle.sink.specs.Values.{Count, store_meaning, tally_meaning}
use Rattle.calls.specs.Calls.{AnySink}

-- a store or a tally
pub data StoreOrTally : Type 0 where
  store tally : StoreOrTally

-- the type of a store's value, and of a tally's
abbrev pub value_of : StoreOrTally → Type 0
value_of store = Bytes
value_of tally = Count

-- a store among such sinks
abbrev pub as_store : Store → AnySink StoreOrTally value_of
as_store s = record { kind = store; means = store_meaning s }

-- a tally among such sinks
abbrev pub as_tally : Tally → AnySink StoreOrTally value_of
as_tally t = record { kind = tally; means = tally_meaning t }
