-- The faults of the framing, by what is wrong. Assumes nothing.
use Rattle.std.specs.Prelude.{ℕ}
use Rattle.source.specs.declared.ends.End.{End}
use Rattle.source.specs.declared.ends.End.TheVariants.{Faulty}
use Rattle.source.specs.Meanings.{fault}
use Rattle.chunked.specs.declared.faults.Wrong.{Wrong}
use Rattle.chunked.specs.declared.faults.Wrong.TheVariants.{Size, Data, Short, Long}

abbrev pub number : Wrong → ℕ
number Size = 21
number Data = 23
number Short = 24
number Long = 26

-- the end with that fault at a place
abbrev pub wrong : Wrong → (place : ℕ) → End
wrong w place = Faulty (fault (number w) 2 place)
