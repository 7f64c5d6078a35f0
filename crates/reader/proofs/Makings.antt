-- What a reader means that was just made.
use Rattle.std.proofs.Common.{◌≡◌, ℕ, List, [], None}
use Rattle.source.specs.Meanings.{Meaning as SourceMeaning}
use Rattle.input.specs.Inputs.{Meaning as InputMeaning, first}
use Rattle.message.specs.Groups.{Group}
use Rattle.message.specs.Rows.{row_of}
use Rattle.scan.specs.Streams.{Stop}
use Rattle.calls.specs.ReaderMeaning.{made}
use Rattle.reader.specs.declared.reader.Stage.TheVariants.{Head}
use Rattle.reader.specs.Readers.{ahead_by}

pub made_by : (n : ℕ) (gs : List Group) (i : InputMeaning) (s : Stop) (m : SourceMeaning) → gs ≡ [] → i ≡ first 16777216 m
    → record { number = n; ahead = ahead_by Head gs 0 i s; part = None; delivered = 0 } ≡ made n m
unfolding made row_of
made_by n gs i s m none means = cc
