-- What a body decodes to. Assumes nothing.
use Rattle.std.specs.Prelude.{◌++◌}
use Rattle.byte_lines.specs.Bytes.{Bytes}
use Rattle.source.specs.declared.ends.Fault.{Fault}
use Rattle.source.specs.declared.ends.End.{End}
use Rattle.source.specs.declared.ends.End.TheVariants.{Clean, Faulty}

-- decoded bytes, and the end behind them
pub record Decoded : Type 0 where
  pub bytes : Bytes
  pub ending : End

abbrev pub gives : Bytes → End → Decoded
gives s e = record { bytes = s; ending = e }

-- bytes before those that come
abbrev pub prefixed : Bytes → Decoded → Decoded
prefixed s d = record { bytes = s ++ d.bytes; ending = d.ending }

-- a fault that is found at the body's end yields to the fault of the input
abbrev pub yields : End → Fault → End
yields Clean f = Faulty f
yields (Faulty g) f = Faulty g
