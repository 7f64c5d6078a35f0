-- The worked examples. Assumes nothing.
use Rattle.std.specs.Prelude.{◌≡◌, [], codes}
use Rattle.source.specs.declared.ends.End.TheVariants.{Clean, Faulty}
use Rattle.source.specs.Meanings.{fault}
use Rattle.chunked.specs.Framing.{unframed}
use Rattle.coding.specs.Decoding.{gives}
use Rattle.coding.specs.Base64.{base64}
use Rattle.coding.specs.Quoted.{quoted}

-- chunked framing: a whole body, and a chunk with a byte too many
abbrev pub FramingExamples : Type 0
FramingExamples =
    (unframed (codes "3\r\nabc\r\n0\r\n\r\n") Clean ≡ record { bytes = codes "abc"; ending = Clean; taken = 13; left = [] })
    × (unframed (codes "3\r\nabcd") Clean ≡ record { bytes = codes "abc"; ending = Faulty (fault 23 2 6); taken = 7; left = [] })

-- base64: padded, with one character over, and with an ignored byte and data behind the '='
abbrev pub Base64Examples : Type 0
Base64Examples =
    (base64 0 (codes "cGljb3Q=") Clean ≡ gives (codes "picot") Clean)
    × (base64 0 (codes "c") Clean ≡ gives [] (Faulty (fault 51 5 1)))
    × (base64 0 (codes "cG lj=b") Clean ≡ gives (codes "pic") Clean)

-- quoted-printable: an escaped byte, a soft line break with a blank in it, and an '=' that is itself
abbrev pub QuotedExamples : Type 0
QuotedExamples =
    (quoted 0 (codes "a=3Db") Clean ≡ gives (codes "a=b") Clean)
    × (quoted 0 (codes "a= \r\nb") Clean ≡ gives (codes "ab") Clean)
    × (quoted 0 (codes "a=4") Clean ≡ gives (codes "a=4") Clean)

pub record WorkedExamples : Type 0 where
  pub framing : FramingExamples
  pub base64 : Base64Examples
  pub quoted : QuotedExamples
