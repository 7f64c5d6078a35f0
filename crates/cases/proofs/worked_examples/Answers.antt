use Rattle.std.proofs.Common.{refl}
use Rattle.byte_lines.specs.Lines.{lines}
use Rattle.byte_lines.specs.Strings.{trim_end}
use Rattle.chunked.specs.Framing.{framed}
use Rattle.coding.specs.Base64.{sextets, octets, data_part, has_equals, base64_from}
use Rattle.coding.specs.Quoted.{unescaped, softened, blanks, overlong, quoted_lines, quoted}
use Rattle.cases.proofs.worked_examples.Goals as goal

pub returns : goal.returns
unfolding lines trim_end framed sextets octets data_part has_equals base64_from unescaped softened blanks overlong quoted_lines quoted
returns c = record { framing = (refl, refl); base64 = (refl, refl, refl); quoted = (refl, refl, refl) }
