use Rattle.std.proofs.Common.{refl}
use Rattle.byte_lines.specs.Lines.{lines}
use Rattle.byte_lines.specs.Strings.{trim_start, trim_end, before, after}
use Rattle.coding.specs.Base64.{sextets, octets, data_part, has_equals, base64_from}
use Rattle.head.specs.Fields.{gathered, values_of}
use Rattle.head.specs.LineFaults.{judged}
use Rattle.head.specs.Media.{quoted_content, pieces, parameters}
use Rattle.head.specs.Entities.{boundaries, entity}
use Rattle.message.specs.Groups.{role}
use Rattle.message.specs.Heads.{head}
use Rattle.message.specs.Bodies.{body_from, body_end}
use Rattle.message.specs.Rows.{opening, row, row_of}
use Rattle.cases.specs.Messages.{MessageExamples, spliced, wire, nest}
use Rattle.cases.proofs.worked_messages.Goals as goal

messages : MessageExamples
unfolding lines trim_start trim_end before after sextets octets data_part has_equals base64_from gathered values_of judged quoted_content pieces parameters boundaries entity role head body_from body_end opening row row_of spliced wire nest
messages =
    record {
      empty_input = (refl, refl);
      nested = refl;
      innermost_separates = refl;
      innermost-closes = refl;
      whole-line = refl;
      head-ended_by_a_line = refl;
      opened_and_closed = refl;
      outer_line = refl;
      partial_last_line = (refl, refl);
      unended-group = (refl, refl, refl);
      fault_in_head = (refl, refl, refl);
      fault_in_body = refl;
      fault_between_parts = (refl, refl);
      head-fault = refl;
      coding_fault = (refl, refl);
      eight_groups = (refl, refl);
    }

pub returns : goal.returns
returns c = messages
