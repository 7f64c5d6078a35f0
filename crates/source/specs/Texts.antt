-- How faults and ends are printed. Assumes nothing.
use Rattle.std.specs.Prelude.{◌++◌, codes, decimal}
use Rattle.byte_lines.specs.Bytes.{Bytes}
use Rattle.source.specs.declared.ends.Fault.{Fault}
use Rattle.source.specs.declared.ends.End.{End}
use Rattle.source.specs.declared.ends.End.TheVariants.{Clean, Faulty}

abbrev pub fault_text : Fault → Bytes
fault_text f = decimal f.number ++ (codes " " ++ (decimal f.layer ++ (codes " " ++ decimal f.place)))

abbrev pub end_text : End → Bytes
end_text Clean = codes "clean"
end_text (Faulty f) = codes "fault " ++ fault_text f
