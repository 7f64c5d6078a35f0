use Rattle.chunked.proofs.Automaton.{sound_so_far, taken_decides, nothing_lost}
use Rattle.chunked.proofs.ReadsWritten.{reads_what_is_written}
use Rattle.chunked.proofs.Outcomes.{clean_is_written, size_fault_place, data_fault_place}
use Rattle.chunked.proofs.laws.framing_laws.Goals as goal

pub returns : goal.returns
returns c =
    record {
      reads = reads_what_is_written;
      clean = clean_is_written;
      sound = sound_so_far;
      decides = taken_decides;
      size = size_fault_place;
      content = data_fault_place;
      whole = nothing_lost;
    }
