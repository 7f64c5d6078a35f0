use Rattle.std.proofs.Common.{◌≡◌}
use Rattle.head.specs.Media.{parameters}
use Rattle.head.specs.MediaReads.{later_pieces, boundary_in, found_of}
use Rattle.head.proofs.MediaParts.{verdict, left_of}
use Rattle.head.proofs.media.parameters.boundary_in.Given as goal

abbrev pub invariant-loop-rest : goal.invariant-loop-rest
invariant-loop-rest l = verdict (found_of l.found) (parameters (later_pieces l.rest)) ≡ boundary_in (parameters (later_pieces l.behind))

abbrev pub decreases-loop-rest : goal.decreases-loop-rest
decreases-loop-rest l = left_of l.rest
