use Rattle.std.proofs.Common.{◌≡◌, ◌+◌, drop}
use Rattle.head.specs.Media.{outside}
use Rattle.head.specs.MediaReads.{quote_of, piece_length}
use Rattle.head.proofs.media.pieces.piece_len.Given as goal

abbrev pub invariant-loop-i : goal.invariant-loop-i
invariant-loop-i l = l.i + piece_length (quote_of l.place) (drop l.i l.value) ≡ piece_length outside l.value
