use Rattle.std.proofs.Common.{sym}
use Rattle.std.proofs.lemmas.List.{take_rest}
use Rattle.head.specs.Media.{outside}
use Rattle.head.proofs.Quotes.{pieces_more}
use Rattle.head.proofs.media.pieces.first_piece.Goals as goal

pub returns-then-end-value-clause-splits : goal.returns-then-end-value-clause-splits
returns-then-end-value-clause-splits c = rw take_rest (sym (pieces_more outside c.args.value.now c.piece_len-end.result c.piece_len-end.ensures c.if-end-value.true))
