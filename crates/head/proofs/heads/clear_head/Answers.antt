use Rattle.std.proofs.Common.{[], ap, is_ok}
use Rattle.std.proofs.lemmas.Option.{MatchOption-at_some, MatchOption-at_none}
use Rattle.std.proofs.lemmas.Result.{err_from_is_err_and}
use Rattle.head.proofs.HeadReads.{buffer_laid, table_laid, front_kept, is_cleared, not_cleared}
use Rattle.head.proofs.heads.clear_head.Goals as goal

pub returns-in_err-table : goal.returns-in_err-table
returns-in_err-table c =
    let p = err_from_is_err_and c.from_residual-in_err-table.result c.from_residual-in_err-table.ensures.1 in
    let f = MatchOption-at_some _ _ c.in_ok-buffer.buffer c.in_ok-buffer.ensures.ok_part c.first_chunk_mut.ensures.cases in
    not_cleared c.args.buffer.now c.args.table.now (ap is_ok p.1) (MatchOption-at_none _ _ c.in_err-table.ensures.ok_part c.first_chunk_mut-2.ensures.cases) (front_kept f)

pub returns : goal.returns
returns c =
    let f = MatchOption-at_some _ _ c.in_ok-buffer.buffer c.in_ok-buffer.ensures.ok_part c.first_chunk_mut.ensures.cases in
    let g = MatchOption-at_some _ _ c.in_ok-table.table c.in_ok-table.ensures.ok_part c.first_chunk_mut-2.ensures.cases in
    is_cleared c.args.buffer.now c.args.table.now f.enough g.enough (buffer_laid [] c.args.buffer.now c.clear.ensures.bytes)
    (table_laid [] c.args.table.now c.clear.ensures.records)
