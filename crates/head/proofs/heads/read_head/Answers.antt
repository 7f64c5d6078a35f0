use Rattle.std.proofs.Common.{◌≡◌, sym}
use Rattle.std.proofs.lemmas.Option.{MatchOption-at_some, MatchOption-at_none}
use Rattle.std.proofs.lemmas.Result.{err_from_is_err_and}
use Rattle.head.specs.declared.heads.HeadError.TheVariants.{Short}
use Rattle.head.specs.Heads.{head_says}
use Rattle.head.proofs.HeadReads.{buffer_laid, table_laid, front_kept, is_read, not_read, on_ok, on_err}
use Rattle.head.proofs.heads.read_head.Goals as goal

pub returns-in_err-table : goal.returns-in_err-table
returns-in_err-table c =
    let p = err_from_is_err_and c.from_residual-in_err-table.result c.from_residual-in_err-table.ensures.1 in
    let f = MatchOption-at_some _ _ c.in_ok-buffer.buffer c.in_ok-buffer.ensures.ok_part c.first_chunk_mut.ensures.cases in
    let v = rw c.in_err-table.ensures.ok_part at c.in_err-table.ensures.value in
    let e : c.in_err-table.field-0.0 ≡ Short = cc in
    not_read c.args.buffer.now c.args.table.now c.args.around c.args.head.now (rw (p.1, p.2, e)) (MatchOption-at_none _ _ c.in_err-table.ensures.ok_part c.first_chunk_mut-2.ensures.cases) (front_kept f)

pub returns-then-is_err : goal.returns-then-is_err
returns-then-is_err c =
    let f = MatchOption-at_some _ _ c.in_ok-buffer.buffer c.in_ok-buffer.ensures.ok_part c.first_chunk_mut.ensures.cases in
    let g = MatchOption-at_some _ _ c.in_ok-table.table c.in_ok-table.ensures.ok_part c.first_chunk_mut-2.ensures.cases in
    let r = c.read_into-read in
    let none = on_err r.result (sym c.if-is_err.ensures.value) r.ensures.faulty in
    is_read c.args.buffer.now c.args.table.now c.args.around c.args.head.now r.ensures.answers f.enough g.enough
    (buffer_laid (head_says c.args.around c.args.head.now).1 c.args.buffer.now (rw none c.clear.ensures.bytes))
    (table_laid (head_says c.args.around c.args.head.now).1 c.args.table.now (rw none c.clear.ensures.records))

pub returns-else-is_err : goal.returns-else-is_err
returns-else-is_err c =
    let f = MatchOption-at_some _ _ c.in_ok-buffer.buffer c.in_ok-buffer.ensures.ok_part c.first_chunk_mut.ensures.cases in
    let g = MatchOption-at_some _ _ c.in_ok-table.table c.in_ok-table.ensures.ok_part c.first_chunk_mut-2.ensures.cases in
    let r = c.read_into-read in
    let l = on_ok r.result (sym c.if-is_err.ensures.value) r.ensures.laid in
    is_read c.args.buffer.now c.args.table.now c.args.around c.args.head.now r.ensures.answers f.enough g.enough
    (buffer_laid (head_says c.args.around c.args.head.now).1 c.args.buffer.now l.0)
    (table_laid (head_says c.args.around c.args.head.now).1 c.args.table.now l.1)
