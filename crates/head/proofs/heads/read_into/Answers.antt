use Rattle.std.proofs.Common.{◌≡◌, ℕ, List, [], ◌∷◌, sym, ap, ◌∙◌}
use Rattle.std.proofs.lemmas.Result.{err_from_is_err_and}
use Rattle.byte_lines.specs.Bytes.{Answer}
use Rattle.byte_lines.specs.Lines.{lines}
use Rattle.coding.specs.Codings.{coding_number}
use Rattle.head.specs.BoundaryBytes.{boundary_bytes}
use Rattle.head.specs.Entities.{Entity, leaf, group, refused, entity}
use Rattle.head.specs.Fields.{Field, fields_of}
use Rattle.head.specs.Heads.{opened, head_says}
use Rattle.head.specs.Judging.{fault_number}
use Rattle.head.specs.Packing.{packed, records, no_record}
use Rattle.head.specs.Packs.{padded}
use Rattle.head.proofs.HeadReads.{decided}
use Rattle.head.proofs.heads.read_into.Goals as goal
use Rattle.head.proofs.heads.read_into.Goals.{After-decide}

-- what was decided over the packed fields, and what was packed, is what the head says
said : (c : After-decide) (x : Entity) → x ≡ entity c.args.around c.new.result → opened x (fields_of (lines c.args.head.now)) ≡ head_says c.args.around c.args.head.now
said c x e =
    decided c.args.around c.pack-count.result c.in_ok-judge.field-0 x c.args.head.now c.pack-count.new.buffer c.pack-count.new.table c.in_ok-judge.ensures
    c.pack-count.ensures.count c.pack-count.ensures.bytes c.pack-count.ensures.records (e ∙ ap (entity c.args.around) c.new.ensures)

pub returns-in_err-coding-clause-answers : goal.returns-in_err-coding-clause-answers
returns-in_err-coding-clause-answers c =
    let d = (goal.at.returns-in_err-coding-clause-answers c).After-decide in
    let p = err_from_is_err_and c.from_residual-in_err-coding.result c.from_residual-in_err-coding.ensures.1 in
    rw (p.1, p.2) (ap (λ (q : Answer × List Field). q.0) (said d (refused (fault_number c.in_err-coding.field-0.0)) c.in_err-coding.ensures))

pub returns-in_err-coding-clause-faulty : goal.returns-in_err-coding-clause-faulty
returns-in_err-coding-clause-faulty c =
    let d = (goal.at.returns-in_err-coding-clause-faulty c).After-decide in
    let p = err_from_is_err_and c.from_residual-in_err-coding.result c.from_residual-in_err-coding.ensures.1 in
    rw p.1 (sym (ap (λ (q : Answer × List Field). q.1) (said d (refused (fault_number c.in_err-coding.field-0.0)) c.in_err-coding.ensures)))

pub returns-in-Leaf : goal.returns-in-Leaf
returns-in-Leaf c =
    let d = (goal.at.returns-in-Leaf c).After-decide in
    let s = said d (leaf (coding_number c.in-Leaf.coding) c.in-Leaf.marks) (rw c.in-Leaf.is at c.in_ok-coding.ensures) in
    record {
      answers = ap (λ (k : ℕ). (1, k ∷ (coding_number c.in-Leaf.coding ∷ (c.in-Leaf.marks ∷ [])))) c.pack-count.ensures.count ∙ ap (λ (q : Answer × List Field). q.0) s;
      faulty = tt;
      laid = (
        c.pack-count.ensures.bytes ∙ ap (λ (q : Answer × List Field). padded 0 8192 (packed q.1)) s,
        c.pack-count.ensures.records ∙ ap (λ (q : Answer × List Field). padded no_record 64 (records 0 q.1)) s,
      );
    }

pub returns-in-Group : goal.returns-in-Group
returns-in-Group c =
    let d = (goal.at.returns-in-Group c).After-decide in
    let s = said d (group (boundary_bytes c.in-Group.boundary)) (rw c.in-Group.is at c.in_ok-coding.ensures) in
    record {
      answers = ap (λ (k : ℕ). (2, k ∷ boundary_bytes c.in-Group.boundary)) c.pack-count.ensures.count ∙ ap (λ (q : Answer × List Field). q.0) s;
      faulty = tt;
      laid = (
        c.pack-count.ensures.bytes ∙ ap (λ (q : Answer × List Field). padded 0 8192 (packed q.1)) s,
        c.pack-count.ensures.records ∙ ap (λ (q : Answer × List Field). padded no_record 64 (records 0 q.1)) s,
      );
    }
