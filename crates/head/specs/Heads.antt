-- What reading a head answers, and what it leaves. Assumes nothing.
use Rattle.std.specs.Prelude.{ℕ, Bool, true, false, cond, ◌&&◌, List, [], ◌∷◌, length, nat_le, Result, Ok, Err}
use Rattle.byte_lines.specs.Bytes.{Bytes, Answer}
use Rattle.byte_lines.specs.Lines.{lines}
use Rattle.coding.specs.Codings.{coding_number}
use Rattle.head.specs.declared.heads.Head.{Head}
use Rattle.head.specs.declared.heads.Head.TheVariants.{Leaf, Group}
use Rattle.head.specs.declared.heads.HeadError.{HeadError}
use Rattle.head.specs.declared.heads.HeadError.TheVariants.{Fault, Short}
use Rattle.head.specs.declared.table.Record.{Record}
use Rattle.head.specs.BoundaryBytes.{boundary_bytes}
use Rattle.head.specs.Fields.{Field, fields_of}
use Rattle.head.specs.Judging.{fault_number}
use Rattle.head.specs.LineFaults.{Verdict, passes, faulty, judged}
use Rattle.head.specs.Entities.{Entity, leaf, group, refused, entity}
use Rattle.head.specs.Packing.{buffer_after, table_after}

-- 1 a leaf, 2 a group, a fault by its own number; 0 the refusal 2
abbrev pub answer : Result Head HeadError → Answer
answer (Ok (Leaf fields coding marks)) = (1, fields ∷ (coding_number coding ∷ (marks ∷ [])))
answer (Ok (Group fields boundary)) = (2, fields ∷ boundary_bytes boundary)
answer (Err (Fault f)) = (fault_number f.fault, f.offset ∷ [])
answer (Err Short) = (0, 2 ∷ [])

-- the answer, and the fields that are laid out: none for a fault
abbrev pub opened : Entity → List Field → Answer × List Field
opened (leaf coding marks) fs = ((1, length fs ∷ (coding ∷ (marks ∷ []))), fs)
opened (group boundary) fs = ((2, length fs ∷ boundary), fs)
opened (refused number) fs = ((number, 0 ∷ []), [])

abbrev pub told : (around : ℕ) → Verdict → List Field → Answer × List Field
told around (passes n) fs = opened (entity around fs) fs
told around (faulty number offset) fs = ((number, offset ∷ []), [])

-- what a head's lines say, where so many groups are open around it
abbrev pub head_says : (around : ℕ) → Bytes → Answer × List Field
head_says around s = told around (judged 0 0 (lines s)) (fields_of (lines s))

abbrev pub laid_out : Answer × List Field → Bytes → List Record → Answer × Bytes × List Record
laid_out p buffer table = (p.0, buffer_after p.1 buffer, table_after p.1 table)

-- the whole result of reading a head: the answer, the head buffer and the table
abbrev pub head_read : (around : ℕ) (head buffer : Bytes) → List Record → Answer × Bytes × List Record
head_read around s buffer table =
    cond (nat_le 8192 (length buffer) && nat_le 64 (length table)) (laid_out (head_says around s) buffer table) ((0, 2 ∷ []), buffer, table)

-- whether buffer and table are long enough, and both with no field in them then, else as they are
abbrev pub head_cleared : (buffer : Bytes) → List Record → Bool × Bytes × List Record
head_cleared buffer table =
    cond (nat_le 8192 (length buffer) && nat_le 64 (length table)) (true, buffer_after [] buffer, table_after [] table) (false, buffer, table)
