-- Fields that are packed one after another.
use Rattle.std.proofs.Common.{◌≡◌, ℕ, ◌+◌, ◌<◌, ◌≤◌, false, List, [], ◌∷◌, ◌++◌, length, take, set, sym, refl, ap, ◌∙◌, subst, append-nil, arith}
use Rattle.std.proofs.lemmas.List.{append_assoc, take_more_set, length-append, length-set, length_push, nil_from_length}
use Rattle.byte_lines.specs.Bytes.{Bytes}
use Rattle.byte_lines.specs.Lines.{lines}
use Rattle.head.specs.declared.packs.Packer.{Packer}
use Rattle.head.specs.declared.table.Record.{Record}
use Rattle.head.specs.Fields.{Field, continues, fields_of}
use Rattle.head.specs.Packing.{packed, records, record_at}
use Rattle.head.specs.Packs.{Puts, FieldPacked}
use Rattle.head.proofs.Gathers.{fields_nil}
use Rattle.head.proofs.Joining.{puts-nil, puts_both}
use Rattle.head.proofs.Passing.{Lawful}

packed_push : (fs : List Field) (f : Field) → packed (fs ++ f ∷ []) ≡ packed fs ++ (f.name ++ f.value)
unfolding packed
packed_push [] f = ap (λ (l : Bytes). f.name ++ l) (append-nil f.value)
packed_push (g ∷ gs) f =
    ap (λ (l : Bytes). g.name ++ (g.value ++ l)) (packed_push gs f) ∙ ap (λ (l : Bytes). g.name ++ l) (sym (append_assoc g.value (packed gs) (f.name ++ f.value)))
    ∙ sym (append_assoc g.name (g.value ++ packed gs) (f.name ++ f.value))

records_push : (fs : List Field) (f : Field) (start : ℕ) → records start (fs ++ f ∷ []) ≡ records start fs ++ record_at (start + length (packed fs)) f ∷ []
unfolding packed records
records_push [] f start = let z : start ≡ start + 0 = omega arith in ap (λ (k : ℕ). record_at k f ∷ []) z
records_push (g ∷ gs) f start =
    let from = start + length g.name + length g.value in
    let a = length-append g.name (g.value ++ packed gs) in
    let b = length-append g.value (packed gs) in
    let z : from + length (packed gs) ≡ start + length (g.name ++ (g.value ++ packed gs)) = omega arith in
    ap (λ (l : List Record). record_at start g ∷ l) (records_push gs f from ∙ ap (λ (k : ℕ). records from gs ++ record_at k f ∷ []) z)

abbrev row : (a b c d : ℕ) → Record
row a b c d = record { name_start = a; name_len = b; value_start = c; value_len = d }

row_is : (f : Field) (start name value : ℕ) → length f.name ≡ name → length f.value ≡ value → row start name (start + name) value ≡ record_at start f
row_is f start name value n v = ap (λ (k : ℕ). row start k (start + k) value) (sym n) ∙ ap (λ (k : ℕ). row start (length f.name) (start + length f.name) k) (sym v)

-- the fields of a head before `rest` stand in a packer and in the first n records of a table
pub record SoFar (head rest : Bytes) (old new : Packer) (table : List Record) (n : ℕ) : Type 0 where
  pub lawful : Lawful head
  pub room : n ≤ length (fields_of (lines head))
  pub wide : length table ≡ 64
  pub done : List Field
  pub splits : fields_of (lines head) ≡ done ++ fields_of (lines rest)
  pub puts : Puts old new (packed done)
  pub rows : take n table ≡ records 0 done
  pub count : length done ≡ n
  pub fits : new.to + length rest ≤ length head
  pub ends : continues rest ≡ false

pub none_yet : (head : Bytes) (p : Packer) (table : List Record) → p.to ≡ 0 → Lawful head → length table ≡ 64 → SoFar head head p p table 0
unfolding packed records
none_yet head p table z l w = record { lawful = l; room = omega arith; wide = w; done = []; splits = refl; puts = puts-nil p; rows = refl; count = refl; fits = omega arith; ends = l.starts }

module _ (head rest behind : Bytes) (old mid new : Packer) (table : List Record) (n name value : ℕ) (s : SoFar head rest old mid table n) (p : FieldPacked rest behind mid new name value) where
  -- the field is one more than those before it
  field_room : n < length (fields_of (lines head))
  field_room = omega (arith, ap length s.splits, length-append s.done (fields_of (lines rest)), ap length p.splits, s.count)

  pub one_more : old.to ≡ 0 → SoFar head behind old new (set table n (row mid.to name (mid.to + name) value)) (n + 1)
  one_more z =
      let lt : n < length table = omega (arith, field_room) in
      let f = p.first in
      let push = packed_push s.done f in
      record {
        lawful = s.lawful;
        room = omega (arith, field_room);
        wide = length-set table n (row mid.to name (mid.to + name) value) ∙ s.wide;
        done = s.done ++ f ∷ [];
        splits = s.splits ∙ ap (λ (l : List Field). s.done ++ l) p.splits ∙ sym (append_assoc s.done (f ∷ []) (fields_of (lines behind)));
        puts = subst (Puts old new) (sym push) (puts_both old mid new (packed s.done) (f.name ++ f.value) s.puts p.puts);
        rows =
            take_more_set table n (row mid.to name (mid.to + name) value) lt ∙ ap (λ (l : List Record). l ++ row mid.to name (mid.to + name) value ∷ []) s.rows
            ∙ ap (λ (r : Record). records 0 s.done ++ r ∷ []) (row_is f mid.to name value p.named p.valued)
            ∙ ap (λ (k : ℕ). records 0 s.done ++ record_at k f ∷ []) (omega (arith, s.puts.grows))
            ∙ sym (records_push s.done f 0);
        count = omega (arith, length_push s.done f, s.count);
        fits = omega (arith, p.fits, s.fits);
        ends = p.ends;
      }

-- the whole head is packed
pub all_done : (head rest : Bytes) (old new : Packer) (table : List Record) (n : ℕ) (s : SoFar head rest old new table n) → length rest ≡ 0 → s.done ≡ fields_of (lines head)
all_done head rest old new table n s h =
    sym (append-nil s.done) ∙ ap (λ (l : List Field). s.done ++ l) (sym fields_nil ∙ ap (λ (l : Bytes). fields_of (lines l)) (sym (nil_from_length rest h))) ∙ sym s.splits
