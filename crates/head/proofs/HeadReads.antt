-- The whole result of reading a head, by what its lines and fields say.
use Rattle.std.proofs.Common.{◌≡◌, ℕ, ◌-◌, ◌<◌, ◌≤◌, Bool, true, false, ◌&&◌, leb, List, [], ◌∷◌, ◌++◌, length, take, drop, replicate, Result, Ok, Err, is_err, OnOk, OnErr, refl, sym, ap, ◌∙◌, append-nil}
use Rattle.std.specs.Array.{IsFirstChunk}
use Rattle.std.proofs.lemmas.List.{append_assoc, take-append-drop}
use Rattle.std.proofs.lemmas.Bool.{true≢false, false≢true, le-leb, lt-leb, and_from, and_right}
use Rattle.byte_lines.specs.Bytes.{Bytes, Answer}
use Rattle.byte_lines.specs.Lines.{lines}
use Rattle.head.specs.declared.table.Record.{Record}
use Rattle.head.specs.Fields.{Field, fields_of}
use Rattle.head.specs.LineFaults.{Verdict, passes, judged}
use Rattle.head.specs.Entities.{Entity, entity}
use Rattle.head.specs.Packing.{laid, packed, records, no_record, buffer_after, table_after}
use Rattle.head.specs.Packs.{padded}
use Rattle.head.specs.Lookup.{fields_in}
use Rattle.head.specs.Heads.{opened, told, head_says, head_read, head_cleared}
use Rattle.head.proofs.PackingLaws.{packing_gives_back}

-- a list that was written whole, before what stood behind it
padded_laid : {A : Type 0} {new : List A} (zero : A) (n : ℕ) (xs old : List A) → new ≡ padded zero n xs → new ++ drop n old ≡ laid zero n xs old
padded_laid {A} {new} zero n xs old e = ap (λ (t : List A). t ++ drop n old) e ∙ append_assoc xs (replicate (n - length xs) zero) (drop n old)

pub buffer_laid : {new : Bytes} (fs : List Field) (old : Bytes) → new ≡ padded 0 8192 (packed fs) → new ++ drop 8192 old ≡ buffer_after fs old
buffer_laid fs old e = padded_laid 0 8192 (packed fs) old e

pub table_laid : {new : List Record} (fs : List Field) (old : List Record) → new ≡ padded no_record 64 (records 0 fs) → new ++ drop 64 old ≡ table_after fs old
table_laid fs old e = padded_laid no_record 64 (records 0 fs) old e

-- a front that was left as it is
pub front_kept : {A : Type 0} {n : ℕ} {front old : List A} → IsFirstChunk old front n → front ++ drop n old ≡ old
front_kept {A} {n} {front} {old} f = ap (λ (t : List A). t ++ drop n old) f.same ∙ take-append-drop n old

together : {A B C : Type 0} {a a' : A} {b b' : B} {c c' : C} → a ≡ a' → b ≡ b' → c ≡ c' → ◌≡◌ {A = A × B × C} (a, b, c) (a', b', c')
together p q r = cc

pub on_ok : {T E P : Type 0} (r : Result T E) → is_err r ≡ false → OnOk r P → P
on_ok (Ok x) e p = p
on_ok (Err f) e p = absurd (true≢false e)

pub on_err : {T E P : Type 0} (r : Result T E) → is_err r ≡ true → OnErr r P → P
on_err (Ok x) e p = absurd (false≢true e)
on_err (Err f) e p = p

-- the whole result, by the lengths of head buffer and table
module _ (buffer : Bytes) (table : List Record) where
  long : 8192 ≤ length buffer → 64 ≤ length table → (leb 8192 (length buffer) && leb 64 (length table)) ≡ true
  long a b = and_from (leb 8192 (length buffer)) (leb 64 (length table)) (le-leb 8192 (length buffer) a) (le-leb 64 (length table) b)

  short : length table < 64 → (leb 8192 (length buffer) && leb 64 (length table)) ≡ false
  short a = and_right (leb 8192 (length buffer)) (leb 64 (length table)) (lt-leb 64 (length table) a)

  pub is_cleared : {new : Bytes} {others : List Record} → 8192 ≤ length buffer → 64 ≤ length table → new ≡ buffer_after [] buffer → others ≡ table_after [] table → (true, new, others) ≡ head_cleared buffer table
  is_cleared a b p q = let h = long a b in together refl p q ∙ rw h

  pub not_cleared : {ok : Bool} {new : Bytes} → ok ≡ false → length table < 64 → new ≡ buffer → (ok, new, table) ≡ head_cleared buffer table
  not_cleared e a p = let h = short a in together e p refl ∙ rw h

  pub is_read : {answered : Answer} {new : Bytes} {others : List Record} (around : ℕ) (s : Bytes) → answered ≡ (head_says around s).0 → 8192 ≤ length buffer → 64 ≤ length table
      → new ≡ buffer_after (head_says around s).1 buffer → others ≡ table_after (head_says around s).1 table → (answered, new, others) ≡ head_read around s buffer table
  is_read around s e a b p q = let h = long a b in together e p q ∙ rw h

  pub not_read : {answered : Answer} {new : Bytes} (around : ℕ) (s : Bytes) → answered ≡ (0, 2 ∷ []) → length table < 64 → new ≡ buffer → (answered, new, table) ≡ head_read around s buffer table
  not_read around s e a p = let h = short a in together e p refl ∙ rw h

-- the entity that was decided over the packed fields is that of the fields, and all that the head says
pub decided : (around n m : ℕ) (x : Entity) (s buffer : Bytes) (table : List Record) → passes m ≡ judged 0 0 (lines s) → n ≡ length (fields_of (lines s)) → buffer ≡ padded 0 8192 (packed (fields_of (lines s)))
    → table ≡ padded no_record 64 (records 0 (fields_of (lines s))) → x ≡ entity around (fields_in buffer (take n table)) → opened x (fields_of (lines s)) ≡ head_says around s
decided around n m x s buffer table passed count bytes rows e =
    let fs = fields_of (lines s) in
    let b : buffer ≡ buffer_after fs [] = sym (append-nil buffer) ∙ buffer_laid fs [] bytes in
    let t : table ≡ table_after fs [] = sym (append-nil table) ∙ table_laid fs [] rows in
    let d : x ≡ entity around fs = rw (e, b, t, count) (ap (entity around) (packing_gives_back fs [] [])) in
    ap (λ (y : Entity). opened y fs) d ∙ ap (λ (v : Verdict). told around v fs) passed
