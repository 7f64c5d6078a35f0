-- What was packed is read back.
use Rattle.std.proofs.Common.{◌≡◌, ℕ, suc, ◌+◌, ◌-◌, List, [], ◌∷◌, ◌++◌, length, take, drop, replicate, refl, ap, ◌∙◌, arith}
use Rattle.std.proofs.lemmas.List.{append_assoc, drop_at, take_at, length-append}
use Rattle.byte_lines.specs.Bytes.{Bytes}
use Rattle.head.specs.Fields.{Field}
use Rattle.head.specs.Packing.{packed, records, record_at, no_record}
use Rattle.head.specs.Lookup.{field_at, fields_in}
use Rattle.head.specs.PackingLaw.{PackingGivesBack}

pub length-records : (start : ℕ) (fs : List Field) → length (records start fs) ≡ length fs
unfolding records
length-records start [] = refl
length-records start (f ∷ fs) = ap suc (length-records (start + length f.name + length f.value) fs)

-- xs stands between p and q
part_at : (p xs q : Bytes) (start n : ℕ) → length p ≡ start → length xs ≡ n → take n (drop start (p ++ (xs ++ q))) ≡ xs
part_at p xs q start n s l = ap (take n) (drop_at p (xs ++ q) start s) ∙ take_at xs q n l

same_field : (f g : Field) → f.name ≡ g.name → f.value ≡ g.value → f ≡ g
same_field f g n v = ap (λ (x : Bytes). record { name = x; value = f.value }) n ∙ ap (λ (x : Bytes). record { name = g.name; value = x }) v

-- the records of fields that are packed behind p
read_back : (fs : List Field) (p q : Bytes) (start : ℕ) → length p ≡ start → fields_in (p ++ (packed fs ++ q)) (records start fs) ≡ fs
unfolding packed records
read_back [] p q start e = refl
read_back (f ∷ fs) p q start e =
    let buffer = p ++ ((f.name ++ (f.value ++ packed fs)) ++ q) in
    let front : buffer ≡ p ++ (f.name ++ (f.value ++ (packed fs ++ q))) = simp append_assoc in
    let middle : buffer ≡ (p ++ f.name) ++ (f.value ++ (packed fs ++ q)) = simp append_assoc in
    let back : buffer ≡ ((p ++ f.name) ++ f.value) ++ (packed fs ++ q) = simp append_assoc in
    let ln = length-append p f.name in
    let lv = length-append (p ++ f.name) f.value in
    let n : take (length f.name) (drop start buffer) ≡ f.name = ap (λ (b : Bytes). take (length f.name) (drop start b)) front ∙ part_at p f.name (f.value ++ (packed fs ++ q)) start (length f.name) e refl in
    let v : take (length f.value) (drop (start + length f.name) buffer) ≡ f.value = ap (λ (b : Bytes). take (length f.value) (drop (start + length f.name) b)) middle ∙ part_at (p ++ f.name) f.value (packed fs ++ q) (start + length f.name) (length f.value) (omega arith) refl in
    let rest = ap (λ (b : Bytes). fields_in b (records (start + length f.name + length f.value) fs)) back ∙ read_back fs ((p ++ f.name) ++ f.value) q (start + length f.name + length f.value) (omega arith) in
    let first = same_field (field_at buffer (record_at start f)) f n v in
    cc

pub packing_gives_back : PackingGivesBack
packing_gives_back fs buffer table =
    let whole = packed fs ++ (replicate (8192 - length (packed fs)) 0 ++ drop 8192 buffer) in
    let ts = take_at (records 0 fs) (replicate (64 - length (records 0 fs)) no_record ++ drop 64 table) (length fs) (length-records 0 fs) in
    ap (fields_in whole) ts ∙ read_back fs [] (replicate (8192 - length (packed fs)) 0 ++ drop 8192 buffer) 0 refl
