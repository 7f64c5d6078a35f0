-- Laws of the parcels that a list of lengths cuts.
use Rattle.std.proofs.Common.{◌≡◌, ℕ, zero, suc, ◌+◌, ◌-◌, ◌<◌, ◌≤◌, min, List, [], ◌∷◌, ◌++◌, length, take, drop, Err, Result, sym, refl, ap, ◌∙◌, ⊎_elim, append-nil, arith}
use Rattle.std.specs.List.{flat_map, AllWithin}
use Rattle.std.proofs.lemmas.List.{take-append-drop, take_all, drop_all, drop-take, drop-drop, length-take, nil_from_length}
use Rattle.std.proofs.lemmas.Bool.{cases_lt}
use Rattle.byte_lines.specs.Bytes.{Bytes, Answer}
use Rattle.source.specs.Meanings.{Meaning, means, answer, gave, ended}
use Rattle.source.proofs.Pulling.{Told, not_gave, same_count}
use Rattle.source.specs.declared.ends.End.{End}
use Rattle.source.specs.declared.ends.End.TheVariants.{Clean}
use Rattle.source.specs.Slices.{most, before, cut, portion}

joined-before : (p : Bytes) (ps : List Bytes) → flat_map (λ (q : Bytes). q) (before p ps) ≡ p ++ flat_map (λ (q : Bytes). q) ps
joined-before [] ps = refl
joined-before (b ∷ bs) ps = refl

-- the parcels, joined, are the slice
pub joined-cut : (ns : List ℕ) (s : Bytes) → flat_map (λ (q : Bytes). q) (cut ns s) ≡ s
unfolding cut
joined-cut [] s = joined-before s [] ∙ append-nil s
joined-cut (n ∷ ns) s =
    joined-before (take n s) (cut ns (drop n s)) ∙ ap (λ (t : Bytes). take n s ++ t) (joined-cut ns (drop n s)) ∙ take-append-drop n s

-- a zero length is passed over
pub cut-zero : (ns : List ℕ) (s : Bytes) → cut (0 ∷ ns) s ≡ cut ns s
unfolding cut
cut-zero ns s = refl

pub cut-none : (n : ℕ) (ns : List ℕ) (s : Bytes) → n ≡ 0 → cut (n ∷ ns) s ≡ cut ns s
cut-none n ns s z = ap (λ (k : ℕ). cut (k ∷ ns) s) z ∙ cut-zero ns s

-- as are those before i
pub cut_passed : (ns : List ℕ) (i : ℕ) (s : Bytes) → i ≤ length ns → AllWithin (λ n. n ≡ 0) ns 0 i → cut ns s ≡ cut (drop i ns) s
cut_passed ns zero s le zeros = refl
cut_passed [] (suc i) s le zeros = absurd (omega arith)
cut_passed (n ∷ ns) (suc i) s le zeros =
    cut-none n ns s (zeros 0 0 (omega arith) (omega arith)) ∙ cut_passed ns i s (omega arith) (λ k d low high. zeros (suc k) d (omega arith) (omega arith))

-- the whole slice as one more parcel
pub cut_all : (n : ℕ) (s : Bytes) → length s ≤ n → cut (n ∷ []) s ≡ cut [] s
unfolding cut
cut_all n s e =
    let t = take_all n s (omega arith) in
    let d = drop_all n s (omega arith) in
    ap (λ (p : Bytes). before p (before (drop n s) [])) t ∙ ap (λ (p : Bytes). before s (before p [])) d

before_some : (p : Bytes) (ps : List Bytes) → 0 < length p → before p ps ≡ p ∷ ps
before_some [] ps h = absurd (omega arith)
before_some (b ∷ bs) ps h = refl

portion_some : (room : ℕ) (p : Bytes) (ps : List Bytes) → 0 < room → portion room (p ∷ ps) ≡ (gave (min room (length p)), before (drop room p) ps)
portion_some zero p ps h = absurd (omega arith)
portion_some (suc room) p ps h = refl

drop_least : (n room : ℕ) (p : Bytes) → n ≡ min room (length p) → drop n p ≡ drop room p
drop_least n room p e =
    ⊎_elim (λ lt. let z : n ≡ room = omega arith in ap (λ (k : ℕ). drop k p) z)
    (λ le. let z : length p ≤ n = omega arith in drop_all n p z ∙ sym (drop_all room p le)) (cases_lt room (length p))

-- n bytes of the first parcel, which has `left` of them
pub cut-portion : (left n : ℕ) (ns : List ℕ) (s : Bytes) (room : ℕ) → 0 < left → 0 < room → 0 < length s → n ≡ min (min left (length s)) room
    → ◌≡◌ {A = Answer × List Bytes} (gave n, cut ((left - n) ∷ ns) (drop n s)) (portion room (cut (left ∷ ns) s))
unfolding cut
cut-portion left n ns s room l r h e =
    let p = take left s in
    let lp : length p ≡ min left (length s) = length-take left s in
    let some = before_some p (cut ns (drop left s)) (omega arith) in
    let whole = portion_some room p (cut ns (drop left s)) r in
    let m : n + (left - n) ≡ left = omega arith in
    let front : take (left - n) (drop n s) ≡ drop n p = sym (drop-take n (left - n) s) ∙ ap (λ (k : ℕ). drop n (take k s)) m in
    let back : drop (left - n) (drop n s) ≡ drop left s = drop-drop (left - n) n s ∙ ap (λ (k : ℕ). drop k s) m in
    let least = drop_least n room p (omega arith) in
    let count : n ≡ min room (length p) = omega arith in
    cc

portion-none : (room : ℕ) (ps : List Bytes) → 0 < room → ps ≡ [] → ◌≡◌ {A = Answer × List Bytes} (ended Clean, ps) (portion room ps)
portion-none zero ps h e = absurd (omega arith)
portion-none (suc room) ps h e = cc

cut-nothing : (ns : List ℕ) → cut ns [] ≡ []
unfolding cut
cut-nothing [] = refl
cut-nothing (n ∷ ns) =
    let t = take_all {A = ℕ} n [] (omega arith) in
    let d = drop_all {X = ℕ} n [] (omega arith) in
    ap (λ (p : Bytes). before p (cut ns (drop n []))) t ∙ ap (λ (p : Bytes). cut ns p) d ∙ cut-nothing ns

-- no bytes are left
pub cut_end : (ns : List ℕ) (s : Bytes) (room : ℕ) → length s ≡ 0 → 0 < room → ◌≡◌ {A = Answer × List Bytes} (ended Clean, cut ns s) (portion room (cut ns s))
cut_end ns s room z h = portion-none room (cut ns s) h (ap (cut ns) (nil_from_length s z) ∙ cut-nothing ns)

-- what a pull gives that fills as much as it can of a buffer's front, which is as long as the parcel or the buffer
pub portioned : (left n : ℕ) (ns : List ℕ) (s s' f front : Bytes) (room : ℕ) → 0 < left → length f ≡ min left room
    → ◌≡◌ {A = Answer × Meaning × Bytes} (gave n, means s' Clean, front) (most (means s Clean) f)
    → ◌≡◌ {A = Answer × List Bytes} (gave n, cut ((left - n) ∷ ns) s') (portion room (cut (left ∷ ns) s))
portioned left n ns s s' [] front zero some long h =
    let none : n ≡ 0 = same_count n 0 (ap (λ x. x.0) h) in
    let same : s' ≡ s = ap (λ x. x.1.coming) h in
    let all : left - n ≡ left = omega arith in
    cc
portioned left n ns s s' [] front (suc room) some long h = absurd (omega arith)
portioned left n ns [] s' (b ∷ bs) front room some long h = absurd (not_gave Clean n (sym (ap (λ x. x.0) h)))
portioned left n ns (x ∷ xs) s' (b ∷ bs) front room some long h =
    let count : n ≡ min (length (x ∷ xs)) (length (b ∷ bs)) = same_count n _ (ap (λ x. x.0) h) in
    let same : s' ≡ drop n (x ∷ xs) = ap (λ x. x.1.coming) h ∙ ap (λ (k : ℕ). drop k (x ∷ xs)) (sym count) in
    ap (λ (t : Bytes). (gave n, cut ((left - n) ∷ ns) t)) same ∙ cut-portion left n ns (x ∷ xs) room some (omega arith) (omega arith) (omega arith)

-- and where it tells the end
pub portion-ended : (r : Result ℕ End) (ns : List ℕ) (s s' f front : Bytes) (e : End) (room : ℕ) → r ≡ Err e → length f ≤ room
    → Told (means s Clean) f e (means s' Clean) front → ◌≡◌ {A = Answer × List Bytes} (answer r, cut ns s') (portion room (cut ns s))
portion-ended r ns s s' f front e room is fits t =
    let same : s' ≡ s = ap (λ x. x.coming) t.after in
    let clean : e ≡ Clean = t.is in
    ap (λ (x : Result ℕ End). (answer x, cut ns s')) is ∙ ap (λ (x : Bytes). (ended e, cut ns x)) same ∙ ap (λ (x : End). (ended x, cut ns s)) clean ∙ cut_end ns s room (ap length t.none) (omega (arith, t.asked))
