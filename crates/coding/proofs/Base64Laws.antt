-- The laws of base64.
use Rattle.std.proofs.Common.{◌≡◌, ℕ, suc, ◌+◌, ◌*◌, ◌/◌, ◌%◌, ◌<◌, ◌≤◌, Bool, true, false, eqb, List, [], ◌∷◌, ◌++◌, map, length, get_or, Some, None, Option, sym, refl, ap, ◌∙◌, arith}
use Rattle.std.specs.List.{range_with_len, flat_map}
use Rattle.std.proofs.lemmas.List.FromFn.{get_or-map-range_with_len}
use Rattle.std.proofs.lemmas.List.{get_or-map}
use Rattle.std.proofs.lemmas.Bool.{ne_eqb}
use Rattle.byte_lines.specs.Bytes.{Bytes}
use Rattle.source.specs.declared.ends.Fault.{Fault}
use Rattle.source.specs.declared.ends.End.TheVariants.{Clean}
use Rattle.source.specs.Meanings.{fault}
use Rattle.coding.specs.Decoding.{gives, prefixed}
use Rattle.coding.specs.Base64.{sextet, keeping, sextets, bits, octets, data_part, has_equals, base64_end, base64_from}
use Rattle.coding.specs.Base64Laws.{alphabet, letter, encoded, Counts, NeverLonger, RoundTrip, IgnoresOthers, Base64Law}
use Rattle.coding.specs.Sextets.{byte1, byte2, byte3}
use Rattle.coding.proofs.Base64Steps.{length-octets, length-bits, octets-two, octets-three, from_character, from_equals, from_end, group_is}

length-sextets : (bs : Bytes) → length (sextets bs) ≤ length bs
unfolding sextets
length-sextets [] = omega arith
length-sextets (b ∷ bs) =
    let ih = length-sextets bs in
    let kept : (o : Option ℕ) → length (keeping o (sextets bs)) ≤ suc (length bs) = λ o. elim o as (λ (p : Option ℕ). length (keeping p (sextets bs)) ≤ suc (length bs)) [ Some v ↦ omega arith | None ↦ omega arith ] in
    kept (sextet b)

length-data_part : (bs : Bytes) → length (data_part bs) ≤ length bs
unfolding data_part
length-data_part [] = omega arith
length-data_part (b ∷ bs) =
    let ih = length-data_part bs in
    let Part : Bool → Bytes = λ t. elim t [ true ↦ [] | false ↦ b ∷ data_part bs ] in
    let cut : (t : Bool) → length (Part t) ≤ suc (length bs) = λ t. elim t as (λ (u : Bool). length (Part u) ≤ suc (length bs)) [ true ↦ omega arith | false ↦ omega arith ] in
    cut (eqb b 61)

counts : Counts
unfolding base64_from
counts at raw e = length-octets (flat_map bits (sextets (data_part raw))) ∙ ap (λ (n : ℕ). n / 8) (length-bits (sextets (data_part raw)))

never_longer : NeverLonger
never_longer at raw e = let c = counts at raw e in let s = length-sextets (data_part raw) in let d = length-data_part raw in omega arith

-- the whole alphabet by one computation
sextet-letter : (v : ℕ) → v < 64 → sextet (letter v) ≡ Some v
sextet-letter v h =
    let table : map sextet alphabet ≡ map Some (range_with_len 0 64) = refl in
    sym (get_or-map sextet alphabet v 0 None h) ∙ ap (λ (os : List (Option ℕ)). get_or os v None) table ∙ get_or-map-range_with_len Some 0 64 v v None h (omega arith)

-- the bytes of the characters that encode them
back1 : (a b : ℕ) → b < 256 → byte1 (a / 4) (a % 4 * 16 + b / 16) ≡ a
back1 a b h = omega arith

back2 : (a b c : ℕ) → b < 256 → c < 256 → byte2 (a % 4 * 16 + b / 16) (b % 16 * 4 + c / 64) ≡ b
back2 a b c h k = omega arith

back3 : (b c : ℕ) → c < 256 → byte3 (b % 16 * 4 + c / 64) (c % 64) ≡ c
back3 b c h = omega arith

round_trip : RoundTrip
unfolding encoded octets
round_trip [] small at = from_end [] at Clean
round_trip (a ∷ []) small at =
    let v1 = a / 4 in
    let v2 = a % 4 * 16 in
    let s1 = sextet-letter v1 (omega arith) in
    let s2 = sextet-letter v2 (omega arith) in
    let back : byte1 v1 v2 ≡ a = omega arith in
    from_character [] at (letter v1) v1 (letter v2 ∷ (61 ∷ (61 ∷ []))) Clean s1
    ∙ from_character (v1 ∷ []) (at + 1) (letter v2) v2 (61 ∷ (61 ∷ [])) Clean s2
    ∙ from_equals (v1 ∷ (v2 ∷ [])) (at + 1 + 1) (61 ∷ []) Clean
    ∙ ap (λ (t : Bytes). gives t Clean) (octets-two v1 v2 ∙ ap (λ (n : ℕ). n ∷ []) back)
round_trip (a ∷ b ∷ []) small at =
    let v1 = a / 4 in
    let v2 = a % 4 * 16 + b / 16 in
    let v3 = b % 16 * 4 in
    let s1 = sextet-letter v1 (omega arith) in
    let s2 = sextet-letter v2 (omega arith) in
    let s3 = sextet-letter v3 (omega arith) in
    let first = back1 a b (omega arith) in
    let second : byte2 v2 v3 ≡ b = omega arith in
    from_character [] at (letter v1) v1 (letter v2 ∷ (letter v3 ∷ (61 ∷ []))) Clean s1
    ∙ from_character (v1 ∷ []) (at + 1) (letter v2) v2 (letter v3 ∷ (61 ∷ [])) Clean s2
    ∙ from_character (v1 ∷ (v2 ∷ [])) (at + 1 + 1) (letter v3) v3 (61 ∷ []) Clean s3
    ∙ from_equals (v1 ∷ (v2 ∷ (v3 ∷ []))) (at + 1 + 1 + 1) [] Clean
    ∙ ap (λ (t : Bytes). gives t Clean) (octets-three v1 v2 v3 ∙ ap (λ (n : ℕ). n ∷ (byte2 v2 v3 ∷ [])) first ∙ ap (λ (n : ℕ). a ∷ (n ∷ [])) second)
round_trip (a ∷ b ∷ c ∷ s) small at =
    let v1 = a / 4 in
    let v2 = a % 4 * 16 + b / 16 in
    let v3 = b % 16 * 4 + c / 64 in
    let v4 = c % 64 in
    let s1 = sextet-letter v1 (omega arith) in
    let s2 = sextet-letter v2 (omega arith) in
    let s3 = sextet-letter v3 (omega arith) in
    let s4 = sextet-letter v4 (omega arith) in
    let first = back1 a b (omega arith) in
    let second = back2 a b c (omega arith) (omega arith) in
    let third = back3 b c (omega arith) in
    group_is (letter v1) (letter v2) (letter v3) (letter v4) v1 v2 v3 v4 s1 s2 s3 s4 at (encoded s) Clean
    ∙ ap (prefixed (byte1 v1 v2 ∷ (byte2 v2 v3 ∷ (byte3 v3 v4 ∷ [])))) (round_trip s small.1.1.1 (at + 4))
    ∙ ap (λ (n : ℕ). gives (n ∷ (byte2 v2 v3 ∷ (byte3 v3 v4 ∷ s))) Clean) first
    ∙ ap (λ (n : ℕ). gives (a ∷ (n ∷ (byte3 v3 v4 ∷ s))) Clean) second
    ∙ ap (λ (n : ℕ). gives (a ∷ (b ∷ (n ∷ s))) Clean) third

-- the characters that count are the same without a byte that stands for nothing
same_characters : (s t : Bytes) (b : ℕ) → sextet b ≡ None → eqb b 61 ≡ false → sextets (data_part (s ++ (b ∷ t))) ≡ sextets (data_part (s ++ t))
unfolding data_part sextets
same_characters [] t b none other = rw (other, data_part) (rw (none, sextets))
same_characters (x ∷ s) t b none other =
    let Part : Bool → Bytes → List ℕ = λ u r. sextets (elim u [ true ↦ [] | false ↦ x ∷ r ]) in
    let ih = same_characters s t b none other in
    let cut : (u : Bool) → Part u (data_part (s ++ (b ∷ t))) ≡ Part u (data_part (s ++ t)) = λ u. elim u as (λ (v : Bool). Part v (data_part (s ++ (b ∷ t))) ≡ Part v (data_part (s ++ t))) [
      | true ↦ refl
      | false ↦ ap (keeping (sextet x)) ih
    ] in
    cut (eqb x 61)

-- whether a character is left over decides alone whether the end is clean
clean_over : (over equals equals' : Bool) (f f' : Fault) → base64_end over equals f Clean ≡ Clean → base64_end over equals' f' Clean ≡ Clean
clean_over true true equals' f f' h = absurd (let z : ◌≡◌ {A = ℕ} 0 1 = cc in omega arith)
clean_over true false equals' f f' h = absurd (let z : ◌≡◌ {A = ℕ} 0 1 = cc in omega arith)
clean_over false equals equals' f f' h = refl

ignores_others : IgnoresOthers
unfolding base64_from
ignores_others s t b none other at e =
    let same = same_characters s t b none (ne_eqb b 61 other) in (
      ap (λ (vs : List ℕ). octets (flat_map bits vs)) same,
      λ h. clean_over (eqb (length (sextets (data_part (s ++ t))) % 4) 1) (has_equals (s ++ (b ∷ t))) (has_equals (s ++ t)) (fault 51 5 (at + length (data_part (s ++ (b ∷ t))))) (fault 51 5 (at + length (data_part (s ++ t))))
          (ap (λ (vs : List ℕ). base64_end (eqb (length vs % 4) 1) (has_equals (s ++ (b ∷ t))) (fault 51 5 (at + length (data_part (s ++ (b ∷ t))))) Clean) (sym same) ∙ h),
    )

pub base64_law : Base64Law
base64_law = record { counts = counts; never_longer = never_longer; round_trip = round_trip; ignores_others = ignores_others }
