-- Base64 by one raw byte at a time, and by groups of four characters.
use Rattle.std.proofs.lemmas.Grind.{common_steps}
use Rattle.std.proofs.Common.{◌≡◌, ℕ, suc, ◌+◌, ◌*◌, ◌/◌, ◌%◌, ◌<◌, ◌≤◌, true, false, not, ◌&&◌, is_some, get_or, drop, eqb, List, [], ◌∷◌, ◌++◌, length, Some, None, Option, sym, refl, ap, ◌∙◌, inl, inr, add-zero, arith, rules}
use Rattle.std.specs.List.{flat_map}
use Rattle.std.proofs.lemmas.List.{append_assoc, append-nil}
use Rattle.std.proofs.lemmas.Bool.{eqb-true, cases_Bool, and_parts, not-true}
use Rattle.byte_lines.specs.Bytes.{Bytes}
use Rattle.source.specs.declared.ends.End.{End}
use Rattle.source.specs.Meanings.{fault}
use Rattle.coding.specs.Decoding.{gives, prefixed}
use Rattle.coding.specs.Sextets.{byte1, byte2, byte3, three_of, group_of}
use Rattle.coding.specs.Base64.{sextet, sextets, bits, octets, data_part, has_equals, base64_end, base64_from}

-- the three bytes of four characters, by their bits
byte1-bits : (a b : ℕ) → a / 32 * 128 + a / 16 % 2 * 64 + a / 8 % 2 * 32 + a / 4 % 2 * 16 + a / 2 % 2 * 8 + a % 2 * 4 + b / 32 * 2 + b / 16 % 2 ≡ byte1 a b
byte1-bits a b = grind (arith, common_steps)

byte2-bits : (b c : ℕ) → b / 8 % 2 * 128 + b / 4 % 2 * 64 + b / 2 % 2 * 32 + b % 2 * 16 + c / 32 * 8 + c / 16 % 2 * 4 + c / 8 % 2 * 2 + c / 4 % 2 ≡ byte2 b c
byte2-bits b c = grind (arith, common_steps)

byte3-bits : (c d : ℕ) → c / 2 % 2 * 128 + c % 2 * 64 + d / 32 * 32 + d / 16 % 2 * 16 + d / 8 % 2 * 8 + d / 4 % 2 * 4 + d / 2 % 2 * 2 + d % 2 ≡ byte3 c d
byte3-bits c d = grind (arith, common_steps)

octets_four : (a b c d : ℕ) (rest : List ℕ) → octets (bits a ++ (bits b ++ (bits c ++ (bits d ++ rest)))) ≡ byte1 a b ∷ (byte2 b c ∷ (byte3 c d ∷ octets rest))
unfolding octets
octets_four a b c d rest = rw (byte1-bits a b, byte2-bits b c, byte3-bits c d)

pub octets-three : (a b c : ℕ) → octets (flat_map bits (a ∷ (b ∷ (c ∷ [])))) ≡ byte1 a b ∷ (byte2 b c ∷ [])
unfolding octets
octets-three a b c = rw (byte1-bits a b, byte2-bits b c)

pub octets-two : (a b : ℕ) → octets (flat_map bits (a ∷ (b ∷ []))) ≡ byte1 a b ∷ []
unfolding octets
octets-two a b = rw (byte1-bits a b)

-- a byte that is ignored
pub from_ignored : (vs : List ℕ) (at b : ℕ) (q : Bytes) (e : End) → eqb b 61 ≡ false → sextet b ≡ None → base64_from vs at (b ∷ q) e ≡ base64_from vs (at + 1) q e
unfolding base64_from sextets data_part has_equals
from_ignored vs at b q e n s = grind (arith, common_steps)

-- a character
pub from_character : (vs : List ℕ) (at b v : ℕ) (q : Bytes) (e : End) → sextet b ≡ Some v → base64_from vs at (b ∷ q) e ≡ base64_from (vs ++ (v ∷ [])) (at + 1) q e
unfolding base64_from sextets data_part has_equals
from_character vs at b v q e s = grind (arith, common_steps)

-- four characters are three bytes
pub from_group : (a b c d at : ℕ) (q : Bytes) (e : End) → base64_from (a ∷ (b ∷ (c ∷ (d ∷ [])))) at q e ≡ prefixed (byte1 a b ∷ (byte2 b c ∷ (byte3 c d ∷ []))) (base64_from [] at q e)
unfolding base64_from
from_group a b c d at q e =
    let n = length (sextets (data_part q)) in
    let same : suc (suc (suc (suc n))) % 4 ≡ n % 4 = omega arith in
    rw (octets_four a b c d (flat_map bits (sextets (data_part q))), same)

-- a fourth one
pub from_fourth : (a b c at d v : ℕ) (q : Bytes) (e : End) → sextet d ≡ Some v → base64_from (a ∷ (b ∷ (c ∷ []))) at (d ∷ q) e ≡ prefixed (three_of a b c v) (base64_from [] (at + 1) q e)
from_fourth a b c at d v q e s = from_character (a ∷ (b ∷ (c ∷ []))) at d v q e s ∙ from_group a b c v (at + 1) q e

-- an '=' ends the data
pub from_equals : (vs : List ℕ) (at : ℕ) (q : Bytes) (e : End) → base64_from vs at (61 ∷ q) e ≡ gives (octets (flat_map bits vs)) (base64_end (eqb (length vs % 4) 1) true (fault 51 5 at) e)
unfolding base64_from sextets data_part has_equals
from_equals vs at q e = rw (append-nil vs, add-zero at)

-- the body ends
pub from_end : (vs : List ℕ) (at : ℕ) (e : End) → base64_from vs at [] e ≡ gives (octets (flat_map bits vs)) (base64_end (eqb (length vs % 4) 1) false (fault 51 5 at) e)
unfolding base64_from sextets data_part has_equals
from_end vs at e = rw (append-nil vs, add-zero at)

-- characters give no more bytes than there are of them
pub length-octets : (bs : List ℕ) → length (octets bs) ≡ length bs / 8
unfolding octets
length-octets [] = refl
length-octets (a ∷ []) = refl
length-octets (a ∷ b ∷ []) = refl
length-octets (a ∷ b ∷ c ∷ []) = refl
length-octets (a ∷ b ∷ c ∷ d ∷ []) = refl
length-octets (a ∷ b ∷ c ∷ d ∷ e ∷ []) = refl
length-octets (a ∷ b ∷ c ∷ d ∷ e ∷ f ∷ []) = refl
length-octets (a ∷ b ∷ c ∷ d ∷ e ∷ f ∷ g ∷ []) = refl
length-octets (a ∷ b ∷ c ∷ d ∷ e ∷ f ∷ g ∷ h ∷ rest) = let ih = length-octets rest in omega arith

pub length-bits : (vs : List ℕ) → length (flat_map bits vs) ≡ 6 * length vs
length-bits [] = refl
length-bits (v ∷ vs) = let ih = length-bits vs in omega arith

pub octets_fewer : (vs : List ℕ) → length (octets (flat_map bits vs)) ≤ length vs
octets_fewer vs = let n = length-octets (flat_map bits vs) in let m = length-bits vs in omega arith

pub step_equals : (vs : List ℕ) (at : ℕ) (q : Bytes) (e : End) → base64_from vs at (61 ∷ q) e ≡ prefixed (octets (flat_map bits vs)) (gives [] (base64_end (eqb (length vs % 4) 1) true (fault 51 5 at) e))
step_equals vs at q e = rw append-nil (from_equals vs at q e)

-- four raw bytes, each a character
pub group_is : (a b c d x y z v : ℕ) → sextet a ≡ Some x → sextet b ≡ Some y → sextet c ≡ Some z → sextet d ≡ Some v → (at : ℕ) (q : Bytes) (e : End) → base64_from [] at (a ∷ (b ∷ (c ∷ (d ∷ q)))) e ≡ prefixed (byte1 x y ∷ (byte2 y z ∷ (byte3 z v ∷ []))) (base64_from [] (at + 4) q e)
group_is a b c d x y z v ha hb hc hd at q e =
    let place : at + 1 + 1 + 1 + 1 ≡ at + 4 = omega arith in
    from_character [] at a x (b ∷ (c ∷ (d ∷ q))) e ha
    ∙ from_character (x ∷ []) (at + 1) b y (c ∷ (d ∷ q)) e hb
    ∙ from_character (x ∷ (y ∷ [])) (at + 1 + 1) c z (d ∷ q) e hc
    ∙ from_character (x ∷ (y ∷ (z ∷ []))) (at + 1 + 1 + 1) d v q e hd
    ∙ from_group x y z v (at + 1 + 1 + 1 + 1) q e
    ∙ ap (λ (n : ℕ). prefixed (byte1 x y ∷ (byte2 y z ∷ (byte3 z v ∷ []))) (base64_from [] n q e)) place

none_is : (o : Option ℕ) → is_some o ≡ false → o ≡ None
none_is None h = refl
none_is (Some v) h = cc

-- characters that make a group, by what they stand for
group_by : (t q : Bytes) (o p r u : Option ℕ) → (a b c d : ℕ) → sextet a ≡ o → sextet b ≡ p → sextet c ≡ r → sextet d ≡ u → Some t ≡ group_of o p r u
    → (at : ℕ) (e : End) → base64_from [] at (a ∷ (b ∷ (c ∷ (d ∷ q)))) e ≡ prefixed t (base64_from [] (at + 4) q e)
group_by t q (Some x) (Some y) (Some z) (Some v) a b c d ha hb hc hd k at e =
    let same : three_of x y z v ≡ t = cc in
    group_is a b c d x y z v ha hb hc hd at q e ∙ ap (λ (l : Bytes). prefixed l (base64_from [] (at + 4) q e)) same
group_by t q (Some x) (Some y) (Some z) None a b c d ha hb hc hd k at e = cc
group_by t q (Some x) (Some y) None u a b c d ha hb hc hd k at e = cc
group_by t q (Some x) None r u a b c d ha hb hc hd k at e = cc
group_by t q None p r u a b c d ha hb hc hd k at e = cc

-- a group at the start of raw bytes, and an ignored byte
pub group_first : (s t : Bytes) → 4 ≤ length s → Some t ≡ group_of (sextet (get_or s 0 0)) (sextet (get_or s 1 0)) (sextet (get_or s 2 0)) (sextet (get_or s 3 0))
    → (at : ℕ) (q : Bytes) (e : End) → base64_from [] at (s ++ q) e ≡ prefixed t (base64_from [] (at + 4) (drop 4 s ++ q) e)
group_first [] t h k at q e = absurd (omega arith)
group_first (a ∷ []) t h k at q e = absurd (omega arith)
group_first (a ∷ b ∷ []) t h k at q e = absurd (omega arith)
group_first (a ∷ b ∷ c ∷ []) t h k at q e = absurd (omega arith)
group_first (a ∷ b ∷ c ∷ d ∷ s) t h k at q e = group_by t (s ++ q) (sextet a) (sextet b) (sextet c) (sextet d) a b c d refl refl refl refl k at e

pub ignored_first : (s : Bytes) → 0 < length s → not (eqb (get_or s 0 0) 61) && not (is_some (sextet (get_or s 0 0))) ≡ true
    → (at : ℕ) (q : Bytes) (e : End) → base64_from [] at (s ++ q) e ≡ base64_from [] (at + 1) (drop 1 s ++ q) e
ignored_first [] h k at q e = absurd (omega arith)
ignored_first (b ∷ s) h k at q e =
    let p = and_parts (not (eqb b 61)) (not (is_some (sextet b))) k in
    from_ignored [] at b (s ++ q) e (not-true (eqb b 61) p.0) (none_is (sextet b) (not-true (is_some (sextet b)) p.1))

-- by a table whose entries are 64 where a byte stands for nothing
abbrev pub sextet_or : Option ℕ → ℕ
sextet_or (Some v) = v
sextet_or None = 64

pub some_sextet : (b v : ℕ) → v ≡ sextet_or (sextet b) → v < 64 → Some v ≡ sextet b
some_sextet b v e h = grind (arith, common_steps)

pub none-sextet : (b v : ℕ) → v ≡ sextet_or (sextet b) → 64 ≤ v → None ≡ sextet b
none-sextet b v e h = grind (arith, common_steps)
