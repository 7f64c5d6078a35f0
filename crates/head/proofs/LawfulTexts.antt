-- What makes a text lawful as a boundary.
use Rattle.std.proofs.Common.{◌≡◌, ℕ, zero, suc, ◌-◌, ◌<◌, ◌≤◌, true, false, not, ◌&&◌, eqb, [], ◌∷◌, length, get_or, sym, refl, ◌∙◌, arith}
use Rattle.std.proofs.Math.Bool.{and-true}
use Rattle.std.proofs.lemmas.Bool.{le-leb, eq-eqb, ne_eqb, and_from, and_right, not_from_true}
use Rattle.byte_lines.specs.Bytes.{Bytes}
use Rattle.byte_lines.specs.Classes.{within}
use Rattle.byte_lines.specs.Strings.{every}
use Rattle.head.specs.Entities.{boundary_byte, ends_in_space, lawful}

ends_at : (s : Bytes) (k : ℕ) → suc k ≡ length s → ends_in_space s ≡ eqb (get_or s k 0) 32
ends_at [] k e = absurd (omega arith)
ends_at (b ∷ []) zero e = refl
ends_at (b ∷ []) (suc k) e = absurd (omega arith)
ends_at (b ∷ c ∷ cs) zero e = absurd (omega arith)
ends_at (b ∷ c ∷ cs) (suc k) e = ends_at (c ∷ cs) k (omega arith)

-- a text that ends in a space
pub false_lawful : (s : Bytes) → 0 < length s → get_or s (length s - 1) 0 ≡ 32 → false ≡ lawful s
false_lawful s h e =
    let space : ends_in_space s ≡ true = ends_at s (length s - 1) (omega arith) ∙ eq-eqb (get_or s (length s - 1) 0) 32 e in
    sym (and_right (within 1 70 (length s)) (every boundary_byte s && not (ends_in_space s)) (and_right (every boundary_byte s) (not (ends_in_space s)) (not_from_true (ends_in_space s) space)))

-- one of a lawful length that ends in another byte
pub every-lawful : (s : Bytes) → 0 < length s → length s ≤ 70 → (get_or s (length s - 1) 0 ≡ 32 → ⊥) → every boundary_byte s ≡ lawful s
every-lawful s h l n =
    let space : ends_in_space s ≡ false = ends_at s (length s - 1) (omega arith) ∙ ne_eqb (get_or s (length s - 1) 0) 32 n in
    let fits : within 1 70 (length s) ≡ true = and_from _ _ (le-leb 1 (length s) h) (le-leb (length s) 70 l) in
    rw (fits, space) (sym (and-true (every boundary_byte s)))
