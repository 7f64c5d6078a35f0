-- What the role of a line says.
use Rattle.std.proofs.Common.{◌≡◌, Bool, true, false, List, [], ◌∷◌, ◌++◌, sym, refl, ap, ◌∙◌}
use mathlib.Core.Bool.{false≢true}
use Rattle.std.specs.Str.{bytes_eq}
use Rattle.std.proofs.lemmas.Slice.Eq.{bytes_eq-Decides}
use Rattle.byte_lines.specs.Bytes.{Bytes}
use Rattle.message.specs.Groups.{Group, Role, separates, closes, text, separator, closing_line, role, inside, fits}
use Rattle.message.specs.GroupLaws.{RoleSays}

differ : (xs ys : Bytes) → bytes_eq xs ys ≡ false → ys ≡ xs → ⊥
differ xs ys f e = false≢true (sym f ∙ (bytes_eq-Decides xs ys).1 (sym e))

pub role-says : (gs : List Group) (s : Bytes) → RoleSays gs s (role gs s)
unfolding role
role-says [] s = tt
role-says (g ∷ gs) s = go (bytes_eq (separator g) s) refl (bytes_eq (closing_line g) s) refl (role gs s) (role-says gs s)
  where
    go : (a : Bool) → bytes_eq (separator g) s ≡ a → (b : Bool) → bytes_eq (closing_line g) s ≡ b → (r : Role) → RoleSays gs s r
        → RoleSays (g ∷ gs) s (elim a [ true ↦ separates [] g gs | false ↦ elim b [ true ↦ closes [] g gs | false ↦ inside g r ] ])
    go true p b q r h = (refl, tt, sym ((bytes_eq-Decides (separator g) s).0 p))
    go false p true q r h = (refl, tt, differ (separator g) s p, sym ((bytes_eq-Decides (closing_line g) s).0 q))
    go false p false q (separates d k around) h = (ap (λ (l : List Group). g ∷ l) h.0, (differ (separator g) s p, differ (closing_line g) s q, h.1), h.2)
    go false p false q (closes d k around) h =
        (ap (λ (l : List Group). g ∷ l) h.0, (differ (separator g) s p, differ (closing_line g) s q, h.1), h.2, h.3)
    go false p false q text h = (differ (separator g) s p, differ (closing_line g) s q, h)

-- the groups are those deeper, the one that fits, and those around
abbrev pub Splits : List Group → Role → Type 0
Splits gs (separates deeper g around) = gs ≡ deeper ++ (g ∷ around)
Splits gs (closes deeper g around) = gs ≡ deeper ++ (g ∷ around)
Splits gs text = Unit {0}

pub splits_by : (gs : List Group) (s : Bytes) (r : Role) → RoleSays gs s r → Splits gs r
splits_by gs s (separates deeper g around) h = h.0
splits_by gs s (closes deeper g around) h = h.0
splits_by gs s text h = tt

pub role_splits : (gs : List Group) (s : Bytes) → Splits gs (role gs s)
role_splits gs s = splits_by gs s (role gs s) (role-says gs s)

-- a line that does not fit is text
pub is_text : (r : Role) → fits r ≡ false → r ≡ text
is_text (separates deeper g around) h = absurd (false≢true (sym h))
is_text (closes deeper g around) h = absurd (false≢true (sym h))
is_text text h = refl
