-- What single raw bytes stand for, by their class.
use Rattle.std.proofs.lemmas.Grind.{common_steps}
use Rattle.std.proofs.Common.{◌≡◌, ℕ, suc, ◌≤◌, true, false, eqb, [], ◌∷◌, ◌++◌, Some, None, Option, sym, refl, ap, ◌∙◌, subst, ⊎_elim, arith}
use Rattle.std.proofs.lemmas.Bool.{ne_eqb, eqb-true, or_from, or_cases, both_ways, le-ltb}
use Rattle.byte_lines.specs.Bytes.{Bytes}
use Rattle.byte_lines.specs.Classes.{blank, hex}
use Rattle.byte_lines.proofs.LineLaws.{Begins}
use Rattle.byte_lines.specs.Strings.{kept, trim_end}
use Rattle.coding.specs.Quoted.{byte_of, unescaped, also, softened, later, blanks, overlong}
use Rattle.coding.proofs.QuotedPieces.{Stands}

-- classes ---------------------------------------------------------------------------------------

-- a byte of another class than n is not n
pub blank_not : (n b : ℕ) → blank n ≡ false → blank b ≡ true → eqb b n ≡ false
blank_not n b h k = ne_eqb b n (λ e. both_ways (blank b) (ap blank e ∙ h) k)

pub hex_not : (n b v : ℕ) → hex n ≡ None → hex b ≡ Some v → eqb b n ≡ false
hex_not n b v h k = grind (arith, common_steps)

pub hex_no_blank : (b v : ℕ) → hex b ≡ Some v → blank b ≡ false
hex_no_blank b v k = grind (arith, common_steps)

pub blank_no_hex : (b : ℕ) → blank b ≡ true → hex b ≡ None
blank_no_hex b h = grind (arith, common_steps)

-- two digits that are a byte
pub digits : (o p : Option ℕ) (v : ℕ) → byte_of o p ≡ Some v → (h : ℕ) × (l : ℕ) × (o ≡ Some h) × (p ≡ Some l)
digits (Some h) (Some l) v e = (h, l, refl, refl)
digits (Some h) None v e = cc
digits None p v e = cc

-- pieces ----------------------------------------------------------------------------------------

-- no '=' and two hexadecimal digits, where an '=' stands before s
abbrev pub Plain : Bytes → Type 0
Plain [] = Unit {0}
Plain (a ∷ []) = Unit {0}
Plain (a ∷ b ∷ cs) = byte_of (hex a) (hex b) ≡ None

pub plain_start : (a : ℕ) (s : Bytes) → hex a ≡ None → Plain (a ∷ s)
plain_start a [] h = tt
plain_start a (b ∷ cs) h = ap (λ (o : Option ℕ). byte_of o (hex b)) h

half_plain : (o : Option ℕ) → byte_of o None ≡ None
half_plain (Some v) = refl
half_plain None = refl

pub plain_second : (a b : ℕ) (s : Bytes) → hex b ≡ None → Plain (a ∷ (b ∷ s))
plain_second a b s h = ap (byte_of (hex a)) h ∙ half_plain (hex a)

plain_begins : (t s : Bytes) → Begins t s → Plain s → Plain t
plain_begins [] s b p = tt
plain_begins (x ∷ []) s b p = tt
plain_begins (x ∷ y ∷ ys) s (r, e) p = subst Plain (sym e) p

unescaped_equals : (t : Bytes) → Plain t → unescaped (61 ∷ t) ≡ 61 ∷ unescaped t
unfolding unescaped
unescaped_equals [] p = refl
unescaped_equals (a ∷ []) p = refl
unescaped_equals (a ∷ b ∷ cs) p = rw (p, unescaped)

unescaped_other : (b : ℕ) (t : Bytes) → eqb b 61 ≡ false → unescaped (b ∷ t) ≡ b ∷ unescaped t
unfolding unescaped
unescaped_other b [] h = refl
unescaped_other b (c ∷ []) h = refl
unescaped_other b (c ∷ d ∷ ds) h = rw (h, unescaped)

-- a byte that is no blank stays where blanks are dropped at the end
kept_solid : (b : ℕ) (s : Bytes) → blank b ≡ false → kept b s ≡ b ∷ s
kept_solid b [] h = rw (h, kept)
kept_solid b (c ∷ cs) h = refl

pub trim_solid : (b : ℕ) (s : Bytes) → blank b ≡ false → trim_end (b ∷ s) ≡ b ∷ trim_end s
unfolding trim_end
trim_solid b s h = kept_solid b (trim_end s) h

softened_other : (b : ℕ) (s : Bytes) → eqb b 61 ≡ false → softened (b ∷ s) ≡ also b (softened s)
unfolding softened
softened_other b [] h = rw (h, softened)
softened_other b (c ∷ cs) h = refl

pub overlong_short : (b : ℕ) (c : Bytes) → blanks (b ∷ c) ≤ 76 → overlong (b ∷ c) ≡ later (overlong c)
unfolding overlong
overlong_short b c h = let t = le-ltb 76 (blanks (b ∷ c)) h in rw (t, overlong)

pub blanks_solid : (b : ℕ) (c : Bytes) → blank b ≡ false → blanks (b ∷ c) ≡ 0
unfolding blanks
blanks_solid b c h = rw (h, blanks)

pub blanks-more : (b : ℕ) (c : Bytes) → blank b ≡ true → blanks (b ∷ c) ≡ suc (blanks c)
unfolding blanks
blanks-more b c h = rw (h, blanks)

pub overlong_solid : (b : ℕ) (c : Bytes) → blank b ≡ false → overlong (b ∷ c) ≡ later (overlong c)
overlong_solid b c h = let z = blanks_solid b c h in overlong_short b c (omega arith)

pub stands_other : (b : ℕ) (c : Bytes) → blank b ≡ false → eqb b 61 ≡ false → Stands (b ∷ []) (b ∷ []) c
stands_other b c h k =
    record { over = overlong_solid b c h; trim = trim_solid b c h; soft = softened_other b (trim_end c) k; plain = λ t i. unescaped_other b t k }

-- a byte other than a blank stands in s
pub record Solid (s : Bytes) : Type 0 where
  pub head : ℕ
  pub tail : Bytes
  pub is : trim_end s ≡ head ∷ tail

pub solid_start : (b : ℕ) (s : Bytes) → blank b ≡ false → Solid (b ∷ s)
solid_start b s h = record { head = b; tail = trim_end s; is = trim_solid b s h }

trim-more : (b : ℕ) (s : Bytes) (k : Solid s) → trim_end (b ∷ s) ≡ b ∷ trim_end s
unfolding trim_end
trim-more b s k = grind (arith, common_steps)

solid_more : (b : ℕ) (s : Bytes) → Solid s → Solid (b ∷ s)
solid_more b s k = record { head = b; tail = trim_end s; is = trim-more b s k }

pub solid_after : (p s : Bytes) → Solid s → Solid (p ++ s)
solid_after [] s k = k
solid_after (b ∷ bs) s k = solid_more b (bs ++ s) (solid_after bs s k)

softened-more : (b : ℕ) (s : Bytes) → Solid s → softened (b ∷ trim_end s) ≡ also b (softened (trim_end s))
unfolding softened
softened-more b s k = grind (arith, common_steps)

-- a blank that the line's end does not follow, and an '=' that nothing is made of
pub stands-blank : (b : ℕ) (c : Bytes) → blank b ≡ true → Solid c → blanks c ≤ 75 → Stands (b ∷ []) (b ∷ []) c
stands-blank b c h k n =
    let m = blanks-more b c h in
    record {
      over = overlong_short b c (omega arith);
      trim = trim-more b c k;
      soft = softened-more b c k;
      plain = λ t i. unescaped_other b t (blank_not 61 b refl h);
    }

pub stands_equals : (c s : Bytes) → Solid c → Begins c s → Plain s → Stands (61 ∷ []) (61 ∷ []) c
stands_equals c s k i p =
    record {
      over = overlong_solid 61 c refl;
      trim = trim-more 61 c k;
      soft = softened-more 61 c k;
      plain = λ t j. unescaped_equals t (plain_begins t c j (plain_begins c s i p));
    }

-- an '=' and two hexadecimal digits
unescaped-escape : (a b v : ℕ) (t : Bytes) → byte_of (hex a) (hex b) ≡ Some v → unescaped (61 ∷ (a ∷ (b ∷ t))) ≡ v ∷ unescaped t
unfolding unescaped
unescaped-escape a b v t h = rw (h, unescaped)

softened-front : (a : ℕ) (s : Bytes) → softened (61 ∷ (a ∷ s)) ≡ also 61 (softened (a ∷ s))
unfolding softened
softened-front a s = refl

pub stands-escape : (a b h l v : ℕ) (c : Bytes) → hex a ≡ Some h → hex b ≡ Some l → byte_of (hex a) (hex b) ≡ Some v → Stands (61 ∷ (a ∷ (b ∷ []))) (v ∷ []) c
stands-escape a b h l v c p q r =
    let x = stands_other a (b ∷ c) (hex_no_blank a h p) (hex_not 61 a h refl p) in
    let y = stands_other b c (hex_no_blank b l q) (hex_not 61 b l refl q) in
    let t = trim_end c in
    record {
      over = overlong_solid 61 (a ∷ (b ∷ c)) refl ∙ ap later x.over ∙ ap (λ (o : Option ℕ). later (later o)) y.over;
      trim = trim_solid 61 (a ∷ (b ∷ c)) refl ∙ ap (λ (l : Bytes). 61 ∷ l) x.trim ∙ ap (λ (l : Bytes). 61 ∷ (a ∷ l)) y.trim;
      soft = softened-front a (b ∷ t) ∙ ap (also 61) (softened_other a (b ∷ t) (hex_not 61 a h refl p)) ∙ ap (λ (o : Option Bytes). also 61 (also a o)) y.soft;
      plain = λ u i. unescaped-escape a b v u r;
    }
