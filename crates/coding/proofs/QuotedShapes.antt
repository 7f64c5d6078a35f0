-- What is held back of a line, taken apart and put together.
use Rattle.std.proofs.lemmas.Grind.{common_steps}
use Rattle.std.proofs.Common.{◌≡◌, ℕ, ◌+◌, ◌≤◌, Bool, true, false, ◌&&◌, eqb, leb, [], ◌∷◌, ◌++◌, length, take, get_or, is_some, Some, None, Option, sym, refl, ap, ◌∙◌, append_assoc, arith}
use mathlib.Core.Bool.{false≢true}
use mir.Val.{bool_byte}
use Rattle.std.proofs.lemmas.List.{length-append, nil_from_length}
use Rattle.std.proofs.lemmas.Bool.{and_parts, and_from, eqb-true, leb-true, le-leb}
use Rattle.byte_lines.specs.Bytes.{Bytes}
use Rattle.byte_lines.specs.Classes.{blank, hex}
use Rattle.coding.specs.declared.quoted.Kind.{Kind}
use Rattle.coding.specs.declared.quoted.Kind.TheVariants.{Blanks, Digit, Cr}
use Rattle.coding.specs.declared.quoted.Quoted.{Quoted}
use Rattle.coding.specs.Quoted.{also}
use Rattle.coding.specs.Buffers.{items}
use Rattle.coding.specs.QuotedShapes.{all_blank, blanks_held, digit_held, before_cr, cr_held, shaped}

abbrev pub AllBlank : Bytes → Type 0
AllBlank [] = Unit {0}
AllBlank (b ∷ bs) = (blank b ≡ true) × AllBlank bs

abbrev pub equals_if : Bool → Bytes
equals_if true = 61 ∷ []
equals_if false = []

-- an '=' if `soft`, then at most 76 blanks
pub record Blank (soft : Bool) (held : Bytes) : Type 0 where
  pub run : Bytes
  pub all : AllBlank run
  pub most : length run ≤ 76
  pub is : held ≡ equals_if soft ++ run

-- such, and a CR
pub record Return (soft : Bool) (held : Bytes) : Type 0 where
  pub front : Bytes
  pub blanks : Blank soft front
  pub is : held ≡ front ++ (13 ∷ [])

-- an '=' and a hexadecimal digit
pub record Half (held : Bytes) : Type 0 where
  pub digit : ℕ
  pub value : ℕ
  pub hexadecimal : hex digit ≡ Some value
  pub is : held ≡ 61 ∷ (digit ∷ [])

abbrev pub Shape : Kind → Bytes → Type 0
Shape (Blanks soft) held = Blank soft held
Shape Digit held = Half held
Shape (Cr soft) held = Return soft held

all_blank_lem : (s : Bytes) → all_blank s ≡ true → AllBlank s
unfolding all_blank
all_blank_lem [] h = tt
all_blank_lem (b ∷ bs) h = let p = and_parts (blank b) (all_blank bs) h in (p.0, all_blank_lem bs p.1)

blank_all : (s : Bytes) → AllBlank s → all_blank s ≡ true
unfolding all_blank
blank_all [] h = refl
blank_all (b ∷ bs) (p, ps) = and_from (blank b) (all_blank bs) p (blank_all bs ps)

run_parts : (s : Bytes) → all_blank s && leb (length s) 76 ≡ true → AllBlank s × (length s ≤ 76)
run_parts s h = let p = and_parts (all_blank s) (leb (length s) 76) h in (all_blank_lem s p.0, leb-true (length s) 76 p.1)

run_whole : (s : Bytes) → AllBlank s → length s ≤ 76 → all_blank s && leb (length s) 76 ≡ true
run_whole s a m = and_from (all_blank s) (leb (length s) 76) (blank_all s a) (le-leb (length s) 76 m)

blanks_parts : (soft : Bool) (held : Bytes) → blanks_held soft held ≡ true → Blank soft held
blanks_parts false held h = let r = run_parts held h in record { run = held; all = r.0; most = r.1; is = refl }
blanks_parts true [] h = absurd (false≢true h)
blanks_parts true (b ∷ bs) h =
    let p = and_parts (eqb b 61) (all_blank bs && leb (length bs) 76) h in
    let r = run_parts bs p.1 in
    record { run = bs; all = r.0; most = r.1; is = ap (λ (n : ℕ). n ∷ bs) (eqb-true b 61 p.0) }

blanks-whole_at : (soft : Bool) (run : Bytes) → AllBlank run → length run ≤ 76 → blanks_held soft (equals_if soft ++ run) ≡ true
blanks-whole_at false run a m = run_whole run a m
blanks-whole_at true run a m = run_whole run a m

blanks-whole : (soft : Bool) (held : Bytes) → Blank soft held → blanks_held soft held ≡ true
blanks-whole soft held b = ap (blanks_held soft) b.is ∙ blanks-whole_at soft b.run b.all b.most

pub some_parts : (o : Option ℕ) → is_some o ≡ true → (v : ℕ) × (o ≡ Some v)
some_parts None h = absurd (false≢true h)
some_parts (Some v) h = (v, refl)

half_parts : (held : Bytes) → digit_held held ≡ true → Half held
half_parts [] h = absurd (false≢true h)
half_parts (a ∷ []) h = absurd (false≢true h)
half_parts (a ∷ b ∷ []) h =
    let p = and_parts (eqb a 61) (is_some (hex b)) h in
    let v = some_parts (hex b) p.1 in
    record { digit = b; value = v.0; hexadecimal = v.1; is = ap (λ (n : ℕ). n ∷ (b ∷ [])) (eqb-true a 61 p.0) }
half_parts (a ∷ b ∷ c ∷ cs) h = absurd (false≢true h)

half_whole : (held : Bytes) → Half held → digit_held held ≡ true
half_whole held h = ap digit_held h.is ∙ ap is_some h.hexadecimal

-- what stands before a last CR
abbrev Before : Option Bytes → Bytes → Type 0
Before None held = Unit {0}
Before (Some front) held = held ≡ front ++ (13 ∷ [])

before-also : (b : ℕ) (o : Option Bytes) (held : Bytes) → Before o held → Before (also b o) (b ∷ held)
before-also b None held h = tt
before-also b (Some front) held h = ap (λ (l : Bytes). b ∷ l) h

before_one : (b : ℕ) (t : Bool) → eqb b 13 ≡ t → Before (elim t [ true ↦ Some [] | false ↦ None ]) (b ∷ [])
before_one b true h = ap (λ (n : ℕ). n ∷ []) (eqb-true b 13 h)
before_one b false h = tt

before_cr_lem : (held : Bytes) → Before (before_cr held) held
unfolding before_cr
before_cr_lem [] = tt
before_cr_lem (b ∷ []) = before_one b (eqb b 13) refl
before_cr_lem (b ∷ c ∷ cs) = before-also b (before_cr (c ∷ cs)) (c ∷ cs) (before_cr_lem (c ∷ cs))

cr_before : (front : Bytes) → before_cr (front ++ (13 ∷ [])) ≡ Some front
unfolding before_cr
cr_before [] = refl
cr_before (b ∷ []) = refl
cr_before (b ∷ c ∷ cs) = ap (also b) (cr_before (c ∷ cs))

cr_parts : (soft : Bool) (held : Bytes) (o : Option Bytes) → Before o held → cr_held soft o ≡ true → Return soft held
cr_parts soft held None b h = absurd (false≢true h)
cr_parts soft held (Some front) b h = record { front = front; blanks = blanks_parts soft front h; is = b }

cr_whole : (soft : Bool) (held : Bytes) → Return soft held → cr_held soft (before_cr held) ≡ true
cr_whole soft held r = ap (λ (l : Bytes). cr_held soft (before_cr l)) r.is ∙ ap (cr_held soft) (cr_before r.front) ∙ blanks-whole soft r.front r.blanks

pub shape_parts : (kind : Kind) (held : Bytes) → shaped kind held ≡ true → Shape kind held
unfolding shaped
shape_parts (Blanks soft) held h = blanks_parts soft held h
shape_parts Digit held h = half_parts held h
shape_parts (Cr soft) held h = cr_parts soft held (before_cr held) (before_cr_lem held) h

pub shape_whole : (kind : Kind) (held : Bytes) → Shape kind held → shaped kind held ≡ true
unfolding shaped
shape_whole (Blanks soft) held h = blanks-whole soft held h
shape_whole Digit held h = half_whole held h
shape_whole (Cr soft) held h = cr_whole soft held h

-- how much is held
pub equals_first : (soft : Bool) (run : Bytes) → take (bool_byte soft) (equals_if soft ++ run) ≡ equals_if soft
equals_first true run = refl
equals_first false run = refl

one_least : (soft : Bool) → bool_byte soft ≤ 1
one_least true = omega arith
one_least false = omega arith

pub blank-length : (soft : Bool) (held : Bytes) (b : Blank soft held) → length held ≡ bool_byte soft + length b.run
blank-length soft held b = grind (arith, common_steps)

pub shape_length : (kind : Kind) (held : Bytes) → Shape kind held → length held ≤ 78
shape_length (Blanks soft) held b = let l = blank-length soft held b in let o = one_least soft in let m = b.most in omega arith
shape_length Digit held h = let l = ap length h.is in omega arith
shape_length (Cr soft) held r =
    let l = blank-length soft r.front r.blanks in
    let o = one_least soft in
    let m = r.blanks.most in
    let n = ap length r.is ∙ length-append r.front (13 ∷ []) in
    omega arith

-- nothing is held, or an '=', or an '=' and a digit
pub shape_none : Shape (Blanks false) []
shape_none = record { run = []; all = tt; most = omega arith; is = refl }

pub shape_equals : Shape (Blanks true) (61 ∷ [])
shape_equals = record { run = []; all = tt; most = omega arith; is = refl }

pub shape_blank : (b : ℕ) → blank b ≡ true → Shape (Blanks false) (b ∷ [])
shape_blank b h = grind (arith, common_steps)

pub shape_cr : Shape (Cr false) (13 ∷ [])
shape_cr = record { front = []; blanks = shape_none; is = refl }

all_push : (s : Bytes) (b : ℕ) → AllBlank s → blank b ≡ true → AllBlank (s ++ (b ∷ []))
all_push [] b a h = (h, tt)
all_push (c ∷ cs) b (p, ps) h = (p, all_push cs b ps h)

-- one more blank
pub shape_more : (soft : Bool) (held : Bytes) (b : ℕ) → (h : Blank soft held) → blank b ≡ true → length h.run ≤ 75 → Shape (Blanks soft) (held ++ (b ∷ []))
shape_more soft held b h k m =
    record {
      run = h.run ++ (b ∷ []);
      all = all_push h.run b h.all k;
      most = let l = length-append h.run (b ∷ []) in omega arith;
      is = ap (λ (l : Bytes). l ++ (b ∷ [])) h.is ∙ append_assoc (equals_if soft) h.run (b ∷ []);
    }

-- a CR behind blanks, and a hexadecimal digit behind an '='
pub shape_return : (soft : Bool) (held : Bytes) (b : ℕ) → Blank soft held → b ≡ 13 → Shape (Cr soft) (held ++ (b ∷ []))
shape_return soft held b h t = grind (arith, common_steps)

pub shape_digit : (held : Bytes) (b v : ℕ) → Blank true held → length held ≡ 1 → hex b ≡ Some v → Shape Digit (held ++ (b ∷ []))
shape_digit held b v h z k = grind (arith, common_steps)

-- a decoder -------------------------------------------------------------------------------------

pub shape_of : (s : Quoted) (kind : Kind) → s.kind ≡ kind → Shape kind (items s.held)
shape_of s kind e = shape_parts kind (items s.held) (ap (λ (k : Kind). shaped k (items s.held)) (sym e) ∙ s.shape)

pub digit_at : (h : Bytes) (k : Half h) → get_or h 1 0 ≡ k.digit
digit_at h k = ap (λ (l : Bytes). get_or l 1 0) k.is
