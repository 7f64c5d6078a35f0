-- Tests of a text.
use Rattle.std.proofs.Common.{◌≡◌, ℕ, ◌<◌, Bool, true, false, ◌&&◌, MatchBool, eqb, [], ◌∷◌, length, get_or, suc, zero, refl, sym, ap, ◌∙◌, arith}
use Rattle.std.proofs.lemmas.Bool.{and_left, and_right}
use Rattle.std.specs.Char.{to_ascii_lowercase}
use Rattle.std.specs.List.{list_all, zip}
use Rattle.byte_lines.specs.Bytes.{Bytes}
use Rattle.byte_lines.specs.Strings.{every, named}
use Rattle.head.specs.Media.{token_byte, token}

-- by the two answers of a test
pub by_test : {P : Type 0} (t : Bool) → (t ≡ true → P) → (t ≡ false → P) → P
by_test true f g = f refl
by_test false f g = g refl

all_pass : (p : ℕ → Bool) (s : Bytes) → ((k : ℕ) → k < length s → p (get_or s k 0) ≡ true) → every p s ≡ true
all_pass p [] all = refl
all_pass p (b ∷ bs) all = ap (λ (t : Bool). t && every p bs) (all 0 (omega arith)) ∙ all_pass p bs (λ k h. all (suc k) (omega arith))

one_fails : (p : ℕ → Bool) (s : Bytes) (k : ℕ) → k < length s → p (get_or s k 0) ≡ false → every p s ≡ false
one_fails p [] k h fails = absurd (omega arith)
one_fails p (b ∷ bs) zero h fails = and_left (p b) (every p bs) fails
one_fails p (b ∷ bs) (suc k) h fails = and_right (p b) (every p bs) (one_fails p bs k (omega arith) fails)

-- what `all` says of a test
pub every_by : (p : ℕ → Bool) (s : Bytes) (r : Bool) → MatchBool r ((k : ℕ) → k < length s → p (get_or s k 0) ≡ true) ((k : ℕ) × (k < length s) × (p (get_or s k 0) ≡ false)) → r ≡ every p s
every_by p s true all = sym (all_pass p s all)
every_by p s false one = sym (one_fails p s one.0 one.1 one.2)

-- letters of two texts of one length, pair by pair
pub named_zip : (word s : Bytes) → length word ≡ length s → list_all (λ (p : ℕ × ℕ). eqb p.0 (to_ascii_lowercase p.1)) (zip word s) ≡ named word s
named_zip [] [] e = refl
named_zip [] (c ∷ cs) e = absurd (omega arith)
named_zip (b ∷ bs) [] e = absurd (omega arith)
named_zip (b ∷ bs) (c ∷ cs) e = ap (λ (t : Bool). eqb b (to_ascii_lowercase c) && t) (named_zip bs cs (omega arith))

-- a token has at least one byte, and all are a token's
pub every-token : (s : Bytes) → 0 < length s → every token_byte s ≡ token s
every-token [] h = absurd (omega arith)
every-token (b ∷ bs) h = refl
