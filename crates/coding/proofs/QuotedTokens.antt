-- What stands first in raw bytes, by the bytes.
use Rattle.std.proofs.lemmas.Grind.{common_steps}
use Rattle.std.proofs.Common.{◌≡◌, ℕ, ◌+◌, ◌-◌, ◌<◌, ◌≤◌, take, Bool, true, false, eqb, ltb, [], ◌∷◌, ◌++◌, length, drop, get_or, Some, sym, refl, ap, ◌∙◌, arith}
use mathlib.Core.Bool.{false≢true}
use Rattle.std.proofs.lemmas.List.FromFn.{get_or-map-range_with_len}
use Rattle.byte_lines.specs.Bytes.{Bytes}
use Rattle.byte_lines.specs.Classes.{blank, hex}
use Rattle.source.specs.declared.ends.End.{End}
use Rattle.coding.specs.declared.quoted.Token.{Token}
use Rattle.coding.specs.declared.quoted.Token.TheVariants.{Itself, Byte, Soft, Hard}
use Rattle.coding.specs.declared.quoted.runs.TheConstants.{FIRST, NEXT}
use Rattle.coding.specs.Quoted.{byte_of, quoted}
use Rattle.coding.specs.Decoding.{prefixed}
use Rattle.coding.specs.QuotedTokens.{token_gives, token_width, Stands, Reads}
use Rattle.coding.proofs.QuotedHeld.{goes_on_one, goes_start, quoted_other, quoted-escape, release_blanks}
use Rattle.coding.specs.QuotedHeld.{quoted_from}
use Rattle.coding.proofs.QuotedBytes.{digits}
use Rattle.coding.proofs.QuotedBreaks.{quoted_break}
use Rattle.coding.proofs.Runs.{Ran}
use Rattle.std.proofs.lemmas.List.{append_assoc, length-take-le, take-append-drop, drop-append-le}

-- classes of bytes, as the two tables have them ----------------------------------------------------

-- by whether it is a blank, an '=' or a CR
abbrev pub as_first : (white equals cr : Bool) → ℕ
as_first true equals cr = 49
as_first false true cr = 50
as_first false false true = 50
as_first false false false = 48

abbrev pub as_next : (white cr : Bool) → ℕ
as_next true cr = 49
as_next false true = 49
as_next false false = 50

abbrev pub first_of : ℕ → ℕ
first_of b = as_first (blank b) (eqb b 61) (eqb b 13)

abbrev pub next_of : ℕ → ℕ
next_of b = as_next (blank b) (eqb b 13)

stands : (b c : ℕ) (w q r w' r' : Bool) → blank b ≡ w → eqb b 61 ≡ q → eqb b 13 ≡ r → blank c ≡ w' → eqb c 13 ≡ r' → ltb (as_first w q r) (as_next w' r') ≡ true → Stands b c
stands b c true q r true r' x y z v u t = absurd (false≢true t)
stands b c true q r false true x y z v u t = absurd (false≢true t)
stands b c true q r false false x y z v u t =
    λ at s e. release_blanks false (b ∷ []) at (c ∷ s) e (x, tt) (omega arith) (goes_start c s (goes_on_one c s u) v) (λ k. absurd (false≢true k))
stands b c false true r true r' x y z v u t = absurd (false≢true t)
stands b c false true r false true x y z v u t = absurd (false≢true t)
stands b c false true r false false x y z v u t = absurd (false≢true t)
stands b c false false true true r' x y z v u t = absurd (false≢true t)
stands b c false false true false true x y z v u t = absurd (false≢true t)
stands b c false false true false false x y z v u t = absurd (false≢true t)
stands b c false false false w' r' x y z v u t = λ at s e. quoted_other b at (c ∷ s) e (goes_on_one b (c ∷ s) z) x y

-- the tables are the lists of the classes of all bytes, which antt computes
pub first_entry : (b : ℕ) → b < 256 → get_or FIRST b 0 ≡ first_of b
first_entry b h = get_or-map-range_with_len first_of 0 256 b b 0 h (omega arith)

pub next_entry : (b : ℕ) → b < 256 → get_or NEXT b 0 ≡ next_of b
next_entry b h = get_or-map-range_with_len next_of 0 256 b b 0 h (omega arith)

pub itself : (b c : ℕ) → b < 256 → c < 256 → ltb (get_or FIRST b 0) (get_or NEXT c 0) ≡ true → Stands b c
itself b c h k t =
    stands b c (blank b) (eqb b 61) (eqb b 13) (blank c) (eqb c 13) refl refl refl refl refl
    (ap (ltb (first_of b)) (sym (next_entry c k)) ∙ ap (λ (n : ℕ). ltb n (get_or NEXT c 0)) (sym (first_entry b h)) ∙ t)

-- tokens --------------------------------------------------------------------------------------------

pub soft_break : (a b c : ℕ) → a ≡ 61 → b ≡ 13 → c ≡ 10 → Reads (Some Soft) a b c
soft_break a b c x y z = λ at q e. rw (x, y, z) (quoted_break true [] at q e tt (omega arith))

pub hard_break : (a b c : ℕ) → a ≡ 13 → b ≡ 10 → Reads (Some Hard) a b c
hard_break a b c x y = λ at q e. rw (x, y) (quoted_break false [] at (c ∷ q) e tt (omega arith))

pub escape_byte : (a b c v : ℕ) → a ≡ 61 → byte_of (hex b) (hex c) ≡ Some v → Reads (Some (Byte v)) a b c
escape_byte a b c v x y = λ at q e.
    let d = digits (hex b) (hex c) v y in
    ap (λ (n : ℕ). quoted at (n ∷ (b ∷ (c ∷ q))) e) x ∙ quoted-escape b c v at q e d.0 d.1 d.2 d.3 y

-- the token that raw bytes begin with
pub token_first : (t : Token) (s : Bytes) → 3 ≤ length s → Reads (Some t) (get_or s 0 0) (get_or s 1 0) (get_or s 2 0)
    → (at : ℕ) (q : Bytes) (e : End) → quoted at (s ++ q) e ≡ prefixed (token_gives t (get_or s 0 0)) (quoted (at + token_width t) (drop (token_width t) s ++ q) e)
token_first t [] h r at q e = absurd (omega arith)
token_first t (a ∷ []) h r at q e = absurd (omega arith)
token_first t (a ∷ b ∷ []) h r at q e = absurd (omega arith)
token_first Itself (a ∷ b ∷ c ∷ s) h r at q e = r at (s ++ q) e
token_first (Byte v) (a ∷ b ∷ c ∷ s) h r at q e = r at (s ++ q) e
token_first Soft (a ∷ b ∷ c ∷ s) h r at q e = r at (s ++ q) e
token_first Hard (a ∷ b ∷ c ∷ s) h r at q e = r at (s ++ q) e

-- a run of tokens at the start of raw bytes, where nothing is held back
quoted-none : (h : Bytes) (at : ℕ) (s : Bytes) (e : End) → h ≡ [] → quoted_from h at s e ≡ quoted at s e
quoted-none h at s e none = grind (arith, common_steps)

pub quoted_ran : (h raw rest : Bytes) (most : ℕ) {before after : Bytes} {given : ℕ} → h ≡ [] → most ≤ length raw → Ran quoted (take most raw) rest before after given
    → (at : ℕ) (q : Bytes) (e : End) → quoted_from h at (raw ++ q) e ≡ prefixed (take given after) (quoted_from h (at + (most - length rest)) (drop (most - length rest) raw ++ q) e)
quoted_ran h raw rest most {before} {after} {given} none long r at q e =
    let front = take most raw in
    let left = drop most raw in
    let size = length-take-le most raw long in
    let taken = most - length rest in
    let n : length front - length rest ≡ taken = omega arith in
    let f = r.fewer in
    let split : raw ++ q ≡ front ++ (left ++ q) = ap (λ (t : Bytes). t ++ q) (sym (take-append-drop most raw)) ∙ append_assoc front left q in
    let back : rest ++ (left ++ q) ≡ drop taken raw ++ q =
    sym (append_assoc rest left q)
    ∙ ap (λ (t : Bytes). t ++ q) (ap (λ (t : Bytes). t ++ left) (sym r.left ∙ ap (λ (k : ℕ). drop k front) n) ∙ sym (drop-append-le taken front left (omega arith)) ∙ ap (drop taken) (take-append-drop most raw)) in
    quoted-none h at (raw ++ q) e none ∙ ap (λ (t : Bytes). quoted at t e) split ∙ r.whole at (left ++ q) e
    ∙ ap (λ (k : ℕ). prefixed (take given after) (quoted (at + k) (rest ++ (left ++ q)) e)) n
    ∙ ap (λ (t : Bytes). prefixed (take given after) (quoted (at + taken) t e)) back
    ∙ ap (prefixed (take given after)) (sym (quoted-none h (at + taken) (drop taken raw ++ q) e none))
