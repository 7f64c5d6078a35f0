-- What is held back of a line, by what follows.
use Rattle.std.proofs.Common.{◌≡◌, ℕ, suc, ◌+◌, ◌≤◌, Bool, true, false, not, ◌&&◌, eqb, List, [], ◌∷◌, ◌++◌, length, Some, sym, refl, ap, ◌∙◌, append_assoc, arith}
use Rattle.std.proofs.lemmas.List.{length-append}
use Rattle.std.proofs.lemmas.Bool.{and_right}
use Rattle.byte_lines.specs.Bytes.{Bytes}
use Rattle.byte_lines.specs.Classes.{blank, hex}
use Rattle.byte_lines.specs.Lines.{Line, lines}
use Rattle.byte_lines.proofs.LineLaws.{first, first-onto_all, first_begins, onto_all, goes_on, lines_piece}
use Rattle.source.specs.declared.ends.End.{End}
use Rattle.coding.specs.Decoding.{gives, prefixed}
use Rattle.coding.specs.Quoted.{byte_of, blanks, quoted_lines, quoted}
use Rattle.coding.proofs.QuotedPieces.{lines-stands, quoted-stands}
use Rattle.coding.proofs.QuotedShapes.{AllBlank, equals_if}
use Rattle.coding.proofs.QuotedBytes.{blank_not, hex_not, hex_no_blank, blank_no_hex, Plain, plain_start, blanks_solid, blanks-more, stands_other, Solid, solid_start, solid_after, stands-blank, stands_equals, stands-escape}

-- pieces within a line --------------------------------------------------------------------------

pub goes_on_one : (b : ℕ) (q : Bytes) → eqb b 13 ≡ false → goes_on (b ∷ []) q ≡ true
goes_on_one b [] h = refl
goes_on_one b (c ∷ cs) h = ap not (and_right (eqb c 10) (eqb b 13) h)

-- a byte other than CR begins no CRLF
goes_on_more : (b : ℕ) (p q : Bytes) → eqb b 13 ≡ false → goes_on p q ≡ true → goes_on (b ∷ p) q ≡ true
goes_on_more b [] q h k = goes_on_one b q h
goes_on_more b (c ∷ cs) q h k = ap (λ (t : Bool). not t && goes_on (c ∷ cs) q) (and_right (eqb c 10) (eqb b 13) h) ∙ k

pub goes_on_run : (run q : Bytes) → AllBlank run → goes_on run q ≡ true
goes_on_run [] q a = refl
goes_on_run (b ∷ bs) q (h, a) = goes_on_more b bs q (blank_not 13 b refl h) (goes_on_run bs q a)

pub goes_on_equals : (soft : Bool) (p q : Bytes) → goes_on p q ≡ true → goes_on (equals_if soft ++ p) q ≡ true
goes_on_equals true p q h = goes_on_more 61 p q refl h
goes_on_equals false p q h = h

pub first_piece : (p q : Bytes) → goes_on p q ≡ true → first (lines (p ++ q)) ≡ p ++ first (lines q)
first_piece p q h = ap first (lines_piece p q h) ∙ first-onto_all p (lines q)

-- single bytes ----------------------------------------------------------------------------------

-- an ordinary byte that begins no CRLF
pub quoted_other : (b : ℕ) (at : ℕ) (s : Bytes) (e : End) → goes_on (b ∷ []) s ≡ true → blank b ≡ false → eqb b 61 ≡ false
    → quoted at (b ∷ s) e ≡ prefixed (b ∷ []) (quoted (at + 1) s e)
quoted_other b at s e g h k = quoted-stands b [] (b ∷ []) at s e g (stands_other b (first (lines s)) h k)

-- an '=' and two hexadecimal digits
pub quoted-escape : (a b v : ℕ) (at : ℕ) (s : Bytes) (e : End) → (h l : ℕ) → hex a ≡ Some h → hex b ≡ Some l → byte_of (hex a) (hex b) ≡ Some v
    → quoted at (61 ∷ (a ∷ (b ∷ s))) e ≡ prefixed (v ∷ []) (quoted (at + 3) s e)
quoted-escape a b v at s e h l p q r =
    quoted-stands 61 (a ∷ (b ∷ [])) (v ∷ []) at s e
    (goes_on_more 61 (a ∷ (b ∷ [])) s refl (goes_on_more a (b ∷ []) s (hex_not 13 a h refl p) (goes_on_one b s (hex_not 13 b l refl q))))
    (stands-escape a b h l v (first (lines s)) p q r)

-- runs of blanks --------------------------------------------------------------------------------

pub blanks_run : (run s : Bytes) → AllBlank run → blanks (run ++ s) ≡ length run + blanks s
blanks_run [] s a = omega arith
blanks_run (b ∷ bs) s (h, a) = let m = blanks-more b (bs ++ s) h in let r = blanks_run bs s a in omega arith

-- a text that goes on in the line with a byte other than a blank
pub record Goes (s : Bytes) : Type 0 where
  pub solid : Solid (first (lines s))
  pub none : blanks (first (lines s)) ≡ 0

pub goes_start : (x : ℕ) (q : Bytes) → goes_on (x ∷ []) q ≡ true → blank x ≡ false → Goes (x ∷ q)
goes_start x q g h =
    let f = first_piece (x ∷ []) q g in
    record { solid = rw f (solid_start x (first (lines q)) h); none = rw f (blanks_solid x (first (lines q)) h) }

run_stands : (run : Bytes) (at : ℕ) (ls : List Line) (e : End) → AllBlank run → length run ≤ 76 → Solid (first ls) → blanks (first ls) ≡ 0
    → quoted_lines at (onto_all run ls) e ≡ prefixed run (quoted_lines (at + length run) ls e)
run_stands [] at ls e a m k z = let n : at ≡ at + 0 = omega arith in ap (λ (i : ℕ). quoted_lines i ls e) n
run_stands (b ∷ bs) at ls e (h, a) m k z =
    let f = first-onto_all bs ls in
    let solid : Solid (first (onto_all bs ls)) = rw f (solid_after bs (first ls) k) in
    let few : blanks (first (onto_all bs ls)) ≤ 75 = let r = blanks_run bs (first ls) a in rw f (omega arith) in
    let place : at + 1 + length bs ≡ at + suc (length bs) = omega arith in
    lines-stands b [] (b ∷ []) at (onto_all bs ls) e (stands-blank b (first (onto_all bs ls)) h solid few)
    ∙ ap (prefixed (b ∷ [])) (run_stands bs (at + 1) ls e a (omega arith) k z)
    ∙ ap (λ (i : ℕ). prefixed (b ∷ bs) (quoted_lines i ls e)) place

plain_run : (run s : Bytes) → AllBlank run → Plain s → Plain (run ++ s)
plain_run [] s a p = p
plain_run (b ∷ bs) s (h, a) p = plain_start b (bs ++ s) (blank_no_hex b h)

-- an '=' of which nothing is made, and blanks that stay
pub release_blanks : (soft : Bool) (run : Bytes) (at : ℕ) (s : Bytes) (e : End) → AllBlank run → length run ≤ 76 → Goes s → (soft ≡ true → Plain (run ++ s))
    → quoted at ((equals_if soft ++ run) ++ s) e ≡ prefixed (equals_if soft ++ run) (quoted (at + length (equals_if soft ++ run)) s e)
unfolding quoted
release_blanks false run at s e a m g p =
    ap (λ (ls : List Line). quoted_lines at ls e) (lines_piece run s (goes_on_run run s a)) ∙ run_stands run at (lines s) e a m g.solid g.none
release_blanks true run at s e a m g p =
    let f = first_piece run s (goes_on_run run s a) in
    let solid : Solid (first (lines (run ++ s))) = rw f (solid_after run (first (lines s)) g.solid) in
    let place : at + 1 + length run ≡ at + suc (length run) = omega arith in
    quoted-stands 61 [] (61 ∷ []) at (run ++ s) e (goes_on_one 61 (run ++ s) refl) (stands_equals (first (lines (run ++ s))) (run ++ s) solid (first_begins (run ++ s)) (p refl))
    ∙ ap (λ (ls : List Line). prefixed (61 ∷ []) (quoted_lines (at + 1) ls e)) (lines_piece run s (goes_on_run run s a))
    ∙ ap (prefixed (61 ∷ [])) (run_stands run (at + 1) (lines s) e a m g.solid g.none)
    ∙ ap (λ (i : ℕ). prefixed (61 ∷ run) (quoted_lines i (lines s) e)) place

-- these and a CR that no LF follows
pub release_return : (soft : Bool) (run : Bytes) (at : ℕ) (s : Bytes) (e : End) → AllBlank run → length run ≤ 76 → goes_on (13 ∷ []) s ≡ true
    → (front : Bytes) → front ≡ equals_if soft ++ run
    → quoted at ((front ++ (13 ∷ [])) ++ s) e ≡ prefixed (front ++ (13 ∷ [])) (quoted (at + length (front ++ (13 ∷ []))) s e)
release_return soft run at s e a m g front is =
    let b = equals_if soft ++ run in
    let place : at + length b + 1 ≡ at + length (b ++ (13 ∷ [])) = let l = length-append b (13 ∷ []) in omega arith in
    rw is (
    ap (λ (l : Bytes). quoted at l e) (append_assoc b (13 ∷ []) s)
    ∙ release_blanks soft run at (13 ∷ s) e a m (goes_start 13 s g refl) (λ h. plain_run run (13 ∷ s) a (plain_start 13 s refl))
    ∙ ap (prefixed b) (quoted_other 13 (at + length b) s e g refl refl)
    ∙ ap (λ (i : ℕ). prefixed b (prefixed (13 ∷ []) (quoted i s e))) place
    ∙ ap (λ (l : Bytes). gives l (quoted (at + length (b ++ (13 ∷ []))) s e).ending) (sym (append_assoc b (13 ∷ []) (quoted (at + length (b ++ (13 ∷ []))) s e).bytes)))

-- an '=' and a hexadecimal digit that no other follows
pub release_half : (d v : ℕ) (at : ℕ) (s : Bytes) (e : End) → hex d ≡ Some v → Plain (d ∷ s)
    → quoted at (61 ∷ (d ∷ s)) e ≡ prefixed (61 ∷ (d ∷ [])) (quoted (at + 2) s e)
release_half d v at s e h p =
    let g = goes_on_one d s (hex_not 13 d v refl h) in
    let f = first_piece (d ∷ []) s g in
    let solid : Solid (first (lines (d ∷ s))) = rw f (solid_start d (first (lines s)) (hex_no_blank d v h)) in
    let place : at + 1 + 1 ≡ at + 2 = omega arith in
    quoted-stands 61 [] (61 ∷ []) at (d ∷ s) e (goes_on_one 61 (d ∷ s) refl) (stands_equals (first (lines (d ∷ s))) (d ∷ s) solid (first_begins (d ∷ s)) p)
    ∙ ap (prefixed (61 ∷ [])) (quoted_other d (at + 1) s e g (hex_no_blank d v h) (hex_not 61 d v refl h))
    ∙ ap (λ (i : ℕ). prefixed (61 ∷ (d ∷ [])) (quoted i s e)) place
