-- What a raw byte does to a decoder, by what it holds back.
use Rattle.std.proofs.lemmas.Grind.{common_steps}
use Rattle.std.proofs.Common.{◌≡◌, ℕ, ◌+◌, ◌-◌, ◌<◌, ◌≤◌, Bool, true, false, not, ◌&&◌, eqb, ◌⊎◌, [], ◌∷◌, ◌++◌, length, get_or, take, is_some, Some, None, sym, refl, ap, ◌∙◌, ⊎_elim, append_assoc, append-nil, arith}
use mir.Val.{bool_byte}
use Rattle.std.specs.Option.{IsSome}
use Rattle.std.proofs.lemmas.List.{length-append}
use Rattle.std.proofs.lemmas.Bool.{and_right, and_from, lt-leb, le-leb, ne_eqb, or_from}
use Rattle.byte_lines.specs.Bytes.{Bytes}
use Rattle.byte_lines.specs.Classes.{within, blank, hex}
use Rattle.byte_lines.specs.Lines.{crlf, lines}
use Rattle.source.specs.declared.ends.End.{End}
use Rattle.source.specs.declared.ends.End.TheVariants.{Faulty}
use Rattle.source.specs.Meanings.{fault}
use Rattle.coding.specs.declared.quoted.Kind.{Kind}
use Rattle.coding.specs.declared.quoted.Kind.TheVariants.{Blanks, Digit, Cr}
use Rattle.coding.specs.Decoding.{gives, prefixed}
use Rattle.coding.specs.QuotedHeld.{quoted_from, Mere}
use Rattle.coding.specs.Quoted.{byte_of, quoted_lines, quoted}
use Rattle.coding.proofs.QuotedShapes.{some_parts, digit_at, equals_first, AllBlank, equals_if, Blank, Return, Half, Shape, blank-length}
use Rattle.coding.proofs.QuotedBytes.{digits, Plain, plain_start, plain_second, blank_no_hex}
use Rattle.coding.proofs.QuotedHeld.{goes_on_one, goes_start, quoted_other, quoted-escape, release_blanks, release_return, release_half}
use Rattle.coding.proofs.QuotedBreaks.{broken, quoted_break, quoted_end, quoted-fault}

-- classes by order, as a `match` has them --------------------------------------------------------

abbrev pub NotHex : ℕ → Type 0
NotHex b = (b < 48) ⊎ (((57 < b) × (b < 65)) ⊎ (((70 < b) × (b < 97)) ⊎ (102 < b)))

abbrev pub IsHex : ℕ → Type 0
IsHex b = ((48 ≤ b) × (b ≤ 57)) ⊎ (((65 ≤ b) × (b ≤ 70)) ⊎ ((97 ≤ b) × (b ≤ 102)))

not_hex : (b : ℕ) → NotHex b → hex b ≡ None
not_hex b h = grind (arith, common_steps)

pub is_hex : (b : ℕ) → IsHex b → (v : ℕ) × (hex b ≡ Some v)
is_hex b h = let k : is_some (hex b) ≡ true = grind (arith, common_steps) in some_parts (hex b) k

pub is_blank : (b : ℕ) → (b ≡ 32) ⊎ (b ≡ 9) → blank b ≡ true
is_blank b h = ⊎_elim (λ e. ap blank e) (λ e. ap blank e) h

no_blank : (b : ℕ) → (b ≡ 32 → ⊥) → (b ≡ 9 → ⊥) → blank b ≡ false
no_blank b h k = or_from (eqb b 32) (eqb b 9) (ne_eqb b 32 h) (ne_eqb b 9 k)

pub quoted_mere_one : (b at : ℕ) (s : Bytes) (e : End) → Mere b → quoted at (b ∷ s) e ≡ prefixed (b ∷ []) (quoted (at + 1) s e)
quoted_mere_one b at s e m = quoted_other b at s e (goes_on_one b s (ne_eqb b 13 m.3)) (no_blank b m.0 m.1) (ne_eqb b 61 m.2)

-- what is held stays as it is ---------------------------------------------------------------------

-- the byte b settles that, where so many bytes are held
abbrev pub Loose : Kind → (len b : ℕ) → Type 0
Loose (Blanks soft) len b = (b ≡ 32 → ⊥) × (b ≡ 9 → ⊥) × (b ≡ 13 → ⊥) × (soft ≡ true → len ≡ 1 → NotHex b)
Loose Digit len b = NotHex b
Loose (Cr soft) len b = b ≡ 10 → ⊥

plain_held : (run : Bytes) (b : ℕ) (q : Bytes) → AllBlank run → (length run ≡ 0 → hex b ≡ None) → Plain (run ++ (b ∷ q))
plain_held [] b q a h = plain_start b q (h refl)
plain_held (x ∷ xs) b q (k, a) h = plain_start x (xs ++ (b ∷ q)) (blank_no_hex x k)

released : (kind : Kind) (h : Bytes) (at b : ℕ) (q : Bytes) (e : End) → Shape kind h → Loose kind (length h) b → quoted at (h ++ (b ∷ q)) e ≡ prefixed h (quoted (at + length h) (b ∷ q) e)
released (Blanks soft) h at b q e s l =
    let size = blank-length soft h s in
    let plain : soft ≡ true → Plain (s.run ++ (b ∷ q)) =
    λ t. plain_held s.run b q s.all (λ z. let o : bool_byte soft ≡ 1 = ap bool_byte t in not_hex b (l.3 t (omega arith))) in
    rw s.is (release_blanks soft s.run at (b ∷ q) e s.all s.most (goes_start b q (goes_on_one b q (ne_eqb b 13 l.2)) (no_blank b l.0 l.1)) plain)
released Digit h at b q e s l = rw s.is (release_half s.digit s.value at (b ∷ q) e s.hexadecimal (plain_second s.digit b q (not_hex b l)))
released (Cr soft) h at b q e s l =
    let k = s.blanks in
    rw s.is (release_return soft k.run at (b ∷ q) e k.all k.most (ap (λ (t : Bool). not (t && true)) (ne_eqb b 10 l)) s.front k.is)

-- steps -----------------------------------------------------------------------------------------

-- with h held, the byte b at the offset `at` gives `out`, and h' is held then
abbrev pub Holds : (h : Bytes) (at b : ℕ) (out h' : Bytes) → Type 0
Holds h at b out h' = (q : Bytes) (e : End) → quoted_from h at (b ∷ q) e ≡ prefixed out (quoted_from h' (at + 1) q e)

pub both_digits : (h : Bytes) (b : ℕ) → Half h → IsHex b → IsSome (byte_of (hex (get_or h 1 0)) (hex b))
both_digits h b s x = grind (arith, common_steps)

module _ (h : Bytes) (at b : ℕ) (behind : length h ≤ at) where
  -- what was held is given, and b is held
  pub step_release : (kind : Kind) → Shape kind h → Loose kind (length h) b → Holds h at b h (b ∷ [])
  step_release kind s l q e =
      let place : at - length h + length h ≡ at + 1 - 1 = omega arith in
      released kind h (at - length h) b q e s l ∙ ap (λ (i : ℕ). prefixed h (quoted i (b ∷ q) e)) place

  -- what was held is given, and b
  pub step_literal : (kind : Kind) → Shape kind h → Loose kind (length h) b → Mere b → Holds h at b (h ++ (b ∷ [])) []
  step_literal kind s l m q e =
      let place : at - length h + length h + 1 ≡ at + 1 - 0 = omega arith in
      released kind h (at - length h) b q e s l
      ∙ ap (prefixed h) (quoted_mere_one b (at - length h + length h) q e m)
      ∙ ap (λ (i : ℕ). prefixed h (prefixed (b ∷ []) (quoted i q e))) place
      ∙ ap (λ (l : Bytes). gives l (quoted (at + 1 - 0) q e).ending) (sym (append_assoc h (b ∷ []) (quoted (at + 1 - 0) q e).bytes))

  -- the LF of a CRLF
  pub step_break : (soft : Bool) → Return soft h → b ≡ 10 → Holds h at b (broken soft crlf) []
  step_break soft s t q e =
      let k = s.blanks in
      let f = equals_if soft ++ k.run in
      let is : h ≡ f ++ (13 ∷ []) = s.is ∙ ap (λ (l : Bytes). l ++ (13 ∷ [])) k.is in
      let size = ap length is ∙ length-append f (13 ∷ []) in
      let place : at - length h + (length f + 2) ≡ at + 1 - 0 = omega arith in
      ap (λ (l : Bytes). quoted (at - length h) l e) (ap (λ (l : Bytes). l ++ (b ∷ q)) is ∙ ap (λ (n : ℕ). (f ++ (13 ∷ [])) ++ (n ∷ q)) t ∙ append_assoc f (13 ∷ []) (10 ∷ q))
      ∙ quoted_break soft k.run (at - length h) q e k.all k.most
      ∙ ap (λ (i : ℕ). prefixed (broken soft crlf) (quoted i q e)) place

  -- the 77th blank
  pub step_fault : (soft : Bool) → Blank soft h → length h ≡ 76 + bool_byte soft → blank b ≡ true
      → (q : Bytes) (e : End) → quoted_from h at (b ∷ q) e ≡ prefixed (take (bool_byte soft) h) (gives [] (Faulty (fault 52 5 (at - 76))))
  step_fault soft s m t q e =
      let first : equals_if soft ≡ take (bool_byte soft) h = sym (ap (take (bool_byte soft)) s.is ∙ equals_first soft s.run) in
      let size = blank-length soft h s in
      let place : at - length h + bool_byte soft ≡ at - 76 = omega arith in
      ap (λ (l : Bytes). quoted (at - length h) (l ++ (b ∷ q)) e) s.is
      ∙ quoted-fault soft s.run b (at - length h) q e s.all (omega arith) t
      ∙ ap (λ (i : ℕ). gives (equals_if soft) (Faulty (fault 52 5 i))) place
      ∙ ap (λ (l : Bytes). gives l (Faulty (fault 52 5 (at - 76)))) (sym (append-nil (equals_if soft)))
      ∙ ap (λ (l : Bytes). prefixed l (gives [] (Faulty (fault 52 5 (at - 76))))) first

  -- the second digit
  pub step_escape : (s : Half h) (v : ℕ) → byte_of (hex (get_or h 1 0)) (hex b) ≡ Some v → Holds h at b (v ∷ []) []
  step_escape s v byte q e =
      let size = ap length s.is in
      let place : at - length h + 3 ≡ at + 1 - 0 = omega arith in
      let t = ap (λ (n : ℕ). byte_of (hex n) (hex b)) (sym (digit_at h s)) ∙ byte in
      let low = digits (hex s.digit) (hex b) v t in
      ap (λ (l : Bytes). quoted (at - length h) (l ++ (b ∷ q)) e) s.is
      ∙ quoted-escape s.digit b v (at - length h) q e low.0 low.1 low.2 low.3 t
      ∙ ap (λ (i : ℕ). prefixed (v ∷ []) (quoted i q e)) place

-- the body's end ----------------------------------------------------------------------------------

-- blanks at the end are dropped, with an '=' before them; the others stay
abbrev pub left : Kind → Bytes → Bytes
left (Blanks soft) h = []
left Digit h = h
left (Cr soft) h = h

pub quoted-nothing : (at : ℕ) (e : End) → quoted at [] e ≡ gives [] e
unfolding quoted quoted_lines lines
quoted-nothing at e = refl

pub ended : (kind : Kind) (h : Bytes) (at : ℕ) (e : End) → Shape kind h → quoted at (h ++ []) e ≡ gives (left kind h) e
ended (Blanks soft) h at e s = rw s.is (quoted_end soft s.run at e s.all s.most)
ended Digit h at e s =
    let d = s.digit in
    rw s.is (release_half d s.value at [] e s.hexadecimal tt ∙ ap (prefixed (61 ∷ (d ∷ []))) (quoted-nothing (at + 2) e))
ended (Cr soft) h at e s =
    let k = s.blanks in
    let f = s.front ++ (13 ∷ []) in
    rw s.is (
    release_return soft k.run at [] e k.all k.most refl s.front k.is
    ∙ ap (prefixed f) (quoted-nothing (at + length f) e) ∙ ap (λ (l : Bytes). gives l e) (append-nil f))

pub left-others : (kind : Kind) (h : Bytes) → ((soft : Bool) → kind ≡ Blanks soft → ⊥) → left kind h ≡ h
left-others (Blanks soft) h n = absurd (n soft refl)
left-others Digit h n = refl
left-others (Cr soft) h n = refl
