-- A piece of a line's raw bytes that stands for bytes of its own, whatever follows in the line.
use Rattle.std.proofs.Common.{◌≡◌, ℕ, zero, suc, ◌+◌, Bool, true, false, cond, eqb, List, [], ◌∷◌, ◌++◌, length, take, Some, None, Option, refl, ap, ◌∙◌, append_assoc, arith}
use Rattle.std.proofs.lemmas.List.{length-append}
use Rattle.byte_lines.specs.Bytes.{Bytes}
use Rattle.byte_lines.specs.Classes.{blank}
use Rattle.byte_lines.specs.Lines.{Line, width, crlf, lines, onto}
use Rattle.byte_lines.proofs.LineLaws.{Begins, begins_trans, first, onto_all, goes_on, lines_piece}
use Rattle.source.specs.declared.ends.End.{End}
use Rattle.source.specs.declared.ends.End.TheVariants.{Faulty}
use Rattle.source.specs.Meanings.{fault}
use Rattle.coding.specs.Decoding.{Decoded, gives, prefixed}
use Rattle.byte_lines.specs.Strings.{kept, trim_end}
use Rattle.coding.specs.Quoted.{unescaped, also, softened, text_of, line_text, later, overlong, quoted_line, quoted_lines, quoted}

begins_kept : (b : ℕ) (t s : Bytes) → Begins t s → Begins (kept b t) (b ∷ s)
begins_kept b [] s (r, p) = go (blank b)
  where
    go : (k : Bool) → Begins (elim k [ true ↦ [] | false ↦ b ∷ [] ]) (b ∷ s)
    go true = (b ∷ s, refl)
    go false = (r, ap (λ (l : Bytes). b ∷ l) p)
begins_kept b (x ∷ xs) s (r, p) = (r, ap (λ (l : Bytes). b ∷ l) p)

pub begins_trim : (s : Bytes) → Begins (trim_end s) s
unfolding trim_end
begins_trim [] = ([], refl)
begins_trim (b ∷ bs) = begins_kept b (trim_end bs) bs (begins_trim bs)

pub begins_take : (k : ℕ) (s : Bytes) → Begins (take k s) s
begins_take zero s = (s, refl)
begins_take (suc k) [] = ([], refl)
begins_take (suc k) (b ∷ bs) = let h = begins_take k bs in (h.0, ap (λ (l : Bytes). b ∷ l) h.1)

abbrev pub BeginsSome : Option Bytes → Bytes → Type 0
BeginsSome None s = Unit {0}
BeginsSome (Some t) s = Begins t s

begins_also : (b : ℕ) (o : Option Bytes) (s : Bytes) → BeginsSome o s → BeginsSome (also b o) (b ∷ s)
begins_also b None s h = tt
begins_also b (Some t) s (r, p) = (r, ap (λ (l : Bytes). b ∷ l) p)

pub begins_softened : (s : Bytes) → BeginsSome (softened s) s
unfolding softened
begins_softened [] = tt
begins_softened (b ∷ []) = go (eqb b 61)
  where
    go : (k : Bool) → BeginsSome (elim k [ true ↦ Some [] | false ↦ None ]) (b ∷ [])
    go true = (b ∷ [], refl)
    go false = tt
begins_softened (b ∷ c ∷ cs) = begins_also b (softened (c ∷ cs)) (c ∷ cs) (begins_softened (c ∷ cs))

abbrev pub laters : Bytes → Option ℕ → Option ℕ
laters [] o = o
laters (b ∷ bs) o = later (laters bs o)

abbrev pub alsos : Bytes → Option Bytes → Option Bytes
alsos [] o = o
alsos (b ∷ bs) o = also b (alsos bs o)

-- the piece p, where the line goes on with c, stands for d
pub record Stands (p d c : Bytes) : Type 0 where
  pub over : overlong (p ++ c) ≡ laters p (overlong c)
  pub trim : trim_end (p ++ c) ≡ p ++ trim_end c
  pub soft : softened (p ++ trim_end c) ≡ alsos p (softened (trim_end c))
  pub plain : (t : Bytes) → Begins t c → unescaped (p ++ t) ≡ d ++ unescaped t

abbrev past : Bytes → ℕ → ℕ
past [] k = k
past (b ∷ bs) k = suc (past bs k)

past_is : (p : Bytes) (k : ℕ) → past p k ≡ length p + k
past_is [] k = omega arith
past_is (b ∷ bs) k = let h = past_is bs k in omega arith

laters_some : (p : Bytes) (k : ℕ) → laters p (Some k) ≡ Some (past p k)
laters_some [] k = refl
laters_some (b ∷ bs) k = ap later (laters_some bs k)

laters-none : (p : Bytes) → laters p None ≡ None
laters-none [] = refl
laters-none (b ∷ bs) = ap later (laters-none bs)

alsos_some : (p t : Bytes) → alsos p (Some t) ≡ Some (p ++ t)
alsos_some [] t = refl
alsos_some (b ∷ bs) t = ap (also b) (alsos_some bs t)

alsos-none : (p : Bytes) → alsos p None ≡ None
alsos-none [] = refl
alsos-none (b ∷ bs) = ap (also b) (alsos-none bs)

take_past : (p : Bytes) (k : ℕ) (c : Bytes) → take (past p k) (p ++ c) ≡ p ++ take k c
take_past [] k c = refl
take_past (b ∷ bs) k c = ap (λ (l : Bytes). b ∷ l) (take_past bs k c)

abbrev pub on_line : Bytes → Line → Line
on_line p l = record { content = p ++ l.content; ended = l.ended }

abbrev pub nothing : Line
nothing = record { content = []; ended = false }

pub onto-line : (p : Bytes) (l : Line) (ls : List Line) → onto_all p (l ∷ ls) ≡ on_line p l ∷ ls
onto-line [] l ls = refl
onto-line (b ∷ bs) l ls = ap (onto b) (onto-line bs l ls)

pub onto-none : (b : ℕ) (bs : Bytes) → onto_all (b ∷ bs) [] ≡ onto_all (b ∷ bs) (nothing ∷ [])
onto-none b [] = refl
onto-none b (c ∷ cs) = ap (onto b) (onto-none c cs)

module _ (p d : Bytes) where
  text-stands : (o : Option Bytes) (t c end : Bytes) → Stands p d c → BeginsSome o t → Begins t c → text_of (alsos p o) (p ++ t) end ≡ d ++ text_of o t end
  text-stands (Some u) t c end s h i =
      ap (λ (o : Option Bytes). text_of o (p ++ t) end) (alsos_some p u) ∙ s.plain u (begins_trans u t c h i)
  text-stands None t c end s h i =
      ap (λ (o : Option Bytes). text_of o (p ++ t) end) (alsos-none p) ∙ ap (λ (l : Bytes). l ++ end) (s.plain t i) ∙ append_assoc d (unescaped t) end

  line-text-stands : (l : Line) → Stands p d l.content → line_text (on_line p l) ≡ d ++ line_text l
  line-text-stands l s =
      let c = l.content in
      let t = trim_end c in
      let end : Bytes = cond l.ended crlf [] in
      ap (λ (u : Bytes). text_of (softened u) u end) s.trim ∙ ap (λ (o : Option Bytes). text_of o (p ++ t) end) s.soft
      ∙ text-stands (softened t) t c end s (begins_softened t) (begins_trim c)

  line-stands : (o : Option ℕ) (at : ℕ) (l : Line) (rest : Decoded) → Stands p d l.content
      → quoted_line (laters p o) at (on_line p l) rest ≡ prefixed d (quoted_line o (at + length p) l rest)
  line-stands (Some k) at l rest s =
      let place : at + past p k ≡ at + length p + k = ap (λ (n : ℕ). at + n) (past_is p k) ∙ omega arith in
      let text : unescaped (take (past p k) (p ++ l.content)) ≡ d ++ unescaped (take k l.content) =
      ap unescaped (take_past p k l.content) ∙ s.plain (take k l.content) (begins_take k l.content) in
      ap (λ (o : Option ℕ). quoted_line o at (on_line p l) rest) (laters_some p k)
      ∙ ap (λ (t : Bytes). gives t (Faulty (fault 52 5 (at + past p k)))) text
      ∙ ap (λ (n : ℕ). gives (d ++ unescaped (take k l.content)) (Faulty (fault 52 5 n))) place
  line-stands None at l rest s =
      ap (λ (o : Option ℕ). quoted_line o at (on_line p l) rest) (laters-none p)
      ∙ ap (λ (t : Bytes). prefixed t rest) (line-text-stands l s)
      ∙ ap (λ (t : Bytes). gives t rest.ending) (append_assoc d (line_text l) rest.bytes)

-- a line with nothing in it at the end gives nothing
lines-nothing : (at : ℕ) (e : End) → quoted_lines at (nothing ∷ []) e ≡ quoted_lines at [] e
unfolding quoted_lines overlong softened trim_end unescaped
lines-nothing at e = refl

lines_one : (p d : Bytes) (at : ℕ) (l : Line) (ls : List Line) (e : End) → Stands p d l.content
    → quoted_lines at (onto_all p (l ∷ ls)) e ≡ prefixed d (quoted_lines (at + length p) (l ∷ ls) e)
unfolding quoted_lines
lines_one p d at l ls e s =
    let place : at + width (on_line p l) ≡ at + length p + width l =
    ap (λ (n : ℕ). at + (n + cond l.ended 2 0)) (length-append p l.content) ∙ omega arith in
    ap (λ (m : List Line). quoted_lines at m e) (onto-line p l ls)
    ∙ ap (λ (o : Option ℕ). quoted_line o at (on_line p l) (quoted_lines (at + width (on_line p l)) ls e)) s.over
    ∙ ap (λ (n : ℕ). quoted_line (laters p (overlong l.content)) at (on_line p l) (quoted_lines n ls e)) place
    ∙ line-stands p d (overlong l.content) at l (quoted_lines (at + length p + width l) ls e) s

pub lines-stands : (b : ℕ) (bs d : Bytes) (at : ℕ) (ls : List Line) (e : End) → Stands (b ∷ bs) d (first ls)
    → quoted_lines at (onto_all (b ∷ bs) ls) e ≡ prefixed d (quoted_lines (at + length (b ∷ bs)) ls e)
lines-stands b bs d at [] e s =
    ap (λ (m : List Line). quoted_lines at m e) (onto-none b bs) ∙ lines_one (b ∷ bs) d at nothing [] e s
    ∙ ap (prefixed d) (lines-nothing (at + length (b ∷ bs)) e)
lines-stands b bs d at (l ∷ ls) e s = lines_one (b ∷ bs) d at l ls e s

-- such a piece at the start of a body
pub quoted-stands : (b : ℕ) (bs d : Bytes) (at : ℕ) (s : Bytes) (e : End) → goes_on (b ∷ bs) s ≡ true → Stands (b ∷ bs) d (first (lines s))
    → quoted at ((b ∷ bs) ++ s) e ≡ prefixed d (quoted (at + length (b ∷ bs)) s e)
unfolding quoted
quoted-stands b bs d at s e h k = ap (λ (m : List Line). quoted_lines at m e) (lines_piece (b ∷ bs) s h) ∙ lines-stands b bs d at (lines s) e k
