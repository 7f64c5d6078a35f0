-- A text that needs no coding is itself.
use Rattle.std.proofs.Common.{◌≡◌, ℕ, ◌+◌, false, cond, eqb, List, [], ◌∷◌, ◌++◌, None, Option, sym, refl, ap, ◌∙◌}
use Rattle.std.specs.List.{flat_map, AllByRecursion}
use Rattle.std.proofs.lemmas.Bool.{or_parts, eqb-false, ne_eqb}
use Rattle.byte_lines.specs.Bytes.{Bytes}
use Rattle.byte_lines.specs.Lines.{Line, line_bytes, width, crlf, lines}
use Rattle.byte_lines.specs.Strings.{has}
use Rattle.byte_lines.proofs.LineLaws.{joined-lines}
use Rattle.source.specs.declared.ends.End.{End}
use Rattle.coding.specs.Decoding.{gives, prefixed}
use Rattle.coding.specs.Quoted.{unescaped, softened, also, text_of, line_text, quoted_line, quoted_lines, quoted}
use Rattle.coding.specs.QuotedLaws.{PlainLine, PlainIsItself}

-- the test of a byte the other way round
no_equals : (b : ℕ) → eqb 61 b ≡ false → eqb b 61 ≡ false
no_equals b h = ne_eqb b 61 (λ e. eqb-false 61 b h (sym e))

unescaped_mere : (s : Bytes) → has 61 s ≡ false → unescaped s ≡ s
unfolding unescaped
unescaped_mere [] h = refl
unescaped_mere (a ∷ []) h = refl
unescaped_mere (a ∷ b ∷ []) h = refl
unescaped_mere (a ∷ b ∷ c ∷ cs) h =
    let p = or_parts (eqb 61 a) (has 61 (b ∷ c ∷ cs)) h in
    rw (no_equals a p.0, unescaped) (ap (λ (r : Bytes). a ∷ r) (unescaped_mere (b ∷ c ∷ cs) p.1))

softened_mere : (s : Bytes) → has 61 s ≡ false → softened s ≡ None
unfolding softened
softened_mere [] h = refl
softened_mere (b ∷ []) h = let p = or_parts (eqb 61 b) false h in rw (no_equals b p.0, softened)
softened_mere (b ∷ c ∷ cs) h = let p = or_parts (eqb 61 b) (has 61 (c ∷ cs)) h in ap (also b) (softened_mere (c ∷ cs) p.1)

line_plain : (l : Line) → PlainLine l → line_text l ≡ line_bytes l
line_plain l p =
    let end : Bytes = cond l.ended crlf [] in
    ap (λ (t : Bytes). text_of (softened t) t end) p.solid ∙ ap (λ (o : Option Bytes). text_of o l.content end) (softened_mere l.content p.mere)
    ∙ ap (λ (t : Bytes). t ++ end) (unescaped_mere l.content p.mere)

lines_plain : (at : ℕ) (ls : List Line) (e : End) → AllByRecursion PlainLine ls → quoted_lines at ls e ≡ gives (flat_map line_bytes ls) e
unfolding quoted_lines
lines_plain at [] e p = refl
lines_plain at (l ∷ ls) e p =
    ap (λ (o : Option ℕ). quoted_line o at l (quoted_lines (at + width l) ls e)) p.0.short ∙ ap (λ (t : Bytes). prefixed t (quoted_lines (at + width l) ls e)) (line_plain l p.0)
    ∙ ap (prefixed (line_bytes l)) (lines_plain (at + width l) ls e p.1)

pub plain_is_itself : PlainIsItself
unfolding quoted
plain_is_itself at raw e p = lines_plain at (lines raw) e p ∙ ap (λ (s : Bytes). gives s e) (joined-lines raw)
