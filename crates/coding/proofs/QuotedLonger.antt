-- A body decodes to no more bytes than it has.
use Rattle.std.proofs.Common.{◌≡◌, ℕ, suc, ◌+◌, ◌≤◌, Bool, true, false, cond, ◌&&◌, eqb, List, [], ◌∷◌, length, take, Some, None, Option, sym, refl, ap, ◌∙◌, arith}
use Rattle.std.proofs.lemmas.List.{length-append}
use Rattle.byte_lines.specs.Bytes.{Bytes}
use Rattle.byte_lines.specs.Lines.{Line, width, crlf, lines, onto}
use Rattle.byte_lines.proofs.LineLaws.{Begins}
use Rattle.source.specs.declared.ends.End.{End}
use Rattle.coding.specs.Decoding.{Decoded}
use Rattle.byte_lines.specs.Strings.{trim_end}
use Rattle.coding.specs.Quoted.{escape, unescaped, softened, text_of, line_text, overlong, quoted_line, quoted_lines, quoted}
use Rattle.coding.proofs.QuotedPieces.{BeginsSome, begins_take, begins_trim, begins_softened}

begins_length : (t s : Bytes) → Begins t s → length t ≤ length s
begins_length t s (r, p) = let l = sym (ap length p) ∙ length-append t r in omega arith

length-unescaped : (s : Bytes) → length (unescaped s) ≤ length s
unfolding unescaped
length-unescaped [] = omega arith
length-unescaped (a ∷ []) = omega arith
length-unescaped (a ∷ b ∷ []) = omega arith
length-unescaped (a ∷ b ∷ c ∷ cs) = go (escape a b c) (length-unescaped cs) (length-unescaped (b ∷ c ∷ cs))
  where
    go : (o : Option ℕ) → length (unescaped cs) ≤ length cs → length (unescaped (b ∷ c ∷ cs)) ≤ length (b ∷ c ∷ cs)
        → length {A = ℕ} (elim o [ Some v ↦ v ∷ unescaped cs | None ↦ a ∷ unescaped (b ∷ c ∷ cs) ]) ≤ length (a ∷ b ∷ c ∷ cs)
    go (Some v) h k = omega arith
    go None h k = omega arith

-- a part at the start of a line's content
length_part : (t c : Bytes) → Begins t c → length (unescaped t) ≤ length c
length_part t c b = let l = begins_length t c b in let u = length-unescaped t in omega arith

length_text : (o : Option Bytes) (t end : Bytes) → BeginsSome o t → length (text_of o t end) ≤ length t + length end
length_text (Some u) t end b = let l = length_part u t b in omega arith
length_text None t end b = let l = length-unescaped t in let n = length-append (unescaped t) end in omega arith

length_end : (ended : Bool) → length (cond ended crlf []) ≡ cond ended 2 0
length_end true = refl
length_end false = refl

length-line_text : (l : Line) → length (line_text l) ≤ width l
length-line_text l =
    let t = trim_end l.content in
    let end : Bytes = cond l.ended crlf [] in
    let x = length_text (softened t) t end (begins_softened t) in
    let y = begins_length t l.content (begins_trim l.content) in
    let z = length_end l.ended in
    omega arith

length-quoted-line : (o : Option ℕ) (at : ℕ) (l : Line) (rest : Decoded) → length (quoted_line o at l rest).bytes ≤ width l + length rest.bytes
length-quoted-line (Some k) at l rest = let x = length_part (take k l.content) l.content (begins_take k l.content) in omega arith
length-quoted-line None at l rest = let x = length-line_text l in let n = length-append (line_text l) rest.bytes in omega arith

abbrev widths : List Line → ℕ
widths [] = 0
widths (l ∷ ls) = width l + widths ls

length-quoted-lines : (at : ℕ) (ls : List Line) (e : End) → length (quoted_lines at ls e).bytes ≤ widths ls
unfolding quoted_lines
length-quoted-lines at [] e = omega arith
length-quoted-lines at (l ∷ ls) e =
    let rest = quoted_lines (at + width l) ls e in
    let x = length-quoted-line (overlong l.content) at l rest in
    let y = length-quoted-lines (at + width l) ls e in
    omega arith

widths-onto : (b : ℕ) (ls : List Line) → widths (onto b ls) ≡ suc (widths ls)
widths-onto b [] = refl
widths-onto b (l ∷ ls) = omega arith

widths-lines : (s : Bytes) → widths (lines s) ≡ length s
unfolding lines
widths-lines [] = refl
widths-lines (b ∷ []) = refl
widths-lines (b ∷ c ∷ cs) = go (eqb c 10 && eqb b 13) (widths-lines cs) (widths-lines (c ∷ cs))
  where
    go : (t : Bool) → widths (lines cs) ≡ length cs → widths (lines (c ∷ cs)) ≡ length (c ∷ cs)
        → widths (elim t [ true ↦ record { content = []; ended = true } ∷ lines cs | false ↦ onto b (lines (c ∷ cs)) ]) ≡ length (b ∷ c ∷ cs)
    go true h k = omega arith
    go false h k = widths-onto b (lines (c ∷ cs)) ∙ ap suc k

pub never_longer_lem : (at : ℕ) (raw : Bytes) (e : End) → length (quoted at raw e).bytes ≤ length raw
unfolding quoted
never_longer_lem at raw e = let x = length-quoted-lines at (lines raw) e in let y = widths-lines raw in omega arith
