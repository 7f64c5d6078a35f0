-- Blanks held back that the line's end or too many others follow.
use Rattle.std.proofs.Common.{◌≡◌, ℕ, ◌+◌, ◌≤◌, Bool, true, false, cond, List, [], ◌∷◌, ◌++◌, length, take, Some, None, Option, refl, ap, ◌∙◌, append_assoc, append-nil, arith}
use mir.Val.{bool_byte}
use Rattle.std.proofs.lemmas.Bool.{lt-ltb}
use Rattle.byte_lines.specs.Bytes.{Bytes}
use Rattle.byte_lines.specs.Classes.{blank}
use Rattle.byte_lines.specs.Lines.{Line, width, crlf, lines}
use Rattle.byte_lines.proofs.LineLaws.{first, onto_all, lines_piece, lines_break}
use Rattle.source.specs.declared.ends.End.{End}
use Rattle.source.specs.declared.ends.End.TheVariants.{Faulty}
use Rattle.source.specs.Meanings.{fault}
use Rattle.coding.specs.Decoding.{Decoded, gives, prefixed}
use Rattle.byte_lines.specs.Strings.{kept, trim_end}
use Rattle.coding.specs.Quoted.{unescaped, softened, later, blanks, overlong, quoted_line, quoted_lines, quoted}
use Rattle.coding.proofs.QuotedPieces.{nothing, onto-line, onto-none}
use Rattle.coding.proofs.QuotedShapes.{AllBlank, equals_if}
use Rattle.coding.proofs.QuotedBytes.{blanks-more, trim_solid, overlong_short, overlong_solid}
use Rattle.coding.proofs.QuotedHeld.{goes_on_run, goes_on_equals, first_piece, blanks_run}

trim_run : (run : Bytes) → AllBlank run → trim_end run ≡ []
unfolding trim_end
trim_run [] a = refl
trim_run (b ∷ bs) (h, a) = ap (kept b) (trim_run bs a) ∙ rw (h, kept)

overlong_run : (run : Bytes) → AllBlank run → length run ≤ 76 → overlong run ≡ None
unfolding overlong blanks
overlong_run [] a m = refl
overlong_run (b ∷ bs) (h, a) m =
    let r = blanks_run (b ∷ bs) [] (h, a) in
    let same : blanks ((b ∷ bs) ++ []) ≡ blanks (b ∷ bs) = ap blanks (append-nil (b ∷ bs)) in
    overlong_short b bs (omega arith) ∙ ap later (overlong_run bs a (omega arith))

-- a line of such: it gives its CRLF, unless an '=' stands first
abbrev pub broken : (soft : Bool) → Bytes → Bytes
broken true end = []
broken false end = end

line_run : (soft : Bool) (run : Bytes) (at : ℕ) (ended : Bool) (rest : Decoded) → AllBlank run → length run ≤ 76
    → quoted_line (overlong (equals_if soft ++ run)) at (record { content = equals_if soft ++ run; ended = ended }) rest ≡ prefixed (broken soft (cond ended crlf [])) rest
unfolding softened unescaped trim_end
line_run false run at ended rest a m =
    let o = overlong_run run a m in
    let t = trim_run run a in
    rw (o, t)
line_run true run at ended rest a m =
    let o : overlong (61 ∷ run) ≡ None = overlong_solid 61 run refl ∙ ap later (overlong_run run a m) in
    let t : trim_end (61 ∷ run) ≡ 61 ∷ [] = trim_solid 61 run refl ∙ ap (λ (l : Bytes). 61 ∷ l) (trim_run run a) in
    rw (o, t)

-- a CRLF follows
pub quoted_break : (soft : Bool) (run : Bytes) (at : ℕ) (s : Bytes) (e : End) → AllBlank run → length run ≤ 76
    → quoted at ((equals_if soft ++ run) ++ (13 ∷ (10 ∷ s))) e ≡ prefixed (broken soft crlf) (quoted (at + (length (equals_if soft ++ run) + 2)) s e)
unfolding quoted quoted_lines
quoted_break soft run at s e a m =
    let held = equals_if soft ++ run in
    let empty : Line = record { content = []; ended = true } in
    ap (λ (ls : List Line). quoted_lines at ls e)
    (lines_piece held (13 ∷ (10 ∷ s)) (goes_on_equals soft run (13 ∷ (10 ∷ s)) (goes_on_run run (13 ∷ (10 ∷ s)) a)) ∙ ap (onto_all held) (lines_break s) ∙ onto-line held empty (lines s)
    ∙ ap (λ (c : Bytes). record { content = c; ended = true } ∷ lines s) (append-nil held))
    ∙ line_run soft run at true (quoted_lines (at + (length held + 2)) (lines s) e) a m

-- the body's end follows
end_line : (held : Bytes) (at : ℕ) (e : End) → quoted_lines at (onto_all held []) e ≡ quoted_lines at (record { content = held; ended = false } ∷ []) e
unfolding quoted_lines overlong softened trim_end unescaped
end_line [] at e = refl
end_line (b ∷ bs) at e = ap (λ (ls : List Line). quoted_lines at ls e) (onto-none b bs ∙ onto-line (b ∷ bs) nothing [] ∙ ap (λ (c : Bytes). record { content = c; ended = false } ∷ []) (append-nil (b ∷ bs)))

broken-none : (soft : Bool) → broken soft [] ≡ []
broken-none true = refl
broken-none false = refl

pub quoted_end : (soft : Bool) (run : Bytes) (at : ℕ) (e : End) → AllBlank run → length run ≤ 76 → quoted at ((equals_if soft ++ run) ++ []) e ≡ gives [] e
unfolding quoted quoted_lines lines
quoted_end soft run at e a m =
    let held = equals_if soft ++ run in
    ap (λ (ls : List Line). quoted_lines at ls e) (lines_piece held [] (goes_on_equals soft run [] (goes_on_run run [] a)))
    ∙ end_line held at e ∙ line_run soft run at false (gives [] e) a m ∙ ap (λ (l : Bytes). prefixed l (gives [] e)) (broken-none soft)

-- more than 76 blanks
overlong_long : (s : Bytes) → 77 ≤ blanks s → overlong s ≡ Some 0
unfolding overlong blanks
overlong_long [] h = absurd (omega arith)
overlong_long (b ∷ bs) h = let t = lt-ltb 76 (blanks (b ∷ bs)) h in rw (t, overlong)

overlong-held : (soft : Bool) (s : Bytes) → 77 ≤ blanks s → overlong (equals_if soft ++ s) ≡ Some (bool_byte soft)
overlong-held false s h = overlong_long s h
overlong-held true s h = overlong_solid 61 s refl ∙ ap later (overlong_long s h)

before-held : (soft : Bool) (s : Bytes) → unescaped (take (bool_byte soft) (equals_if soft ++ s)) ≡ equals_if soft
unfolding unescaped
before-held false s = refl
before-held true s = refl

lines-fault : (k at : ℕ) (ls : List Line) (e : End) → overlong (first ls) ≡ Some k → quoted_lines at ls e ≡ gives (unescaped (take k (first ls))) (Faulty (fault 52 5 (at + k)))
unfolding quoted_lines overlong
lines-fault k at [] e h = absurd (let z : ◌≡◌ {A = ℕ} 0 1 = cc in omega arith)
lines-fault k at (l ∷ ls) e h = ap (λ (o : Option ℕ). quoted_line o at l (quoted_lines (at + width l) ls e)) h

pub quoted-fault : (soft : Bool) (run : Bytes) (b at : ℕ) (s : Bytes) (e : End) → AllBlank run → length run ≡ 76 → blank b ≡ true
    → quoted at ((equals_if soft ++ run) ++ (b ∷ s)) e ≡ gives (equals_if soft) (Faulty (fault 52 5 (at + bool_byte soft)))
unfolding quoted
quoted-fault soft run b at s e a m h =
    let held = equals_if soft ++ run in
    let g = goes_on_equals soft run (b ∷ s) (goes_on_run run (b ∷ s) a) in
    let c = first (lines (b ∷ s)) in
    let f : first (lines (held ++ (b ∷ s))) ≡ equals_if soft ++ (run ++ c) = first_piece held (b ∷ s) g ∙ append_assoc (equals_if soft) run c in
    let fb = first_piece (b ∷ []) s (goes_on_run (b ∷ []) s (h, tt)) in
    let m1 = blanks-more b (first (lines s)) h in
    let m2 : blanks c ≡ blanks (b ∷ first (lines s)) = ap blanks fb in
    let m3 = blanks_run run c a in
    let o = overlong-held soft (run ++ c) (omega arith) in
    lines-fault (bool_byte soft) at (lines (held ++ (b ∷ s))) e (ap overlong f ∙ o)
    ∙ ap (λ (l : Bytes). gives l (Faulty (fault 52 5 (at + bool_byte soft)))) (ap (λ (l : Bytes). unescaped (take (bool_byte soft) l)) f ∙ before-held soft (run ++ c))
