-- What a reader of a row has of a scan: the body at hand is that of the definition, and what lies behind it hangs on its stop alone.
use Rattle.std.proofs.Common.{◌≡◌, ℕ, ◌+◌, ◌≤◌, false, List, [], ◌∷◌, length, sym, refl, ap, ◌∙◌, subst, inl, inr}
use mathlib.Core.Bool.{false≢true}
use Rattle.std.proofs.lemmas.Bool.{cases_Bool}
use Rattle.byte_lines.specs.Lines.{Line, lines, width}
use Rattle.source.specs.declared.ends.End.{End}
use Rattle.source.specs.Meanings.{Meaning}
use Rattle.input.specs.Inputs.{meaning}
use Rattle.input.proofs.Windows.{within-limit}
use Rattle.message.specs.Groups.{Group, Role, separates, closes, text, role, fits}
use Rattle.message.specs.Bodies.{body, body_end}
use Rattle.message.specs.Rows.{row, passing}
use Rattle.scan.specs.declared.places.Place.{Place}
use Rattle.scan.specs.declared.scans.Scan.{Scan}
use Rattle.levels.specs.Opened.{groups}
use Rattle.scan.specs.Streams.{end_at, Stop, stop_from, stop_at, stop, body_at, raw_left, passed_over, AtLine}
use Rattle.source.specs.declared.sources.Source.{Ghosts}

-- The row and the end, by the lines from a body's start on.

not_text : (r : Role) → fits r ≡ false → r ≡ text
not_text (separates d g a) h = absurd (false≢true (sym h))
not_text (closes d g a) h = absurd (false≢true (sym h))
not_text text h = refl

-- the row behind a body, or behind what is dropped, is the row at its stop
pub row-stop : (e : End) (gs : List Group) (n at : ℕ) (ls : List Line) → row e gs n passing at ls ≡ row e gs n passing (stop_from gs at ls).from (stop_from gs at ls).lines
unfolding row stop_from
row-stop e gs n at [] = refl
row-stop e gs n at (l ∷ ls) =
    elim (cases_Bool (fits (role gs l.content))) [
      | inl y ↦ rw (y, stop_from)
      | inr y ↦ rw (not_text (role gs l.content) y, row, stop_from) (row-stop e gs n (at + width l) ls)
    ]

pub end_stop : (gs : List Group) (at : ℕ) (ls : List Line) (e : End) → body_end gs at ls e ≡ end_at gs (stop_from gs at ls) e
unfolding body_end stop_from
end_stop gs at [] e = refl
end_stop gs at (l ∷ ls) e =
    elim (cases_Bool (fits (role gs l.content))) [
      | inl y ↦ rw (y, body_end, stop_from)
      | inr y ↦ rw (y, body_end, stop_from) (end_stop gs (at + width l) ls e)
    ]

-- Before a body, or before what is dropped.
module _ {S : Type 0} {G : Ghosts S} (source : S → Meaning) (s : Scan S G) (at : AtLine s) where
  pub body-left : raw_left source s ≡ body (groups s.lines.levels) (lines (meaning source s.lines.input).left)
  unfolding raw_left
  body-left = ap (λ (p : Place). body_at (groups s.lines.levels) p (meaning source s.lines.input).left) at

  pub body-stop : stop source s ≡ stop_from (groups s.lines.levels) (meaning source s.lines.input).offset (lines (meaning source s.lines.input).left)
  unfolding stop
  body-stop = ap (λ (p : Place). stop_at (groups s.lines.levels) p (meaning source s.lines.input).offset (meaning source s.lines.input).left) at

  pub body_end_lem : (e : End) → body_end (groups s.lines.levels) (meaning source s.lines.input).offset (lines (meaning source s.lines.input).left) e ≡ end_at (groups s.lines.levels) (stop source s) e
  body_end_lem e = end_stop (groups s.lines.levels) (meaning source s.lines.input).offset (lines (meaning source s.lines.input).left) e ∙ ap (λ (x : Stop). end_at (groups s.lines.levels) x e) (sym body-stop)

  pub body-row : (e : End) (n : ℕ)
      → row e (groups s.lines.levels) n passing (meaning source s.lines.input).offset (lines (meaning source s.lines.input).left)
      ≡ row e (groups s.lines.levels) n passing (stop source s).from (stop source s).lines
  body-row e n =
      row-stop e (groups s.lines.levels) n (meaning source s.lines.input).offset (lines (meaning source s.lines.input).left)
      ∙ ap (λ (x : Stop). row e (groups s.lines.levels) n passing x.from x.lines) (sym body-stop)

-- Counts.

-- the offset is how many bytes were passed over
pub passed_offset : {S : Type 0} {G : Ghosts S} (source : S → Meaning) (s : Scan S G) → (meaning source s.lines.input).offset ≡ passed_over s
unfolding passed_over meaning
passed_offset source s = refl

-- they are bytes of the input
pub passed-limit : {S : Type 0} {G : Ghosts S} (source : S → Meaning) (s : Scan S G) → passed_over s + length (meaning source s.lines.input).left ≤ 16777216
passed-limit source s = subst (λ (n : ℕ). n + length (meaning source s.lines.input).left ≤ 16777216) (passed_offset source s) (within-limit source s.lines.input)
