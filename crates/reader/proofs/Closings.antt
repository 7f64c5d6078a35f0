-- A group is closed by a line.
use Rattle.std.proofs.Common.{◌≡◌, ℕ, zero, suc, ◌+◌, Bool, true, false, List, [], ◌∷◌, length, None, Option, unwrap_or, sym, refl, ap, ◌∙◌, arith}
use mathlib.Core.Bool.{false≢true}
use Rattle.std.proofs.lemmas.Bool.{ltb-true, lt-ltb}
use Rattle.byte_lines.specs.Lines.{lines}
use Rattle.coding.specs.Decoding.{Decoded}
use Rattle.input.specs.Inputs.{Meaning as InputMeaning}
use Rattle.message.specs.Groups.{Group, innermost, Role, separates, closes, text, inside, fits}
use Rattle.message.specs.Entries.{Entry, closed, close_event}
use Rattle.message.specs.Rows.{Opening, Mode, passing, line_row, opening, row}
use Rattle.message.proofs.Roles.{Splits}
use Rattle.levels.specs.declared.levels.Fit.{Fit}
use Rattle.levels.specs.declared.levels.Fit.TheVariants.{Separates, Closes}
use Rattle.levels.specs.Opened.{popped}
use Rattle.levels.specs.Fits.{located}
use Rattle.levels.proofs.LineTests.{fit_fits}
use Rattle.scan.specs.Streams.{Stop, stop_from}
use Rattle.scan.proofs.Stops.{row-stop}
use Rattle.reader.specs.declared.reader.Stage.{Stage}
use Rattle.reader.specs.declared.reader.Stage.TheVariants.{Line}
use Rattle.reader.specs.Stages.{is_of, fits_by}
use Rattle.reader.specs.Readers.{ahead_by, part_by}
use Rattle.reader.specs.Nexts.{Closing, closing_by}
use Rattle.reader.proofs.RowSteps.{separates_splits, closes_splits}

-- a line of a group around it closes the innermost group first
closes_inner : (g : Group) (gs : List Group) (n at : ℕ) (b : Bool) (o : List Group → Opening) (a : List Group → ℕ → Mode → List Entry) (r : Role) → Splits gs r → fits r ≡ true
    → line_row (inside g r) (g ∷ gs) n passing at b o a ≡ closed (close_event g.number (innermost gs) (length gs) at 4) ∷ line_row r gs n passing at b o a
closes_inner g gs n at b o a (separates deeper h around) s f =
    ap (λ (xs : List Group). closed (close_event g.number (innermost xs) (length xs) at 4) ∷ line_row (separates deeper h around) gs n passing at b o a) (sym s)
closes_inner g gs n at b o a (closes deeper h around) s f =
    ap (λ (xs : List Group). closed (close_event g.number (innermost xs) (length xs) at 4) ∷ line_row (closes deeper h around) gs n passing at b o a) (sym s)
closes_inner g gs n at b o a text s f = absurd (false≢true f)

-- what is ahead at a line of a group
pub closes_by : (g : Group) (gs : List Group) (n : ℕ) (i : InputMeaning) (s t : Stop) (fit : Fit) (at : ℕ) → Closing fit → is_of fit (g ∷ gs) ≡ true
    → t ≡ stop_from gs i.offset (lines i.left)
    → ahead_by (Line fit at) (g ∷ gs) n i s ≡ closed (close_event g.number (innermost gs) (length gs) at (closing_by fit at).0) ∷ ahead_by (closing_by fit at).1 gs n i t
closes_by g gs n i s t (Separates zero) at c w e = absurd c
closes_by g gs n i s t (Separates (suc k)) at c w e =
    closes_inner g gs n at false (λ gs'. opening i.ending gs' (n + 1) i.offset (lines i.left)) (λ gs' n' m'. row i.ending gs' n' m' i.offset (lines i.left))
    (located separates k gs) (separates_splits k gs) (fit_fits gs (Separates k) (omega (arith, ltb-true (suc k) (suc (length gs)) w)))
closes_by g gs n i s t (Closes zero) at c w e =
    ap (λ (r : List Entry). closed (close_event g.number (innermost gs) (length gs) at 0) ∷ r)
    (row-stop i.ending gs n i.offset (lines i.left) ∙ ap (λ (x : Stop). row i.ending gs n passing x.from x.lines) (sym e))
closes_by g gs n i s t (Closes (suc k)) at c w e =
    closes_inner g gs n at false (λ gs'. opening i.ending gs' (n + 1) i.offset (lines i.left)) (λ gs' n' m'. row i.ending gs' n' m' i.offset (lines i.left))
    (located closes k gs) (closes_splits k gs) (fit_fits gs (Closes k) (omega (arith, ltb-true (suc k) (suc (length gs)) w)))

-- the innermost of the open groups, and the others
pub record Pops (fit : Fit) (gs gs' : List Group) (o : Option ℕ) : Type 0 where
  pub top : Group
  pub all : gs ≡ top ∷ gs'
  pub told : unwrap_or o 0 ≡ top.number

pub pops : (fit : Fit) (gs gs' : List Group) (o : Option ℕ) → is_of fit gs ≡ true → (o, gs') ≡ popped gs → Pops fit gs gs' o
pops (Separates i) [] gs' o w e = absurd (omega (arith, ltb-true i 0 w))
pops (Closes i) [] gs' o w e = absurd (omega (arith, ltb-true i 0 w))
pops (Separates i) (g ∷ gs) gs' o w e =
    record { top = g; all = ap (λ (l : List Group). g ∷ l) (sym (ap (λ (p : Option ℕ × List Group). p.1) e)); told = ap (λ (p : Option ℕ × List Group). unwrap_or p.0 0) e }
pops (Closes i) (g ∷ gs) gs' o w e =
    record { top = g; all = ap (λ (l : List Group). g ∷ l) (sym (ap (λ (p : Option ℕ × List Group). p.1) e)); told = ap (λ (p : Option ℕ × List Group). unwrap_or p.0 0) e }

-- the line that is left to close others is one of them
pub fits_after : (fit : Fit) (at : ℕ) (g : Group) (gs : List Group) → is_of fit (g ∷ gs) ≡ true → fits_by (closing_by fit at).1 gs ≡ true
fits_after (Separates zero) at g gs w = refl
fits_after (Separates (suc i)) at g gs w = lt-ltb i (length gs) (omega (arith, ltb-true (suc i) (suc (length gs)) w))
fits_after (Closes zero) at g gs w = refl
fits_after (Closes (suc i)) at g gs w = lt-ltb i (length gs) (omega (arith, ltb-true (suc i) (suc (length gs)) w))

-- the entry, as it is put together
pub close-told : (g : Group) (gs : List Group) (n : ℕ) (i i' : InputMeaning) (t : Stop) (at mark number parent depth marks : ℕ) (st stage : Stage)
    → number ≡ g.number → parent ≡ innermost gs → depth ≡ length gs → marks ≡ mark → stage ≡ st → i' ≡ i
    → closed (close_event g.number (innermost gs) (length gs) at mark) ∷ ahead_by st gs n i t ≡ closed (close_event number parent depth at marks) ∷ ahead_by stage gs n i' t
close-told g gs n i i' t at mark number parent depth marks st stage a b c d e f = cc

-- no part is open then
pub closing_part : (fit : Fit) (at n : ℕ) (d : Decoded) → part_by (closing_by fit at).1 n d ≡ None
closing_part (Separates zero) at n d = refl
closing_part (Separates (suc i)) at n d = refl
closing_part (Closes zero) at n d = refl
closing_part (Closes (suc i)) at n d = refl

pub no_part : (st : Stage) (fit : Fit) (at n : ℕ) (d : Decoded) → st ≡ (closing_by fit at).1 → part_by st n d ≡ None
no_part st fit at n d e = ap (λ (x : Stage). part_by x n d) e ∙ closing_part fit at n d
