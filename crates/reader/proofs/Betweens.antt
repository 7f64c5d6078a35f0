-- From one part to the next line of a group, or to the message's end.
use Rattle.std.proofs.Common.{◌≡◌, ℕ, zero, suc, ◌+◌, Bool, true, false, List, [], ◌∷◌, length, is_some, Some, None, Option, Result, sym, refl, ap, ◌∙◌, arith}
use mathlib.Core.Bool.{false≢true}
use Rattle.std.proofs.lemmas.Bool.{ltb-true}
use Rattle.byte_lines.specs.Lines.{Line, lines, width}
use Rattle.source.specs.declared.ends.End.{End}
use Rattle.source.specs.declared.ends.End.TheVariants.{Clean, Faulty}
use Rattle.source.specs.declared.ends.Fault.{Fault}
use Rattle.source.specs.Meanings.{Meaning as SourceMeaning}
use Rattle.head.specs.Media.{absent}
use Rattle.input.specs.declared.window.Input.{Input}
use Rattle.input.specs.Inputs.{Meaning as InputMeaning, meaning as input_meaning, known, Knows}
use Rattle.message.specs.declared.events.Event.{Event}
use Rattle.message.specs.Groups.{Group, Role, separates, closes, text, role, fits}
use Rattle.message.specs.Bodies.{end_in}
use Rattle.message.specs.Entries.{Entry}
use Rattle.message.specs.Rows.{Opening, Mode, passing, line_row, opening, row, last_entry}
use Rattle.levels.specs.declared.levels.Fit.TheVariants.{Separates}
use Rattle.levels.specs.Fits.{fit_role}
use Rattle.scan.specs.Streams.{Stop}
use Rattle.reader.specs.declared.reader.Stage.{Stage}
use Rattle.reader.specs.declared.reader.Stage.TheVariants.{Head, Body, Between, Line as AtGroupLine, Over}
use Rattle.levels.specs.declared.levels.Fit.{Fit}
use Rattle.levels.specs.declared.levels.Fit.TheVariants.{Closes}
use Rattle.reader.specs.Stages.{is_of, fits_by}
use Rattle.reader.specs.Readers.{ahead_by, last_of}
use Rattle.reader.specs.Nexts.{end_by, Standing}
use Rattle.source.specs.declared.sources.Source.{Ghosts}

-- whether a line that fits is empty is nothing to it
pub fits_flag : (r : Role) (gs : List Group) (n : ℕ) (m : Mode) (at : ℕ) (b c : Bool) (o : List Group → Opening) (a : List Group → ℕ → Mode → List Entry) → fits r ≡ true
    → line_row r gs n m at b o a ≡ line_row r gs n m at c o a
fits_flag (separates deeper g around) gs n m at b c o a f = refl
fits_flag (closes deeper g around) gs n m at b c o a f = refl
fits_flag text gs n m at b c o a f = absurd (false≢true f)

-- a line that fits: what it brings, where its role and what follows are known
pub row_line : (e : End) (gs : List Group) (n at : ℕ) (l : Line) (ls : List Line) (fit : Fit) (i : InputMeaning) (s : Stop) → fit_role gs fit ≡ role gs l.content → fits (fit_role gs fit) ≡ true
    → e ≡ i.ending → at + width l ≡ i.offset → ls ≡ lines i.left
    → row e gs n passing at (l ∷ ls) ≡ ahead_by (AtGroupLine fit at) gs n i s
unfolding row
row_line e gs n at l ls fit i s is f ends next rest =
    ap (λ (r : Role). line_row r gs n passing at (absent l.content) (λ gs'. opening e gs' (n + 1) (at + width l) ls) (λ gs' n' m'. row e gs' n' m' (at + width l) ls)) (sym is)
    ∙ fits_flag (fit_role gs fit) gs n passing at (absent l.content) false (λ gs'. opening e gs' (n + 1) (at + width l) ls) (λ gs' n' m'. row e gs' n' m' (at + width l) ls) f
    ∙ ap (λ (x : End). line_row (fit_role gs fit) gs n passing at false (λ gs'. opening x gs' (n + 1) (at + width l) ls) (λ gs' n' m'. row x gs' n' m' (at + width l) ls)) ends
    ∙ ap (λ (x : ℕ). line_row (fit_role gs fit) gs n passing at false (λ gs'. opening i.ending gs' (n + 1) x ls) (λ gs' n' m'. row i.ending gs' n' m' x ls)) next
    ∙ ap (λ (x : List Line). line_row (fit_role gs fit) gs n passing at false (λ gs'. opening i.ending gs' (n + 1) i.offset x) (λ gs' n' m'. row i.ending gs' n' m' i.offset x)) rest

-- the input's end, as it is met inside the groups
pub end_met : {S : Type 0} {G : Ghosts S} (source : S → SourceMeaning) (i : Input S G) (gs : List Group) (o : Option End) (depth at : ℕ) → Knows source i o → is_some (known i) ≡ true → depth ≡ length gs
    → end_by o depth at ≡ end_in gs at (input_meaning source i).ending
end_met source i gs None depth at k h d = absurd (false≢true (sym (ap is_some k) ∙ h))
end_met source i gs (Some e) depth at k h d =
    ap (λ (n : ℕ). end_by (Some e) n at) d ∙ go gs e ∙ ap (end_in gs at) (sym k.is)
  where
    go : (hs : List Group) (x : End) → end_by (Some x) (length hs) at ≡ end_in hs at x
    go [] Clean = refl
    go [] (Faulty f) = refl
    go (g ∷ hs) Clean = refl
    go (g ∷ hs) (Faulty f) = refl

pub row_end : (e : End) (gs : List Group) (n at : ℕ) (x : End) (last : Result Event Fault) (i : InputMeaning) (s : Stop) → x ≡ end_in gs at e → last_of last ∷ [] ≡ last_entry x n at
    → row e gs n passing at [] ≡ ahead_by (Over last) gs n i s
unfolding row
row_end e gs n at x last i s met told = cc

-- a separator of the innermost group stands before a head
pub turn_head : (gs : List Group) (n at : ℕ) (i : InputMeaning) (s : Stop) → is_of (Separates 0) gs ≡ true → ahead_by Head gs n i s ≡ ahead_by (AtGroupLine (Separates 0) at) gs n i s
turn_head [] n at i s h = absurd (omega (arith, ltb-true 0 0 h))
turn_head (g ∷ gs) n at i s h = refl

-- where it is none, what next tells is settled
pub stands_by : (st : Stage) (gs : List Group) → fits_by st gs ≡ true → (st ≡ Body → ⊥) → (st ≡ Between → ⊥) → ((at : ℕ) → st ≡ AtGroupLine (Separates 0) at → ⊥) → Standing st
stands_by Head gs f b t h = tt
stands_by Body gs f b t h = b refl
stands_by Between gs f b t h = t refl
stands_by (AtGroupLine (Separates zero) at) gs f b t h = h at refl
stands_by (AtGroupLine (Separates (suc i)) at) gs f b t h = tt
stands_by (AtGroupLine (Closes i) at) gs f b t h = tt
stands_by (Over last) gs f b t h = tt
