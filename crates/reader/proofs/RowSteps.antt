-- The row, a head or a line at a time.
use Rattle.std.proofs.Common.{◌≡◌, ℕ, zero, suc, ◌+◌, Bool, true, false, List, [], ◌∷◌, ◌++◌, length, sym, refl, ap, ◌∙◌}
use mathlib.Core.Bool.{false≢true}
use Rattle.byte_lines.specs.Lines.{Line, width}
use Rattle.source.specs.declared.ends.End.{End}
use Rattle.head.specs.Media.{absent}
use Rattle.message.specs.Groups.{Group, innermost, Role, separates, closes, text, inside, role, fits}
use Rattle.message.specs.Entries.{closed, close_event}
use Rattle.message.specs.Heads.{Head, head}
use Rattle.message.specs.Rows.{heading, passing, line_row, opening, row, row_at_line, entity_row}
use Rattle.message.proofs.Roles.{is_text, Splits}
use Rattle.message.proofs.HeadLines.{head-fits, head-empty, head_more}
use Rattle.levels.specs.Fits.{located}
use Rattle.reader.specs.Nexts.{behind_head}

-- the role of a line that is known: the row in mode passing is the one from that line on
pub row-known : (e : End) (gs : List Group) (n at : ℕ) (ls : List Line) (r : Role) → r ≡ elim ls [ [] ↦ text | l ∷ m ↦ role gs l.content ]
    → row e gs n passing at ls ≡ row_at_line e r gs n at ls
unfolding row
row-known e gs n at [] r h = refl
row-known e gs n at (l ∷ ls) r h =
    ap (λ (x : Role). line_row x gs n passing at (absent l.content) (λ gs'. opening e gs' (n + 1) (at + width l) ls) (λ gs' n' m'. row e gs' n' m' (at + width l) ls)) (sym h)

-- a group is closed by a line of a group around it
pub closes_deeper : (e : End) (g : Group) (gs : List Group) (n at : ℕ) (l : Line) (ls : List Line) (r : Role) → Splits gs r → fits r ≡ true
    → row_at_line e (inside g r) (g ∷ gs) n at (l ∷ ls) ≡ closed (close_event g.number (innermost gs) (length gs) at 4) ∷ row_at_line e r gs n at (l ∷ ls)
closes_deeper e g gs n at l ls (separates deeper h around) s f =
    ap (λ (xs : List Group). closed (close_event g.number (innermost xs) (length xs) at 4) ∷ row_at_line e (separates deeper h around) gs n at (l ∷ ls)) (sym s)
closes_deeper e g gs n at l ls (closes deeper h around) s f =
    ap (λ (xs : List Group). closed (close_event g.number (innermost xs) (length xs) at 4) ∷ row_at_line e (closes deeper h around) gs n at (l ∷ ls)) (sym s)
closes_deeper e g gs n at l ls text s f = absurd (false≢true f)

located_splits : (make : List Group → Group → List Group → Role) → ((xs d : List Group) (g : Group) (a : List Group) → xs ≡ d ++ (g ∷ a) → Splits xs (make d g a))
    → ((x : Group) (xs : List Group) (r : Role) → Splits xs r → Splits (x ∷ xs) (inside x r)) → (i : ℕ) (gs : List Group) → Splits gs (located make i gs)
located_splits make h k i [] = tt
located_splits make h k zero (g ∷ gs) = h (g ∷ gs) [] g gs refl
located_splits make h k (suc i) (g ∷ gs) = k g gs (located make i gs) (located_splits make h k i gs)

inside_splits : (x : Group) (xs : List Group) (r : Role) → Splits xs r → Splits (x ∷ xs) (inside x r)
inside_splits x xs (separates d g a) h = ap (λ (l : List Group). x ∷ l) h
inside_splits x xs (closes d g a) h = ap (λ (l : List Group). x ∷ l) h
inside_splits x xs text h = tt

pub separates_splits : (i : ℕ) (gs : List Group) → Splits gs (located separates i gs)
separates_splits i gs = located_splits separates (λ xs d g a e. e) inside_splits i gs

pub closes_splits : (i : ℕ) (gs : List Group) → Splits gs (located closes i gs)
closes_splits i gs = located_splits closes (λ xs d g a e. e) inside_splits i gs

-- a separator of the innermost group opens the next entity behind it; a closing line closes that group
pub separates_here : (e : End) (g : Group) (gs : List Group) (n at : ℕ) (l : Line) (ls : List Line)
    → row_at_line e (separates [] g gs) (g ∷ gs) n at (l ∷ ls) ≡ entity_row e (g ∷ gs) n (at + width l) ls
separates_here e g gs n at l ls = refl

pub closes_here : (e : End) (g : Group) (gs : List Group) (n at : ℕ) (l : Line) (ls : List Line)
    → row_at_line e (closes [] g gs) (g ∷ gs) n at (l ∷ ls) ≡ closed (close_event g.number (innermost gs) (length gs) at 0) ∷ row e gs n passing (at + width l) ls
closes_here e g gs n at l ls = refl

-- the row behind a head
pub row-behind : (e : End) (hs gs : List Group) (n at : ℕ) (ls : List Line)
    → row e gs n (heading hs) at ls ≡ behind_head e hs gs n (head gs at ls).stop (head gs at ls).from (head gs at ls).rest
unfolding row head
row-behind e hs gs n at [] = refl
row-behind e hs gs n at (l ∷ ls) = go (fits (role gs l.content)) refl (absent l.content) refl (row-behind e hs gs n (at + width l) ls)
  where
    go : (b : Bool) → fits (role gs l.content) ≡ b → (c : Bool) → absent l.content ≡ c
        → row e gs n (heading hs) (at + width l) ls
        ≡ behind_head e hs gs n (head gs (at + width l) ls).stop (head gs (at + width l) ls).from (head gs (at + width l) ls).rest
        → row e gs n (heading hs) at (l ∷ ls) ≡ behind_head e hs gs n (head gs at (l ∷ ls)).stop (head gs at (l ∷ ls)).from (head gs at (l ∷ ls)).rest
    go true p c q k = sym (ap (λ (h : Head). behind_head e hs gs n h.stop h.from h.rest) (head-fits gs at l ls p))
    go false p true q k =
        ap (λ (x : Role). line_row x gs n (heading hs) at (absent l.content) (λ gs'. opening e gs' (n + 1) (at + width l) ls) (λ gs' n' m'. row e gs' n' m' (at + width l) ls)) (is_text (role gs l.content) p)
        ∙ ap (λ (x : Bool). line_row text gs n (heading hs) at x (λ gs'. opening e gs' (n + 1) (at + width l) ls) (λ gs' n' m'. row e gs' n' m' (at + width l) ls)) q
        ∙ sym (ap (λ (h : Head). behind_head e hs gs n h.stop h.from h.rest) (head-empty gs at l ls p q))
    go false p false q k =
        ap (λ (x : Role). line_row x gs n (heading hs) at (absent l.content) (λ gs'. opening e gs' (n + 1) (at + width l) ls) (λ gs' n' m'. row e gs' n' m' (at + width l) ls)) (is_text (role gs l.content) p)
        ∙ ap (λ (x : Bool). line_row text gs n (heading hs) at x (λ gs'. opening e gs' (n + 1) (at + width l) ls) (λ gs' n' m'. row e gs' n' m' (at + width l) ls)) q
        ∙ k
        ∙ sym (ap (λ (h : Head). behind_head e hs gs n h.stop h.from h.rest) (head_more gs at l ls p q))

-- where a line that fits ends the head of a group, the group is closed by that line
pub opened_at_line : (e : End) (g : Group) (gs : List Group) (n at : ℕ) (l : Line) (ls : List Line) → fits (role gs l.content) ≡ true
    → row e gs n (heading (g ∷ [])) at (l ∷ ls) ≡ row_at_line e (inside g (role gs l.content)) (g ∷ gs) n at (l ∷ ls)
unfolding row
opened_at_line e g gs n at l ls f = go (role gs l.content) f
  where
    go : (r : Role) → fits r ≡ true
        → line_row r gs n (heading (g ∷ [])) at (absent l.content) (λ gs'. opening e gs' (n + 1) (at + width l) ls) (λ gs' n' m'. row e gs' n' m' (at + width l) ls)
        ≡ row_at_line e (inside g r) (g ∷ gs) n at (l ∷ ls)
    go (separates deeper h around) f = refl
    go (closes deeper h around) f = refl
    go text f = absurd (false≢true f)

-- the lines of a leaf's head and body are passed
pub leaf_behind : (e : End) (gs : List Group) (n at : ℕ) (ls : List Line) → row e gs n (heading []) at ls ≡ row e gs n passing (head gs at ls).from (head gs at ls).rest
unfolding row head
leaf_behind e gs n at [] = refl
leaf_behind e gs n at (l ∷ ls) = go (fits (role gs l.content)) refl (absent l.content) refl (leaf_behind e gs n (at + width l) ls)
  where
    same : (r : Role) → fits r ≡ true
        → line_row r gs n (heading []) at (absent l.content) (λ gs'. opening e gs' (n + 1) (at + width l) ls) (λ gs' n' m'. row e gs' n' m' (at + width l) ls)
        ≡ line_row r gs n passing at (absent l.content) (λ gs'. opening e gs' (n + 1) (at + width l) ls) (λ gs' n' m'. row e gs' n' m' (at + width l) ls)
    same (separates deeper h around) f = refl
    same (closes deeper h around) f = refl
    same text f = absurd (false≢true f)

    go : (b : Bool) → fits (role gs l.content) ≡ b → (c : Bool) → absent l.content ≡ c
        → row e gs n (heading []) (at + width l) ls ≡ row e gs n passing (head gs (at + width l) ls).from (head gs (at + width l) ls).rest
        → row e gs n (heading []) at (l ∷ ls) ≡ row e gs n passing (head gs at (l ∷ ls)).from (head gs at (l ∷ ls)).rest
    go true p c q k = same (role gs l.content) p ∙ sym (ap (λ (h : Head). row e gs n passing h.from h.rest) (head-fits gs at l ls p))
    go false p true q k =
        ap (λ (x : Role). line_row x gs n (heading []) at (absent l.content) (λ gs'. opening e gs' (n + 1) (at + width l) ls) (λ gs' n' m'. row e gs' n' m' (at + width l) ls)) (is_text (role gs l.content) p)
        ∙ ap (λ (x : Bool). line_row text gs n (heading []) at x (λ gs'. opening e gs' (n + 1) (at + width l) ls) (λ gs' n' m'. row e gs' n' m' (at + width l) ls)) q
        ∙ sym (ap (λ (h : Head). row e gs n passing h.from h.rest) (head-empty gs at l ls p q))
    go false p false q k =
        ap (λ (x : Role). line_row x gs n (heading []) at (absent l.content) (λ gs'. opening e gs' (n + 1) (at + width l) ls) (λ gs' n' m'. row e gs' n' m' (at + width l) ls)) (is_text (role gs l.content) p)
        ∙ ap (λ (x : Bool). line_row text gs n (heading []) at x (λ gs'. opening e gs' (n + 1) (at + width l) ls) (λ gs' n' m'. row e gs' n' m' (at + width l) ls)) q
        ∙ k
        ∙ sym (ap (λ (h : Head). row e gs n passing h.from h.rest) (head_more gs at l ls p q))
