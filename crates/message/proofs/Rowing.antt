-- Every row proceeds.
use Rattle.std.proofs.Common.{◌≡◌, ℕ, suc, ◌+◌, Bool, true, false, List, [], ◌∷◌, ◌++◌, length, sym, refl, ap, ◌∙◌, subst, append_assoc, add-one}
use Rattle.byte_lines.specs.Lines.{Line, width, lines}
use Rattle.source.specs.declared.ends.End.{End}
use Rattle.source.specs.declared.ends.End.TheVariants.{Clean, Faulty}
use Rattle.input.specs.Inputs.{first}
use Rattle.head.specs.Fields.{Field, fields_of}
use Rattle.head.specs.LineFaults.{Verdict, passes, faulty, judged}
use Rattle.head.specs.Media.{absent}
use Rattle.head.specs.Entities as entities
use Rattle.head.specs.Entities.{Entity, entity}
use Rattle.message.specs.declared.events.Event.{Event}
use Rattle.message.specs.Groups.{Group, innermost, Role, role, separates, closes, text}
use Rattle.message.specs.Entries.{Entry}
use Rattle.message.specs.Heads.{Head, head}
use Rattle.message.specs.Bodies.{end_in}
use Rattle.message.specs.Rows.{Opening, fails, opens_leaf, opens_group, closing, told, new_group, Mode, heading, passing, opens, last_entry, line_row, head_end, unless, opening_by, opening, row, row_of}
use Rattle.message.specs.RowLaws.{Opens, Proceeds, RowsProceed}
use Rattle.message.proofs.Roles.{Splits, role_splits}

-- the openings os are those of the open groups gs, deepest first
abbrev pub Stands : List Event → List Group → Type 0
Stands [] [] = Unit {0}
Stands [] (g ∷ gs) = ⊥
Stands (o ∷ os) [] = ⊥
Stands (o ∷ os) (g ∷ gs) = (o.number ≡ g.number) × (o.parent ≡ innermost gs) × (o.depth ≡ length gs) × Stands os gs

stands_parent : (os : List Event) (gs : List Group) → Stands os gs → elim os [ [] ↦ 0 | o ∷ r ↦ o.number ] ≡ innermost gs
stands_parent [] [] h = refl
stands_parent [] (g ∷ gs) h = absurd h
stands_parent (o ∷ os) [] h = absurd h
stands_parent (o ∷ os) (g ∷ gs) h = h.0

stands_depth : (os : List Event) (gs : List Group) → Stands os gs → length os ≡ length gs
stands_depth [] [] h = refl
stands_depth [] (g ∷ gs) h = absurd h
stands_depth (o ∷ os) [] h = absurd h
stands_depth (o ∷ os) (g ∷ gs) h = ap suc (stands_depth os gs h.3)

-- behind the closings of the deeper groups, the row goes on inside the others
closing_proceeds : (at mark n : ℕ) (gs around : List Group) (os : List Event) (r : List Entry) → Stands os (gs ++ around)
    → ((os' : List Event) → Stands os' around → Proceeds os' n r) → Proceeds os n (closing at mark gs around r)
closing_proceeds at m n [] around os r h k = k os h
closing_proceeds at m n (g ∷ gs) around [] r h k = absurd h
closing_proceeds at m n (g ∷ gs) around (o ∷ os) r h k =
    (record { number = sym h.0; parent = sym h.1; depth = sym h.2 }, closing_proceeds at m n gs around os r h.3 k)

-- the opening of entity n + 1 inside the groups gs
abbrev pub OpensIn : List Group → ℕ → Opening → Type 0
OpensIn gs n (fails f) = Unit {0}
OpensIn gs n (opens_leaf ev fs b) = (ev.number ≡ suc n) × (ev.parent ≡ innermost gs) × (ev.depth ≡ length gs)
OpensIn gs n (opens_group ev fs g) = (ev.number ≡ suc n) × (ev.parent ≡ innermost gs) × (ev.depth ≡ length gs) × (g.number ≡ ev.number)

unless-opens : (gs : List Group) (n at : ℕ) (v : Verdict) (x : End) (o : Opening) → OpensIn gs n o → OpensIn gs n (unless at v x o)
unless-opens gs n at (faulty number offset) x o h = tt
unless-opens gs n at (passes k) (Faulty f) o h = tt
unless-opens gs n at (passes k) Clean o h = h

by_opens : (e : End) (gs : List Group) (n at : ℕ) (h : Head) (fs : List Field) (y : Entity) → OpensIn gs n (opening_by e gs (n + 1) at h fs y)
by_opens e gs n at h fs (entities.refused number) = tt
by_opens e gs n at h fs (entities.group b) = (add-one n, refl, refl, refl)
by_opens e gs n at h fs (entities.leaf coding marks) = (add-one n, refl, refl)

pub opening_opens : (e : End) (gs : List Group) (n at : ℕ) (ls : List Line) → OpensIn gs n (opening e gs (n + 1) at ls)
unfolding opening
opening_opens e gs n at ls =
    let h : Head = head gs at ls in
    let fs : List Field = fields_of h.lines in
    unless-opens gs n at (judged 0 0 h.lines) (head_end gs h.stop h.from e) (opening_by e gs (n + 1) at h fs (entity (length gs) fs))
    (by_opens e gs n at h fs (entity (length gs) fs))

opens_in : (os : List Event) (gs : List Group) (n : ℕ) (ev : Event) → Stands os gs → ev.number ≡ suc n → ev.parent ≡ innermost gs → ev.depth ≡ length gs → Opens os n ev
opens_in os gs n ev s a b c = record { number = a; parent = b ∙ sym (stands_parent os gs s); depth = c ∙ sym (stands_depth os gs s) }

-- an opening, and what follows inside the groups that are open then
told_proceeds : (gs : List Group) (n : ℕ) (os : List Event) (o : Opening) (r : List Entry) → Stands os gs → OpensIn gs n o
    → ((os' : List Event) → Stands os' (new_group o ++ gs) → Proceeds os' (suc n) r) → Proceeds os n (told o r)
told_proceeds gs n os (fails f) r s h k = refl
told_proceeds gs n os (opens_leaf ev fs b) r s h k = (opens_in os gs n ev s h.0 h.1 h.2, k os s)
told_proceeds gs n os (opens_group ev fs g) r s h k = (opens_in os gs n ev s h.0 h.1 h.2, k (ev ∷ os) (sym h.3, h.1, h.2, s))

last_proceeds : (os : List Event) (gs : List Group) (n at : ℕ) (e : End) → Stands os gs → Proceeds os n (last_entry (end_in gs at e) n at)
last_proceeds [] [] n at Clean s = (refl, refl, refl)
last_proceeds [] [] n at (Faulty f) s = refl
last_proceeds [] (g ∷ gs) n at e s = absurd s
last_proceeds (o ∷ os) [] n at e s = absurd s
last_proceeds (o ∷ os) (g ∷ gs) n at Clean s = refl
last_proceeds (o ∷ os) (g ∷ gs) n at (Faulty f) s = refl

-- the groups that a mode opens, those deeper, the group that fits and those around it
regroup : (hs gs d : List Group) (g : Group) (around : List Group) → gs ≡ d ++ (g ∷ around) → hs ++ gs ≡ (hs ++ d) ++ (g ∷ around)
regroup hs gs d g around e = ap (λ (l : List Group). hs ++ l) e ∙ sym (append_assoc hs d (g ∷ around))

-- a line, and the row behind it
line_proceeds : (f : Role) (gs : List Group) (n : ℕ) (m : Mode) (at : ℕ) (empty : Bool) (opened : List Group → Opening) (after : List Group → ℕ → Mode → List Entry) (os : List Event)
    → Splits gs f → ((gs' : List Group) → OpensIn gs' n (opened gs'))
    → ((gs' : List Group) (n' : ℕ) (m' : Mode) (os' : List Event) → Stands os' (opens m' ++ gs') → Proceeds os' n' (after gs' n' m'))
    → Stands os (opens m ++ gs) → Proceeds os n (line_row f gs n m at empty opened after)
line_proceeds (separates deeper g around) gs n m at empty opened after os f o k s =
    closing_proceeds at 4 n (opens m ++ deeper) (g ∷ around) os _ (subst (Stands os) (regroup (opens m) gs deeper g around f) s)
    (λ os' t. told_proceeds (g ∷ around) n os' (opened (g ∷ around)) _ t (o (g ∷ around))
    (λ os'' u. subst (λ (x : ℕ). Proceeds os'' x (after (g ∷ around) (n + 1) (heading (new_group (opened (g ∷ around)))))) (add-one n)
    (k (g ∷ around) (n + 1) (heading (new_group (opened (g ∷ around)))) os'' u)))
line_proceeds (closes deeper g around) gs n m at empty opened after os f o k s =
    closing_proceeds at 4 n (opens m ++ deeper) (g ∷ around) os _ (subst (Stands os) (regroup (opens m) gs deeper g around f) s)
    (λ os' t. closing_proceeds at 0 n (g ∷ []) around os' (after around n passing) t (λ os'' u. k around n passing os'' u))
line_proceeds text gs n (heading hs) at true opened after os f o k s = k (hs ++ gs) n passing os s
line_proceeds text gs n (heading hs) at false opened after os f o k s = k gs n (heading hs) os s
line_proceeds text gs n passing at empty opened after os f o k s = k gs n passing os s

pub row_proceeds : (e : End) (gs : List Group) (n : ℕ) (m : Mode) (at : ℕ) (ls : List Line) (os : List Event) → Stands os (opens m ++ gs) → Proceeds os n (row e gs n m at ls)
unfolding row
row_proceeds e gs n m at [] os s = last_proceeds os (opens m ++ gs) n at e s
row_proceeds e gs n m at (l ∷ ls) os s =
    line_proceeds (role gs l.content) gs n m at (absent l.content) (λ gs'. opening e gs' (n + 1) (at + width l) ls)
    (λ gs' n' m'. row e gs' n' m' (at + width l) ls) os (role_splits gs l.content)
    (λ gs'. opening_opens e gs' n (at + width l) ls) (λ gs' n' m' os' t. row_proceeds e gs' n' m' (at + width l) ls os' t) s

pub rows_proceed : RowsProceed
unfolding row_of
rows_proceed m =
    let e = (first 16777216 m).ending in
    let ls = lines (first 16777216 m).left in
    told_proceeds [] 0 [] (opening e [] 1 0 ls) _ tt (opening_opens e [] 0 0 ls)
    (λ os s. row_proceeds e [] 1 (heading (new_group (opening e [] 1 0 ls))) 0 ls os s)
