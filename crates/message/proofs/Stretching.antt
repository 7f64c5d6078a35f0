-- The raw bodies of a row are stretches of the input, one behind the other.
use Rattle.std.proofs.Common.{◌≡◌, ℕ, ◌+◌, ◌≤◌, Bool, true, false, cond, List, [], ◌∷◌, ◌++◌, length, take, drop, sym, refl, ap, ◌∙◌, subst, append_assoc, arith, length-append}
use Rattle.std.specs.List.{flat_map}
use Rattle.std.proofs.lemmas.List.{take_at, drop_at, drop-drop}
use Rattle.byte_lines.specs.Bytes.{Bytes}
use Rattle.byte_lines.specs.Lines.{Line, line_bytes, width, lines}
use Rattle.byte_lines.proofs.LineLaws.{joined-lines}
use Rattle.source.specs.declared.ends.End.{End}
use Rattle.source.specs.declared.ends.End.TheVariants.{Clean, Faulty}
use Rattle.input.specs.Inputs.{first}
use Rattle.head.specs.Fields.{Field, fields_of}
use Rattle.head.specs.LineFaults.{Verdict, passes, faulty, judged}
use Rattle.head.specs.Media.{absent}
use Rattle.head.specs.Entities as entities
use Rattle.head.specs.Entities.{Entity, entity}
use Rattle.message.specs.Groups.{Group, Role, role, separates, closes, text, fits}
use Rattle.message.specs.Entries.{Entry}
use Rattle.message.specs.Heads.{Head, head}
use Rattle.message.specs.Bodies.{body, body_from, end_in}
use Rattle.message.specs.Rows.{Opening, fails, opens_leaf, opens_group, closing, told, new_group, Mode, heading, passing, opens, last_entry, line_row, head_end, unless, opening_by, opening, row, row_of}
use Rattle.message.specs.RowLaws.{Stretches, BodiesInOrder}
use Rattle.message.proofs.BodyRuns.{held_bytes, body_from_text, body_from-fits}
use Rattle.message.proofs.HeadLines.{head-fits, head-empty, head_more}

-- the lines are those of the input s from the offset `at` on
abbrev pub Rest : Bytes → ℕ → List Line → Type 0
Rest s at ls = flat_map line_bytes ls ≡ drop at s

pub length-line : (l : Line) → length (line_bytes l) ≡ width l
length-line l = length-append l.content (held_bytes l.ended) ∙ ap (λ (n : ℕ). length l.content + n) (ends l.ended)
  where
    ends : (b : Bool) → length (held_bytes b) ≡ cond b 2 0
    ends true = refl
    ends false = refl

pub rest_next : (s : Bytes) (at : ℕ) (l : Line) (ls : List Line) → Rest s at (l ∷ ls) → Rest s (at + width l) ls
rest_next s at l ls h = sym (drop_at (line_bytes l) (flat_map line_bytes ls) (width l) (length-line l)) ∙ ap (drop (width l)) h ∙ drop-drop (width l) at s

-- how many bytes stand before the first line that fits
unfoldable pub reach : List Group → List Line → ℕ
reach gs [] = 0
reach gs (l ∷ ls) = elim (fits (role gs l.content)) [ true ↦ 0 | false ↦ width l + reach gs ls ]

pub reach-fits : (gs : List Group) (l : Line) (ls : List Line) → fits (role gs l.content) ≡ true → reach gs (l ∷ ls) ≡ 0
unfolding reach
reach-fits gs l ls f = rw (f, reach)

pub reach_text : (gs : List Group) (l : Line) (ls : List Line) → fits (role gs l.content) ≡ false → reach gs (l ∷ ls) ≡ width l + reach gs ls
unfolding reach
reach_text gs l ls f = rw (f, reach)

-- a body lies before the line that ends it
body_begins : (gs : List Group) (held : Bool) (ls : List Line) → (r : Bytes) × (body_from gs held ls ++ r ≡ held_bytes held ++ flat_map line_bytes ls)
unfolding body_from
body_begins gs held [] = ([], refl)
body_begins gs held (l ∷ ls) = go (fits (role gs l.content)) (body_begins gs l.ended ls)
  where
    go : (b : Bool) → (r : Bytes) × (body_from gs l.ended ls ++ r ≡ held_bytes l.ended ++ flat_map line_bytes ls)
        → (r : Bytes) × (elim b [ true ↦ [] | false ↦ held_bytes held ++ (l.content ++ body_from gs l.ended ls) ] ++ r ≡ held_bytes held ++ (line_bytes l ++ flat_map line_bytes ls))
    go true (r, e) = (held_bytes held ++ (line_bytes l ++ flat_map line_bytes ls), refl)
    go false (r, e) = (
      r,
      append_assoc (held_bytes held) (l.content ++ body_from gs l.ended ls) r
          ∙ ap (λ (t : Bytes). held_bytes held ++ t) (append_assoc l.content (body_from gs l.ended ls) r)
          ∙ ap (λ (t : Bytes). held_bytes held ++ (l.content ++ t)) e
          ∙ ap (λ (t : Bytes). held_bytes held ++ t) (sym (append_assoc l.content (held_bytes l.ended) (flat_map line_bytes ls))),
    )

body-within : (gs : List Group) (held : Bool) (ls : List Line) → length (body_from gs held ls) ≤ length (held_bytes held) + reach gs ls
unfolding body_from reach
body-within gs held [] = omega arith
body-within gs held (l ∷ ls) = go (fits (role gs l.content)) refl (body-within gs l.ended ls)
  where
    go : (b : Bool) → fits (role gs l.content) ≡ b → length (body_from gs l.ended ls) ≤ length (held_bytes l.ended) + reach gs ls
        → length (body_from gs held (l ∷ ls)) ≤ length (held_bytes held) + reach gs (l ∷ ls)
    go true f h = omega (arith, ap length (body_from-fits gs held l ls f))
    go false f h =
        omega (
          arith,
          h,
          ap length (body_from_text gs held l ls f),
          length-append (held_bytes held) (l.content ++ body_from gs l.ended ls),
          length-append l.content (body_from gs l.ended ls),
          length-append l.content (held_bytes l.ended),
          length-line l,
          reach_text gs l ls f,
        )

-- where a head ends, seen from its start
pub record Ends (s : Bytes) (gs : List Group) (at : ℕ) (ls : List Line) (h : Head) : Type 0 where
  pub behind : at ≤ h.from
  pub rest : Rest s h.from h.rest
  pub same : h.from + reach gs h.rest ≡ at + reach gs ls

pub head-ends : (s : Bytes) (gs : List Group) (at : ℕ) (ls : List Line) → Rest s at ls → Ends s gs at ls (head gs at ls)
unfolding head
head-ends s gs at [] r = record { behind = omega arith; rest = r; same = refl }
head-ends s gs at (l ∷ ls) r = go (fits (role gs l.content)) refl (absent l.content) refl (head-ends s gs (at + width l) ls (rest_next s at l ls r))
  where
    go : (b : Bool) → fits (role gs l.content) ≡ b → (c : Bool) → absent l.content ≡ c → Ends s gs (at + width l) ls (head gs (at + width l) ls)
        → Ends s gs at (l ∷ ls) (head gs at (l ∷ ls))
    go true p c q k = subst (Ends s gs at (l ∷ ls)) (sym (head-fits gs at l ls p)) (record { behind = omega arith; rest = r; same = refl })
    go false p true q k =
        subst (Ends s gs at (l ∷ ls)) (sym (head-empty gs at l ls p q))
        (record { behind = omega arith; rest = rest_next s at l ls r; same = omega (arith, reach_text gs l ls p) })
    go false p false q k =
        subst (Ends s gs at (l ∷ ls)) (sym (head_more gs at l ls p q))
        (record { behind = omega (arith, k.behind); rest = k.rest; same = omega (arith, k.same, reach_text gs l ls p) })

-- a leaf that opens at the offset `at` has a body between there and the first line that fits
abbrev LeafWithin : Bytes → List Group → ℕ → List Line → Opening → Type 0
LeafWithin s gs at ls (fails f) = Unit {0}
LeafWithin s gs at ls (opens_leaf ev fs b) = (at ≤ b.from) × (b.raw ≡ take (length b.raw) (drop b.from s)) × (b.from + length b.raw ≤ at + reach gs ls)
LeafWithin s gs at ls (opens_group ev fs g) = Unit {0}

unless-within : (s : Bytes) (gs : List Group) (at : ℕ) (ls : List Line) (v : Verdict) (x : End) (o : Opening) → LeafWithin s gs at ls o → LeafWithin s gs at ls (unless at v x o)
unless-within s gs at ls (faulty number offset) x o h = tt
unless-within s gs at ls (passes k) (Faulty f) o h = tt
unless-within s gs at ls (passes k) Clean o h = h

by_within : (e : End) (s : Bytes) (gs : List Group) (n at : ℕ) (ls : List Line) (h : Head) (fs : List Field) (y : Entity) → Ends s gs at ls h → LeafWithin s gs at ls (opening_by e gs n at h fs y)
by_within e s gs n at ls h fs (entities.refused number) w = tt
by_within e s gs n at ls h fs (entities.group b) w = tt
by_within e s gs n at ls h fs (entities.leaf coding marks) w =
    let raw = body gs h.rest in
    let front = body_begins gs false h.rest in (
      w.behind,
      sym (ap (take (length raw)) (sym w.rest ∙ sym front.1) ∙ take_at raw front.0 (length raw) refl),
      omega (arith, w.same, body-within gs false h.rest),
    )

opening_within : (e : End) (s : Bytes) (gs : List Group) (n at : ℕ) (ls : List Line) → Rest s at ls → LeafWithin s gs at ls (opening e gs n at ls)
unfolding opening
opening_within e s gs n at ls r =
    let h : Head = head gs at ls in
    let fs : List Field = fields_of h.lines in
    unless-within s gs at ls (judged 0 0 h.lines) (head_end gs h.stop h.from e) (opening_by e gs n at h fs (entity (length gs) fs))
    (by_within e s gs n at ls h fs (entity (length gs) fs) (head-ends s gs at ls r))

closing_stretches : (s : Bytes) (x at mark : ℕ) (gs around : List Group) (r : List Entry) → Stretches s x r → Stretches s x (closing at mark gs around r)
closing_stretches s x at m [] around r h = h
closing_stretches s x at m (g ∷ gs) around r h = closing_stretches s x at m gs around r h

-- a group that opens takes its head's lines for its own; else the lines up to the first that fits may belong to a body
abbrev span : (opens : List Group) → List Group → List Line → ℕ
span [] gs ls = reach gs ls
span (g ∷ hs) gs ls = 0

told_stretches : (s : Bytes) (x at : ℕ) (gs : List Group) (ls : List Line) (o : Opening) (r : List Entry) → x ≤ at → LeafWithin s gs at ls o
    → ((y : ℕ) → y ≤ at + span (new_group o) gs ls → Stretches s y r) → Stretches s x (told o r)
told_stretches s x at gs ls (fails f) r h w k = tt
told_stretches s x at gs ls (opens_leaf ev fs b) r h w k = (omega (arith, w.0), w.1, k (b.from + length b.raw) w.2)
told_stretches s x at gs ls (opens_group ev fs g) r h w k = k x (omega arith)

last_stretches : (s : Bytes) (x n at : ℕ) (e : End) → Stretches s x (last_entry e n at)
last_stretches s x n at Clean = tt
last_stretches s x n at (Faulty f) = tt

-- a line, and the row behind it
line_stretches : (s : Bytes) (f : Role) (gs : List Group) (n : ℕ) (m : Mode) (at next : ℕ) (ls : List Line) (empty : Bool) (entity_opens : List Group → Opening)
    (after : List Group → ℕ → Mode → List Entry) (x : ℕ) → at ≤ next
    → (fits f ≡ true → x ≤ at) → (fits f ≡ false → x ≤ next + span (opens m) gs ls)
    → ((gs' : List Group) → LeafWithin s gs' next ls (entity_opens gs'))
    → ((gs' : List Group) (n' : ℕ) (m' : Mode) (y : ℕ) → y ≤ next + span (opens m') gs' ls → Stretches s y (after gs' n' m'))
    → Stretches s x (line_row f gs n m at empty entity_opens after)
line_stretches s (separates deeper g around) gs n m at next ls empty entity_opens after x le h t w k =
    closing_stretches s x at 4 (opens m ++ deeper) (g ∷ around) (told (entity_opens (g ∷ around)) (after (g ∷ around) (n + 1) (heading (new_group (entity_opens (g ∷ around))))))
    (told_stretches s x next (g ∷ around) ls (entity_opens (g ∷ around)) (after (g ∷ around) (n + 1) (heading (new_group (entity_opens (g ∷ around))))) (omega (arith, h refl)) (w (g ∷ around))
    (λ y. k (g ∷ around) (n + 1) (heading (new_group (entity_opens (g ∷ around)))) y))
line_stretches s (closes deeper g around) gs n m at next ls empty entity_opens after x le h t w k =
    closing_stretches s x at 4 (opens m ++ deeper) (g ∷ around) (closing at 0 (g ∷ []) around (after around n passing))
    (k around n passing x (omega (arith, h refl)))
line_stretches s text gs n (heading []) at next ls true entity_opens after x le h t w k = k gs n passing x (t refl)
line_stretches s text gs n (heading (g ∷ hs)) at next ls true entity_opens after x le h t w k = k (g ∷ hs ++ gs) n passing x (omega (arith, t refl))
line_stretches s text gs n (heading hs) at next ls false entity_opens after x le h t w k = k gs n (heading hs) x (t refl)
line_stretches s text gs n passing at next ls empty entity_opens after x le h t w k = k gs n passing x (t refl)

-- the same, from a line's start to the next
span_fits : (hs gs : List Group) (l : Line) (ls : List Line) → fits (role gs l.content) ≡ true → span hs gs (l ∷ ls) ≡ 0
span_fits [] gs l ls f = reach-fits gs l ls f
span_fits (g ∷ hs) gs l ls f = refl

span_text : (hs gs : List Group) (l : Line) (ls : List Line) → fits (role gs l.content) ≡ false → span hs gs (l ∷ ls) ≤ width l + span hs gs ls
span_text [] gs l ls f = omega (arith, reach_text gs l ls f)
span_text (g ∷ hs) gs l ls f = omega arith

pub row_stretches : (e : End) (s : Bytes) (gs : List Group) (n : ℕ) (m : Mode) (at : ℕ) (ls : List Line) (x : ℕ) → Rest s at ls → x ≤ at + span (opens m) gs ls
    → Stretches s x (row e gs n m at ls)
unfolding row
row_stretches e s gs n m at [] x r h = last_stretches s x n at (end_in (opens m ++ gs) at e)
row_stretches e s gs n m at (l ∷ ls) x r h =
    let q = rest_next s at l ls r in
    line_stretches s (role gs l.content) gs n m at (at + width l) ls (absent l.content) (λ gs'. opening e gs' (n + 1) (at + width l) ls)
    (λ gs' n' m'. row e gs' n' m' (at + width l) ls) x (omega arith)
    (λ f. omega (arith, span_fits (opens m) gs l ls f))
    (λ f. omega (arith, span_text (opens m) gs l ls f))
    (λ gs'. opening_within e s gs' (n + 1) (at + width l) ls q)
    (λ gs' n' m' y. row_stretches e s gs' n' m' (at + width l) ls y q)

pub bodies_in_order : BodiesInOrder
unfolding row_of
bodies_in_order m =
    let e = (first 16777216 m).ending in
    let s = (first 16777216 m).left in
    let ls = lines s in
    let o = opening e [] 1 0 ls in
    told_stretches s 0 0 [] ls o (row e [] 1 (heading (new_group o)) 0 ls) (omega arith) (opening_within e s [] 1 0 ls (joined-lines s))
    (λ y. row_stretches e s [] 1 (heading (new_group o)) 0 ls y (joined-lines s))
