-- The numbers and kinds of a row's entries.
use Rattle.std.proofs.Common.{◌≡◌, ℕ, suc, ◌+◌, List, [], ◌∷◌, ◌++◌, length, refl, inl, inr}
use Rattle.std.proofs.lemmas.Bool.{cases_Bool}
use Rattle.byte_lines.specs.Lines.{Line, width, lines}
use Rattle.source.specs.declared.ends.End.{End}
use Rattle.source.specs.declared.ends.End.TheVariants.{Clean, Faulty}
use Rattle.source.specs.Meanings.{Meaning as SourceMeaning}
use Rattle.input.specs.Inputs.{first}
use Rattle.head.specs.Fields.{Field, fields_of}
use Rattle.head.specs.LineFaults.{Verdict, passes, faulty, judged}
use Rattle.head.specs.Media.{absent}
use Rattle.head.specs.Entities as entities
use Rattle.head.specs.Entities.{Entity, entity}
use Rattle.message.specs.declared.events.Kind.TheVariants.{Leaf, Group as AGroup, Close, End as Ending}
use Rattle.message.specs.declared.events.Event.{Event}
use Rattle.message.specs.Groups.{Group, Role, role, separates, closes, text}
use Rattle.message.specs.Entries.{Entry, leaf, opened, closed, ended, failed}
use Rattle.message.specs.Heads.{Head, head}
use Rattle.message.specs.Bodies.{end_in}
use Rattle.message.specs.Rows.{Opening, fails, opens_leaf, opens_group, closing, told, new_group, Mode, heading, passing, opens, last_entry, head_end, unless, opening_by, opening, row, row_of}
use Rattle.message.specs.RowLaws.{others, Proceeds}
use Rattle.message.proofs.Rowing.{rows_proceed}

-- the rest of a row after n entities: the openings are numbered on from there, each event is of its entry's kind, and the end, with
-- the count of entities, or the fault stands last and nowhere else
abbrev pub Numbered : (n : ℕ) → List Entry → Type 0
Numbered n [] = ⊥
Numbered n (leaf ev fs b ∷ r) = (ev.number ≡ suc n) × (ev.kind ≡ Leaf) × Numbered (suc n) r
Numbered n (opened ev fs ∷ r) = (ev.number ≡ suc n) × (ev.kind ≡ AGroup) × Numbered (suc n) r
Numbered n (closed ev ∷ r) = (ev.kind ≡ Close) × Numbered n r
Numbered n (ended ev ∷ r) = (ev.kind ≡ Ending) × (ev.number ≡ n) × (r ≡ [])
Numbered n (failed f ∷ r) = r ≡ []

-- an entry's event has the entry's kind
abbrev KindOf : Entry → Type 0
KindOf (leaf ev fs b) = ev.kind ≡ Leaf
KindOf (opened ev fs) = ev.kind ≡ AGroup
KindOf (closed ev) = ev.kind ≡ Close
KindOf (ended ev) = ev.kind ≡ Ending
KindOf (failed f) = Unit {0}

-- each entry has its kind
abbrev Kinds : List Entry → Type 0
Kinds [] = Unit {0}
Kinds (x ∷ r) = KindOf x × Kinds r

closing_kinds : (at m : ℕ) (gs around : List Group) (r : List Entry) → Kinds r → Kinds (closing at m gs around r)
closing_kinds at m [] around r h = h
closing_kinds at m (g ∷ gs) around r h = (refl, closing_kinds at m gs around r h)

-- an opening's event has its kind
abbrev Opens : Opening → Type 0
Opens (fails f) = Unit {0}
Opens (opens_leaf ev fs b) = ev.kind ≡ Leaf
Opens (opens_group ev fs g) = ev.kind ≡ AGroup

opens_by : (e : End) (gs : List Group) (n at : ℕ) (h : Head) (fs : List Field) (x : Entity) → Opens (opening_by e gs n at h fs x)
opens_by e gs n at h fs (entities.refused k) = tt
opens_by e gs n at h fs (entities.group b) = refl
opens_by e gs n at h fs (entities.leaf c m) = refl

opens-unless : (at : ℕ) (v : Verdict) (e : End) (o : Opening) → Opens o → Opens (unless at v e o)
opens-unless at (faulty k i) e o h = tt
opens-unless at (passes n) (Faulty f) o h = tt
opens-unless at (passes n) Clean o h = h

opens_opening : (e : End) (gs : List Group) (n at : ℕ) (ls : List Line) → Opens (opening e gs n at ls)
unfolding opening
opens_opening e gs n at ls =
    opens-unless at (judged 0 0 (head gs at ls).lines) (head_end gs (head gs at ls).stop (head gs at ls).from e) _
    (opens_by e gs n at (head gs at ls) (fields_of (head gs at ls).lines) (entity (length gs) (fields_of (head gs at ls).lines)))

told_kinds : (o : Opening) (r : List Entry) → Opens o → Kinds r → Kinds (told o r)
told_kinds (fails f) r h k = (tt, tt)
told_kinds (opens_leaf ev fs b) r h k = (h, k)
told_kinds (opens_group ev fs g) r h k = (h, k)

last_kinds : (e : End) (n at : ℕ) → Kinds (last_entry e n at)
last_kinds Clean n at = (refl, tt)
last_kinds (Faulty f) n at = (tt, tt)

row_kinds : (e : End) (gs : List Group) (n : ℕ) (m : Mode) (at : ℕ) (ls : List Line) → Kinds (row e gs n m at ls)
unfolding row
row_kinds e gs n m at [] = last_kinds (end_in (opens m ++ gs) at e) n at
row_kinds e gs n m at (l ∷ ls) = go (role gs l.content) refl m (λ hs k o a. row_kinds e hs k o a ls)
  where
    go : (r : Role) → role gs l.content ≡ r → (m : Mode) → ((gs : List Group) (n : ℕ) (m : Mode) (at : ℕ) → Kinds (row e gs n m at ls))
        → Kinds (row e gs n m at (l ∷ ls))
    go (separates deeper g around) k m ih =
        rw (k, row)
        (closing_kinds at 4 (opens m ++ deeper) (g ∷ around) _
        (told_kinds (opening e (g ∷ around) (n + 1) (at + width l) ls) _ (opens_opening e (g ∷ around) (n + 1) (at + width l) ls) (ih _ _ _ _)))
    go (closes deeper g around) k m ih =
        rw (k, row) (closing_kinds at 4 (opens m ++ deeper) (g ∷ around) _ (closing_kinds at 0 (g ∷ []) around _ (ih _ _ _ _)))
    go text k passing ih = rw (k, row) (ih _ _ _ _)
    go text k (heading hs) ih =
        elim (cases_Bool (absent l.content)) [ inl a ↦ rw (k, a, row) (ih _ _ _ _) | inr a ↦ rw (k, a, row) (ih _ _ _ _) ]

row_of_kinds : (m : SourceMeaning) → Kinds (row_of m)
unfolding row_of
row_of_kinds m =
    let e : End = (first 16777216 m).ending in
    let ls : List Line = lines (first 16777216 m).left in
    told_kinds (opening e [] 1 0 ls) _ (opens_opening e [] 1 0 ls) (row_kinds e [] 1 (heading (new_group (opening e [] 1 0 ls))) 0 ls)

proceeds_numbered : (os : List Event) (n : ℕ) (r : List Entry) → Proceeds os n r → Kinds r → Numbered n r
proceeds_numbered os n [] p k = p
proceeds_numbered os n (leaf ev fs b ∷ r) p k = (p.0.number, k.0, proceeds_numbered os (suc n) r p.1 k.1)
proceeds_numbered os n (opened ev fs ∷ r) p k = (p.0.number, k.0, proceeds_numbered (ev ∷ os) (suc n) r p.1 k.1)
proceeds_numbered os n (closed ev ∷ r) p k = (k.0, proceeds_numbered (others os) n r p.1 k.1)
proceeds_numbered os n (ended ev ∷ r) p k = (k.0, p.1, p.2)
proceeds_numbered os n (failed f ∷ r) p k = p

pub row_numbered : (m : SourceMeaning) → Numbered 0 (row_of m)
row_numbered m = proceeds_numbered [] 0 (row_of m) (rows_proceed m) (row_of_kinds m)
