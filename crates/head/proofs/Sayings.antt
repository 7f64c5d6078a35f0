-- What an answer to reading a head says of the head.
use Rattle.std.proofs.Common.{◌≡◌, ℕ, ◌+◌, ◌<◌, Bool, true, false, ◌&&◌, ◌||◌, eqb, ltb, ◌⊎◌, List, [], ◌∷◌, length, Some, None, codes, Option, sym, refl, ap, ◌∙◌, inl, inr, arith}
use mathlib.Core.Bool.{false≢true}
use Rattle.byte_lines.specs.Bytes.{Bytes, Answer}
use Rattle.byte_lines.specs.Lines.{Line, width}
use Rattle.byte_lines.specs.Strings.{named}
use Rattle.head.specs.Fields.{Field, is_field, continues, values_of}
use Rattle.head.specs.LineFaults.{Verdict, passes, faulty, judged, unclean}
use Rattle.head.specs.Media.{MediaType, media_type}
use Rattle.head.specs.Entities.{Entity, leaf, group, refused, Coded, leaf_of, group_of, entity_of, typed_entity, coding_of, boundaries, boundary, lawful, twice, entity}
use Rattle.head.specs.Heads.{opened, told}

-- a boundary has bytes, and a fault's number is none of an opening
abbrev pub Fair : Entity → Type 0
Fair (leaf c m) = Unit {0}
Fair (group b) = 0 < length b
Fair (refused k) = 40 < k

abbrev pub FairVerdict : Verdict → Type 0
FairVerdict (passes n) = Unit {0}
FairVerdict (faulty number offset) = 40 < number

abbrev FairBoundary : Option Bytes → Type 0
FairBoundary None = Unit {0}
FairBoundary (Some b) = 0 < length b

lawful_some : (b : Bytes) → lawful b ≡ true → 0 < length b
lawful_some [] h = absurd (false≢true h)
lawful_some (x ∷ b) h = omega arith

boundary_fair : (bs : List Bytes) → FairBoundary (boundary bs)
boundary_fair [] = tt
boundary_fair (b ∷ []) = go (lawful b) refl
  where
    go : (t : Bool) → lawful b ≡ t → FairBoundary (elim t [ true ↦ Some b | false ↦ None ])
    go true h = lawful_some b h
    go false h = tt
boundary_fair (b ∷ c ∷ cs) = tt

group_fair : (around : ℕ) (o : Option Bytes) → FairBoundary o → Fair (group_of around o)
group_fair around None h = omega arith
group_fair around (Some b) h = go (ltb around 8)
  where
    go : (t : Bool) → Fair (elim t [ true ↦ group b | false ↦ refused 47 ])
    go true = h
    go false = omega arith

typed_fair : (around : ℕ) (o : Option MediaType) (c : Coded) → Fair (entity_of around o c)
typed_fair around None c = tt
typed_fair around (Some t) c = go (named (codes "multipart") t.type) (eqb c.coding 0 && eqb c.mark 0)
  where
    go : (a b : Bool) → Fair (elim a [ true ↦ elim b [ true ↦ group_of around (boundary (boundaries t.parameters)) | false ↦ refused 45 ] | false ↦ leaf_of c 0 ])
    go true true = group_fair around (boundary (boundaries t.parameters)) (boundary_fair (boundaries t.parameters))
    go true false = omega arith
    go false b = tt

values_fair : (around : ℕ) (vs : List Bytes) (c : Coded) → Fair (typed_entity around vs c)
values_fair around [] c = tt
values_fair around (v ∷ vs) c = typed_fair around (media_type v) c

pub entity_fair : (around : ℕ) (fs : List Field) → Fair (entity around fs)
unfolding entity
entity_fair around fs =
    go (twice (values_of (codes "content-type") fs) || (twice (values_of (codes "content-transfer-encoding") fs) || twice (values_of (codes "content-disposition") fs)))
  where
    go : (t : Bool) → Fair (elim t [
      | true ↦ refused 44
      | false ↦ typed_entity around (values_of (codes "content-type") fs) (coding_of (values_of (codes "content-transfer-encoding") fs))
    ])
    go true = omega arith
    go false = values_fair around (values_of (codes "content-type") fs) (coding_of (values_of (codes "content-transfer-encoding") fs))

pub judged_fair : (size n : ℕ) (ls : List Line) → FairVerdict (judged size n ls)
unfolding judged
judged_fair size n [] = tt
judged_fair size n (l ∷ ls) =
    go (ltb 8192 (size + width l)) (unclean l.content) (is_field l.content) (ltb n 64) (continues l.content && ltb 0 n)
    (judged_fair (size + width l) (n + 1) ls) (judged_fair (size + width l) n ls)
  where
    go : (a b c d e : Bool) → FairVerdict (judged (size + width l) (n + 1) ls) → FairVerdict (judged (size + width l) n ls)
        → FairVerdict (elim a [
          | true ↦ faulty 41 size
          | false ↦ elim b [
            | true ↦ faulty 42 size
            | false ↦ elim c [
              | true ↦ elim d [ true ↦ judged (size + width l) (n + 1) ls | false ↦ faulty 43 size ]
              | false ↦ elim e [ true ↦ judged (size + width l) n ls | false ↦ faulty 42 size ]
            ]
          ]
        ])
    go true b c d e x y = omega arith
    go false true c d e x y = omega arith
    go false false true true e x y = x
    go false false true false e x y = omega arith
    go false false false d true x y = y
    go false false false d false x y = omega arith

-- 0 for fewer than two values
abbrev several : List ℕ → ℕ
several [] = 0
several (x ∷ []) = 0
several (x ∷ y ∷ r) = 1

abbrev values_in : Answer → List ℕ
values_in a = a.1

abbrev number_in : Answer → ℕ
number_in a = a.0

-- a leaf was answered
pub says_leaf : (around : ℕ) (v : Verdict) (fs : List Field) (f c m : ℕ) → (1, f ∷ (c ∷ (m ∷ []))) ≡ (told around v fs).0
    → ((n : ℕ) × (v ≡ passes n)) × (entity around fs ≡ leaf c m) × (f ≡ length fs)
says_leaf around (faulty number offset) fs f c m e = absurd (omega (arith, ap (λ (p : Answer). several (values_in p)) e))
says_leaf around (passes n) fs f c m e = go (entity around fs) refl e
  where
    go : (x : Entity) → entity around fs ≡ x → (1, f ∷ (c ∷ (m ∷ []))) ≡ (opened x fs).0
        → ((n' : ℕ) × (passes n ≡ passes n')) × (entity around fs ≡ leaf c m) × (f ≡ length fs)
    go (leaf c' m') p e =
        let q : f ∷ (c ∷ (m ∷ [])) ≡ length fs ∷ (c' ∷ (m' ∷ [])) = ap values_in e in
        let l : f ≡ length fs = cc in
        let s : leaf c' m' ≡ leaf c m = cc in
        ((n, refl), p ∙ s, l)
    go (group b) p e = absurd (omega (arith, ap number_in e))
    go (refused k) p e = absurd (omega (arith, ap (λ (q : Answer). several (values_in q)) e))

-- a group was answered
pub says-group : (around : ℕ) (v : Verdict) (fs : List Field) (f : ℕ) (b : Bytes) → FairVerdict v → (2, f ∷ b) ≡ (told around v fs).0
    → ((n : ℕ) × (v ≡ passes n)) × (entity around fs ≡ group b) × (f ≡ length fs)
says-group around (faulty number offset) fs f b h e = absurd (omega (arith, ap number_in e))
says-group around (passes n) fs f b h e = go (entity around fs) refl (entity_fair around fs) e
  where
    go : (x : Entity) → entity around fs ≡ x → Fair x → (2, f ∷ b) ≡ (opened x fs).0 → ((n' : ℕ) × (passes n ≡ passes n')) × (entity around fs ≡ group b) × (f ≡ length fs)
    go (leaf c m) p k e = absurd (omega (arith, ap number_in e))
    go (group b') p k e =
        let q : f ∷ b ≡ length fs ∷ b' = ap values_in e in
        let l : f ≡ length fs = cc in
        let s : group b' ≡ group b = cc in
        ((n, refl), p ∙ s, l)
    go (refused k) p h e = absurd (omega (arith, ap number_in e))

-- a fault was answered: of a line, or of the head
pub says-fault : (around : ℕ) (v : Verdict) (fs : List Field) (number offset : ℕ) → (number, offset ∷ []) ≡ (told around v fs).0
    → (v ≡ faulty number offset) ⊎ (((n : ℕ) × (v ≡ passes n)) × (entity around fs ≡ refused number) × (offset ≡ 0))
says-fault around (faulty number' offset') fs number offset e =
    let q : offset ∷ [] ≡ offset' ∷ [] = ap values_in e in
    let o : offset ≡ offset' = cc in
    let n : number ≡ number' = ap number_in e in
    inl (ap (λ (x : ℕ). faulty x offset') (sym n) ∙ ap (faulty number) (sym o))
says-fault around (passes n) fs number offset e = go (entity around fs) refl (entity_fair around fs) e
  where
    go : (x : Entity) → entity around fs ≡ x → Fair x → (number, offset ∷ []) ≡ (opened x fs).0
        → (passes n ≡ faulty number offset) ⊎ (((n' : ℕ) × (passes n ≡ passes n')) × (entity around fs ≡ refused number) × (offset ≡ 0))
    go (leaf c m) p k e = absurd (omega (arith, ap (λ (q : Answer). several (values_in q)) e))
    go (group b) p k e = absurd (some b k (ap values_in e))
      where
        some : (b : Bytes) → 0 < length b → offset ∷ [] ≡ length fs ∷ b → ⊥
        some [] h q = omega arith
        some (x ∷ b) h q = omega (arith, ap several q)
    go (refused k) p h e =
        let q : offset ∷ [] ≡ 0 ∷ [] = ap values_in e in
        let o : offset ≡ 0 = cc in
        inr ((n, refl), p ∙ ap refused (sym (ap number_in e)), o)

-- no answer is the refusal
pub says_short : (around : ℕ) (v : Verdict) (fs : List Field) → FairVerdict v → (0, 2 ∷ []) ≡ (told around v fs).0 → ⊥
says_short around (faulty number offset) fs h e = omega (arith, ap number_in e)
says_short around (passes n) fs h e = go (entity around fs) (entity_fair around fs) e
  where
    go : (x : Entity) → Fair x → (0, 2 ∷ []) ≡ (opened x fs).0 → ⊥
    go (leaf c m) k e = omega (arith, ap number_in e)
    go (group b) k e = omega (arith, ap number_in e)
    go (refused k) h e = omega (arith, ap number_in e)
