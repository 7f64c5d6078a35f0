-- How the framing goes from byte to byte.
use Rattle.std.proofs.Common.{◌≡◌, ℕ, zero, suc, ◌+◌, ◌<◌, ◌≤◌, Bool, true, false, ltb, [], ◌∷◌, ◌++◌, take, sym, refl, ap, ◌∙◌, subst, add-zero, zero-add, arith, Ok, Err}
use Rattle.std.proofs.lemmas.Bool.{ltb-true, ltb-false, lt-ltb, le-ltb}
use Rattle.source.specs.declared.ends.End.{End}
use Rattle.source.specs.declared.ends.End.TheVariants.{Clean, Faulty}
use Rattle.byte_lines.specs.Bytes.{Bytes}
use Rattle.source.specs.Meanings.{fault}
use Rattle.chunked.specs.declared.places.Place.{Place}
use Rattle.chunked.specs.declared.places.Place.TheVariants.{Size, Data}
use Rattle.chunked.specs.Framing.{Step, Framed, framed, unframed, step, stops, delivers, overrun, early, limit}
use Rattle.chunked.specs.Written.{SoundSoFar, TakenDecides, NothingLost}

-- the bytes that b gives at a place
abbrev pub given : Place → ℕ → Bytes
given (Data (suc n)) b = b ∷ []
given p b = []

abbrev pub prepend : Bytes → Framed → Framed
prepend d f = record { bytes = d ++ f.bytes; ending = f.ending; taken = f.taken; left = f.left }

delivers_is : (p : Place) (b : ℕ) (f : Framed) → delivers p b f ≡ prepend (given p b) f
delivers_is (Data (suc n)) b f = refl
delivers_is p b f = refl

pub framed_goes : (p q : Place) (at b : ℕ) (s : Bytes) (e : End) → at < limit → step p at b ≡ Ok q
    → framed p at (b ∷ s) e ≡ prepend (given p b) (framed q (at + 1) s e)
unfolding framed
framed_goes p q at b s e h g = rw (framed, lt-ltb at limit h, g) (delivers_is p b (framed q (at + 1) s e))

pub framed-ends : (p : Place) (at b : ℕ) (s : Bytes) (e x : End) → at < limit → step p at b ≡ Err x → framed p at (b ∷ s) e ≡ stops x (at + 1) s
unfolding framed
framed-ends p at b s e x h g = rw (framed, lt-ltb at limit h, g)

-- at the limit nothing more is taken
pub framed-over : (p : Place) (at : ℕ) (s : Bytes) (e : End) → limit ≤ at → framed p at s e ≡ stops overrun at s
unfolding framed
framed-over p at [] e h = rw (framed, le-ltb at limit h)
framed-over p at (b ∷ s) e h = rw (framed, le-ltb at limit h)

pub framed-none : (p : Place) (at : ℕ) (e : End) → at < limit → framed p at [] e ≡ stops (early at e) at []
unfolding framed
framed-none p at e h = rw (framed, lt-ltb at limit h)

-- a case of a byte: at the limit, or before it by what its step does
pub by_step : (P : Framed → Type 0) (p : Place) (at b : ℕ) (s : Bytes) (e : End)
    → (limit ≤ at → P (stops overrun at (b ∷ s)))
    → ((q : Place) → at < limit → step p at b ≡ Ok q → P (prepend (given p b) (framed q (at + 1) s e)))
    → ((x : End) → at < limit → step p at b ≡ Err x → P (stops x (at + 1) s))
    → P (framed p at (b ∷ s) e)
by_step P p at b s e over goes ends = test (ltb at limit) refl
  where
    steps : at < limit → (x : Step) → step p at b ≡ x → P (framed p at (b ∷ s) e)
    steps l (Ok q) h = subst P (sym (framed_goes p q at b s e l h)) (goes q l h)
    steps l (Err x) h = subst P (sym (framed-ends p at b s e x l h)) (ends x l h)

    test : (t : Bool) → ltb at limit ≡ t → P (framed p at (b ∷ s) e)
    test true h = steps (ltb-true at limit h) (step p at b) refl
    test false h = subst P (sym (framed-over p at (b ∷ s) e (ltb-false at limit h))) (over (ltb-false at limit h))

-- and where no byte is left
pub by_none : (P : Framed → Type 0) (p : Place) (at : ℕ) (e : End) → (limit ≤ at → P (stops overrun at [])) → (at < limit → P (stops (early at e) at []))
    → P (framed p at [] e)
by_none P p at e over none = test (ltb at limit) refl
  where
    test : (t : Bool) → ltb at limit ≡ t → P (framed p at [] e)
    test true h = subst P (sym (framed-none p at e (ltb-true at limit h))) (none (ltb-true at limit h))
    test false h = subst P (sym (framed-over p at [] e (ltb-false at limit h))) (over (ltb-false at limit h))

pub taken-from : (p : Place) (at : ℕ) (s : Bytes) (e : End) → at ≤ (framed p at s e).taken
taken-from p at [] e = by_none (λ f. at ≤ f.taken) p at e (λ l. omega arith) (λ l. omega arith)
taken-from p at (b ∷ s) e =
    by_step (λ f. at ≤ f.taken) p at b s e (λ l. omega arith) (λ q l h. omega (arith, taken-from q (at + 1) s e)) (λ x l h. omega arith)

-- Nothing-lost, from any place: k bytes are taken
whole_from : (p : Place) (at : ℕ) (s : Bytes) (e : End) (k : ℕ) → (framed p at s e).taken ≡ at + k → s ≡ take k s ++ (framed p at s e).left
whole_from p at [] e zero n = by_none (λ f. [] ≡ f.left) p at e (λ l. refl) (λ l. refl)
whole_from p at [] e (suc k) n = by_none (λ f. [] ≡ f.left) p at e (λ l. refl) (λ l. refl)
whole_from p at (b ∷ s) e zero n =
    by_step (λ f. f.taken ≡ at + 0 → b ∷ s ≡ f.left) p at b s e (λ l n. refl)
    (λ q l h n. absurd (omega (arith, taken-from q (at + 1) s e))) (λ x l h n. absurd (omega arith)) n
whole_from p at (b ∷ s) e (suc k) n =
    by_step (λ f. f.taken ≡ at + suc k → b ∷ s ≡ b ∷ (take k s ++ f.left)) p at b s e (λ l n. absurd (omega arith))
    (λ q l h n. ap (λ (r : Bytes). b ∷ r) (whole_from q (at + 1) s e k (omega arith)))
    (λ x l h n. let z : k ≡ 0 = omega arith in rw z) n

pub nothing_lost : NothingLost
nothing_lost s e = whole_from (Size 0 0 0) 0 s e (unframed s e).taken (sym (zero-add (unframed s e).taken))

-- Sound-so-far, from any place
sound_from : (p : Place) (at : ℕ) (s : Bytes) (e : End) (k : ℕ) → at + k < (framed p at s e).taken → (framed p at (take k s) Clean).ending ≡ Faulty (fault 24 2 (at + k))
sound_from p at s e zero t =
    by_none (λ f. f.ending ≡ Faulty (fault 24 2 (at + 0))) p at Clean (λ l. absurd (omega (arith, t, ap (λ (f : Framed). f.taken) (framed-over p at s e l)))) (λ l. rw add-zero)
sound_from p at [] e (suc k) t =
    absurd (by_none (λ f. at + suc k < f.taken → ⊥) p at e (λ l t. omega arith) (λ l t. omega arith) t)
sound_from p at (b ∷ s) e (suc k) t =
    by_step (λ f. at + suc k < f.taken → (framed p at (b ∷ take k s) Clean).ending ≡ Faulty (fault 24 2 (at + suc k))) p at b s e
    (λ l t. absurd (omega arith))
    (λ q l h t. let place : at + suc k ≡ at + 1 + k = omega arith in
    ap (λ (f : Framed). f.ending) (framed_goes p q at b (take k s) Clean l h) ∙ sound_from q (at + 1) s e k (omega arith) ∙ ap (λ (n : ℕ). Faulty (fault 24 2 n)) (sym place))
    (λ x l h t. absurd (omega arith)) t

pub sound_so_far : SoundSoFar
sound_so_far s e k t =
    let z : 0 + k ≡ k = zero-add k in
    sound_from (Size 0 0 0) 0 s e k (omega arith) ∙ ap (λ (n : ℕ). Faulty (fault 24 2 n)) z

abbrev leaving : Bytes → Framed → Framed
leaving t f = record { bytes = f.bytes; ending = f.ending; taken = f.taken; left = t }

-- Taken-decides, from any place: k bytes are taken
decides_from : (p : Place) (at : ℕ) (s : Bytes) (e : End) (k : ℕ) → (framed p at s e).taken ≡ at + k
    → ((framed p at (take k s) Clean).ending ≡ Faulty (fault 24 2 (at + k)) → ⊥) → (t : Bytes) (e' : End) → framed p at (take k s ++ t) e' ≡ leaving t (framed p at s e)
decides_from p at [] e zero n un t e' =
    by_none (λ f. framed p at t e' ≡ leaving t f) p at e (λ l. framed-over p at t e' l)
    (λ l. absurd (un (ap (λ (f : Framed). f.ending) (framed-none p at Clean l) ∙ rw add-zero)))
decides_from p at [] e (suc k) n un t e' =
    absurd (by_none (λ f. f.taken ≡ at + suc k → ⊥) p at e (λ l n. omega arith) (λ l n. omega arith) n)
decides_from p at (b ∷ s) e zero n un t e' =
    by_step (λ f. f.taken ≡ at + 0 → framed p at t e' ≡ leaving t f) p at b s e (λ l n. framed-over p at t e' l)
    (λ q l h n. absurd (omega (arith, taken-from q (at + 1) s e))) (λ x l h n. absurd (omega arith)) n
decides_from p at (b ∷ s) e (suc k) n un t e' =
    by_step (λ f. f.taken ≡ at + suc k → framed p at (b ∷ (take k s ++ t)) e' ≡ leaving t f) p at b s e (λ l n. absurd (omega arith))
    (λ q l h n.
    let place : at + 1 + k ≡ at + suc k = omega arith in
    let cut = ap (λ (f : Framed). f.ending) (framed_goes p q at b (take k s) Clean l h) in
    framed_goes p q at b (take k s ++ t) e' l h
    ∙ ap (prepend (given p b)) (decides_from q (at + 1) s e k (omega arith) (λ x. un (cut ∙ x ∙ ap (λ (m : ℕ). Faulty (fault 24 2 m)) place)) t e'))
    (λ x l h n. let z : k ≡ 0 = omega arith in rw z (framed-ends p at b t e' x l h)) n

pub taken_decides : TakenDecides
taken_decides s e un t e' =
    let n = (unframed s e).taken in
    let z : n ≡ 0 + n = sym (zero-add n) in
    decides_from (Size 0 0 0) 0 s e n z (λ x. un (x ∙ ap (λ (m : ℕ). Faulty (fault 24 2 m)) (sym z))) t e'
