-- The bytes of a raw body that stand ready.
use Rattle.std.proofs.Common.{◌≡◌, ℕ, zero, suc, ◌+◌, ◌<◌, ◌≤◌, min, Bool, true, false, cond, not, ◌&&◌, eqb, List, [], ◌∷◌, ◌++◌, length, take, drop, is_some, sym, refl, ap, ◌∙◌, arith, length-take, length-take-le, take_at}
use mathlib.Core.Bool.{false≢true}
use lib.Seq.{take-nil}
use Rattle.std.proofs.lemmas.List.{append-nil}
use Rattle.std.proofs.lemmas.List.Sums.{prefix_len-le-length}
use Rattle.std.proofs.lemmas.Bool.{eqb-false}
use Rattle.byte_lines.specs.Bytes.{Bytes}
use Rattle.byte_lines.specs.Lines.{lines, onto}
use Rattle.byte_lines.proofs.LineLaws.{onto_all}
use Rattle.source.specs.Meanings.{Meaning as SourceMeaning}
use Rattle.input.specs.Inputs.{Meaning, meaning, passed, shown, known, unseen}
use Rattle.input.proofs.Windows.{shown-first}
use Rattle.message.specs.Groups.{Group}
use Rattle.message.specs.Bodies.{body_from}
use Rattle.scan.specs.declared.places.Place.{Place}
use Rattle.scan.specs.declared.places.Place.TheVariants.{Start, Return, Feed, Within, Ended}
use Rattle.scan.specs.declared.places.Next.TheVariants.{Byte, Unknown}
use Rattle.scan.specs.declared.scans.Scan.{Scan}
use Rattle.levels.specs.Opened.{groups}
use Rattle.scan.specs.Streams.{in_line, body_at, raw_left, stop_in, stop_at, next_of}
use Rattle.scan.specs.Ready.{until_cr, lone_cr, ready_in, ready_at, ready, waiting, place_past}
use Rattle.levels.proofs.LeadingLines.{lines_on, lines_cons}
use Rattle.scan.proofs.BodyPlaces.{in_line_all, stop_in_all}
use Rattle.scan.proofs.Endings.{both, unseen-known}
use Rattle.source.specs.declared.sources.Source.{Ghosts}

-- The bytes before the first CR.

pub until_take : (k : ℕ) (s : Bytes) → until_cr (take k s) ≡ min k (until_cr s)
until_take zero s = omega arith
until_take (suc k) [] = omega arith
until_take (suc k) (b ∷ s) = go (eqb b 13) (until_take k s)
  where
    go : (t : Bool) → until_cr (take k s) ≡ min k (until_cr s) → cond (not t) (1 + until_cr (take k s)) 0 ≡ min (suc k) (cond (not t) (1 + until_cr s) 0)
    go true e = omega arith
    go false e = omega arith

-- they stand in one line
until_lines : (n : ℕ) (v q : Bytes) → n ≤ until_cr v → lines (v ++ q) ≡ onto_all (take n v) (lines (drop n (v ++ q)))
until_lines zero v q h = refl
until_lines (suc n) [] q h = absurd (omega arith)
until_lines (suc n) (b ∷ v) q h = go (eqb b 13) refl h (until_lines n v q)
  where
    go : (t : Bool) → eqb b 13 ≡ t → suc n ≤ cond (not t) (1 + until_cr v) 0 → (n ≤ until_cr v → lines (v ++ q) ≡ onto_all (take n v) (lines (drop n (v ++ q))))
        → lines ((b ∷ v) ++ q) ≡ onto_all (take (suc n) (b ∷ v)) (lines (drop (suc n) ((b ∷ v) ++ q)))
    go true e k rec = absurd (omega arith)
    go false e k rec = lines_cons b (v ++ q) (eqb-false b 13 e) ∙ ap (onto b) (rec (omega arith))

-- What stands ready within a line.

lone_some : (v : Bytes) (all : Bool) → lone_cr v all ≡ true → 0 < length v
lone_some [] all e = absurd (false≢true e)
lone_some (b ∷ v) all e = omega arith

-- a CR that ends no line stands in it
lone_lines : (v q : Bytes) (all : Bool) → (all ≡ true → q ≡ []) → lone_cr v all ≡ true → lines (v ++ q) ≡ onto_all (take 1 v) (lines (drop 1 (v ++ q)))
unfolding lines
lone_lines [] q all none e = absurd (false≢true e)
lone_lines (b ∷ []) q all none e = let z = none (both (eqb b 13) all e).1 in ap (λ (s : Bytes). lines (b ∷ s)) z ∙ ap (λ (s : Bytes). onto b (lines s)) (sym z)
lone_lines (b ∷ c ∷ v) q all none e = lines_on b c (v ++ q) (λ _. no-lf (eqb c 10) refl (both (eqb b 13) (not (eqb c 10)) e).1)
  where
    no-lf : (t : Bool) → eqb c 10 ≡ t → not t ≡ true → c ≡ 10 → ⊥
    no-lf true p k = absurd (false≢true k)
    no-lf false p k = eqb-false c 10 p

module _ (v : Bytes) (all : Bool) where
  pub ready-fits : ready_in v all ≤ length v
  ready-fits = go (lone_cr v all) refl
    where
      go : (t : Bool) → lone_cr v all ≡ t → cond t 1 (until_cr v) ≤ length v
      go true e = omega (arith, lone_some v all e)
      go false e = prefix_len-le-length _ v

  -- what stands ready stands in the line at hand
  pub ready-lines : (q : Bytes) → (all ≡ true → q ≡ []) → (n : ℕ) → n ≤ ready_in v all → lines (v ++ q) ≡ onto_all (take n v) (lines (drop n (v ++ q)))
  ready-lines q none n h = go (lone_cr v all) refl n h
    where
      go : (t : Bool) → lone_cr v all ≡ t → (n : ℕ) → n ≤ cond t 1 (until_cr v) → lines (v ++ q) ≡ onto_all (take n v) (lines (drop n (v ++ q)))
      go true e zero k = refl
      go true e (suc zero) k = lone_lines v q all none e
      go true e (suc (suc n)) k = absurd (omega arith)
      go false e n k = until_lines n v q k

-- a byte that is next stands ready
pub ready_next : (v : Bytes) (all : Bool) → next_of v ≡ Byte → (length v < 2 → all ≡ true) → 0 < ready_in v all
ready_next [] all e h = cc
ready_next (b ∷ []) all e h = go (eqb b 13) refl all (h (omega arith))
  where
    go : (t : Bool) → eqb b 13 ≡ t → (u : Bool) → u ≡ true → 0 < cond (t && u) 1 (cond (not t) 1 0)
    go true p true k = omega arith
    go true p false k = absurd (false≢true k)
    go false p u k = omega arith
ready_next (b ∷ c ∷ v) all e h = go (eqb b 13) refl (eqb c 10) e
  where
    go : (t : Bool) → eqb b 13 ≡ t → (u : Bool) → cond (t && u) Unknown Byte ≡ Byte → 0 < cond (t && not u) 1 (cond (not t) (1 + until_cr (c ∷ v)) 0)
    go true p true k = cc
    go true p false k = omega arith
    go false p u k = omega arith

-- At a place: v is shown of what is left, and q comes behind it.
module _ (gs : List Group) (m : Meaning) (v q : Bytes) (all : Bool) (front : m.left ≡ v ++ q) (none : all ≡ true → q ≡ []) (n : ℕ) (h : n ≤ ready_in v all) where
  run-joins : take n v ++ in_line gs (lines (drop n m.left)) ≡ in_line gs (lines m.left)
  run-joins =
      ap (λ (z : Bytes). take n v ++ in_line gs (lines (drop n z))) front
      ∙ sym (in_line_all gs (take n v) (lines (drop n (v ++ q))))
      ∙ ap (in_line gs) (sym (ready-lines v all q none n h))
      ∙ ap (λ (z : Bytes). in_line gs (lines z)) (sym front)

  many : length (take n v) ≡ n
  many = length-take-le n v (omega (arith, ready-fits v all))

  pub run-front : take n v ≡ take n (in_line gs (lines m.left))
  run-front = sym (ap (take n) (sym run-joins) ∙ take_at (take n v) _ n many)

  -- n bytes are passed over
  pub run-gives : (m' : Meaning) → m' ≡ passed n m → take n (in_line gs (lines m.left)) ++ in_line gs (lines m'.left) ≡ in_line gs (lines m.left)
  run-gives m' e =
      ap (λ (z : Bytes). z ++ in_line gs (lines m'.left)) (sym run-front)
      ∙ ap (λ (x : Meaning). take n v ++ in_line gs (lines x.left)) e
      ∙ run-joins

  pub run-stops : (m' : Meaning) → m' ≡ passed n m → stop_in gs m'.offset (lines m'.left) ≡ stop_in gs m.offset (lines m.left)
  run-stops m' e =
      ap (λ (x : Meaning). stop_in gs x.offset (lines x.left)) e
      ∙ ap (λ (z : Bytes). stop_in gs (m.offset + n) (lines (drop n z))) front
      ∙ ap (λ (k : ℕ). stop_in gs (m.offset + k) (lines (drop n (v ++ q)))) (sym many)
      ∙ sym (stop_in_all gs m.offset (take n v) (lines (drop n (v ++ q))))
      ∙ ap (stop_in gs m.offset) (sym (ready-lines v all q none n h))
      ∙ ap (λ (z : Bytes). stop_in gs m.offset (lines z)) (sym front)

-- before a line
module _ (gs : List Group) (s : Bytes) where
  pub past-gives : (p : Place) (v : Bytes) (all : Bool) (n : ℕ) → n ≤ ready_at p v all → (p ≡ Within → ⊥) → take n (body_at gs p s) ++ body_at gs (place_past p n) s ≡ body_at gs p s
  past-gives (Start held) v all n h w = ap (λ (k : ℕ). take k (body_from gs held (lines s)) ++ body_from gs held (lines s)) {y = 0} (omega arith)
  past-gives Return v all zero h w = refl
  past-gives Return v all (suc zero) h w = refl
  past-gives Return v all (suc (suc zero)) h w = refl
  past-gives Return v all (suc (suc (suc n))) h w = absurd (omega arith)
  past-gives Feed v all zero h w = refl
  past-gives Feed v all (suc zero) h w = refl
  past-gives Feed v all (suc (suc n)) h w = absurd (omega arith)
  past-gives Within v all n h w = absurd (w refl)
  past-gives (Ended f) v all n h w = append-nil (take n []) ∙ take-nil n

  pub past-stops : (p : Place) (v : Bytes) (all : Bool) (at n : ℕ) → n ≤ ready_at p v all → (p ≡ Within → ⊥) → stop_at gs (place_past p n) at s ≡ stop_at gs p at s
  past-stops (Start held) v all at n h w = refl
  past-stops Return v all at zero h w = refl
  past-stops Return v all at (suc zero) h w = refl
  past-stops Return v all at (suc (suc zero)) h w = refl
  past-stops Return v all at (suc (suc (suc n))) h w = absurd (omega arith)
  past-stops Feed v all at zero h w = refl
  past-stops Feed v all at (suc zero) h w = refl
  past-stops Feed v all at (suc (suc n)) h w = absurd (omega arith)
  past-stops Within v all at n h w = absurd (w refl)
  past-stops (Ended f) v all at n h w = refl

-- the bytes that stand ready are the first of those that wait
module _ (gs : List Group) (m : Meaning) (v q : Bytes) (all : Bool) (front : m.left ≡ v ++ q) (none : all ≡ true → q ≡ []) where
  pub waiting-front : (p : Place) (n : ℕ) → n ≤ ready_at p v all → take n (waiting p v) ≡ take n (body_at gs p m.left)
  waiting-front (Start held) n h = ap (λ (k : ℕ). take k v) {y = 0} (omega arith) ∙ ap (λ (k : ℕ). take k (body_at gs (Start held) m.left)) {x = 0} (omega arith)
  waiting-front Return zero h = refl
  waiting-front Return (suc zero) h = refl
  waiting-front Return (suc (suc zero)) h = refl
  waiting-front Return (suc (suc (suc n))) h = absurd (omega arith)
  waiting-front Feed zero h = refl
  waiting-front Feed (suc zero) h = refl
  waiting-front Feed (suc (suc n)) h = absurd (omega arith)
  waiting-front Within n h = run-front gs m v q all front none n h
  waiting-front (Ended f) n h = ap (λ (k : ℕ). take k v) {y = 0} (omega arith) ∙ sym (take-nil n)

pub waiting_many : (p : Place) (v : Bytes) (all : Bool) → ready_at p v all ≤ length (waiting p v)
waiting_many (Start held) v all = omega arith
waiting_many Return v all = omega arith
waiting_many Feed v all = omega arith
waiting_many Within v all = ready-fits v all
waiting_many (Ended f) v all = omega arith

-- What stands ready of a scan's body.
module _ {S : Type 0} {G : Ghosts S} (source : S → SourceMeaning) (s : Scan S G) where
  pub ready_at_lem : (p : Place) → s.place ≡ p → ready s ≡ ready_at p (shown s.lines.input) (is_some (known s.lines.input))
  unfolding ready
  ready_at_lem p at = ap (λ (x : Place). ready_at x (shown s.lines.input) (is_some (known s.lines.input))) at

  pub ready-some : s.place ≡ Within → 0 < ready_in (shown s.lines.input) (is_some (known s.lines.input)) → 0 < ready s
  ready-some at h = omega (arith, ready_at_lem Within at)

  pub ready-front : (n : ℕ) → n ≤ ready s → take n (waiting s.place (shown s.lines.input)) ≡ take n (raw_left source s)
  unfolding ready raw_left
  ready-front n h =
      waiting-front (groups s.lines.levels) (meaning source s.lines.input) (shown s.lines.input) (unseen source s.lines.input) (is_some (known s.lines.input))
      (shown-first source s.lines.input) (unseen-known source s.lines.input) s.place n h

  pub ready-waits : ready s ≤ length (waiting s.place (shown s.lines.input))
  unfolding ready
  ready-waits = waiting_many s.place (shown s.lines.input) (is_some (known s.lines.input))

  -- no more stand ready than are left
  pub ready_within : ready s ≤ length (raw_left source s)
  ready_within =
      let n = ready s in
      let w = waiting s.place (shown s.lines.input) in
      omega (arith, ap length (ready-front n (omega arith)), length-take-le n w ready-waits, length-take n (raw_left source s))
