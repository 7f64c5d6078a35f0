-- Levels as groups: how many, one more, one less, and each in a loop over them.
use Rattle.std.proofs.Common.{◌≡◌, ℕ, suc, ◌+◌, ◌-◌, ◌<◌, ◌≤◌, List, [], ◌∷◌, length, map, reverse, get_or, take, drop, set, Some, None, Option, MatchOption, Bor, Iter, sym, ap, ◌∙◌, arith, drop-cons, zero-add}
use Rattle.std.proofs.lemmas.List.{drop-map, length-map, get_or-take, length-reverse, length-take, length-take-le, nil_from_length, reverse-append, take_more, take_more_set}
use Rattle.std.proofs.lemmas.List.FromFn.{length-enumerate_from, get_or-enumerate_from}
use Rattle.std.proofs.lemmas.Iterator.Adapters.{YieldsList-from_rev_slice}
use Rattle.std.proofs.lemmas.Iterator.Consumers.{YieldsList-from_enumerate, YieldsList-turn, YieldsList-end}
use Rattle.std.specs.Iterator.{Yields}
use Rattle.std.specs.Iterator.Adapters.{enumerate_source, enumerate_count, enumerate_steps, rev_source, rev_steps}
use Rattle.std.specs.Slice.{IsGetResult}
use Rattle.std.specs.Slice.Iter.{iter_rest, iter_steps_back}
use Rattle.std.specs.declared.iter.Enumerate.{Enumerate}
use Rattle.std.specs.declared.iter.Rev.{Rev}
use Rattle.message.specs.Groups.{Group, innermost}
use Rattle.levels.specs.declared.levels.Level.{Level}
use Rattle.levels.specs.declared.levels.Levels.{Levels}
use Rattle.levels.specs.Opened.{group_of, groups}

pub count_is : (ls : Levels) → ls.count ≡ length (groups ls)
unfolding groups
count_is ls = simp (length-map, length-reverse, length-take) (omega (arith, ls.whole, ls.within))

-- a level is written behind the first n
pub stack-more : (ls : List Level) (n : ℕ) (l : Level) → n < length ls → reverse (take (n + 1) (set ls n l)) ≡ l ∷ reverse (take n ls)
stack-more ls n l h = ap reverse (take_more_set ls n l h) ∙ reverse-append (take n ls) (l ∷ [])

-- The open levels, of which the last is the innermost.
module _ (ls : Levels) (xs : List Level) (is : xs ≡ take ls.count ls.slots) where
  pub none_open : length xs ≤ 0 → groups ls ≡ []
  unfolding groups
  none_open h = ap (λ (ys : List Level). map group_of (reverse ys)) (sym is ∙ nil_from_length xs (omega arith))

  pub some_open : (l : Level) → 0 < length xs → l ≡ get_or xs (length xs - 1) l → groups ls ≡ group_of l ∷ map group_of (reverse (take (ls.count - 1) ls.slots))
  unfolding groups
  some_open l some e =
      let n = ls.count in
      let k : length xs ≡ n = ap length is ∙ length-take-le n ls.slots (omega (arith, ls.whole, ls.within)) in
      let at : l ≡ get_or ls.slots (n - 1) l =
      e ∙ ap (λ (ys : List Level). get_or ys (length xs - 1) l) is ∙ ap (λ (m : ℕ). get_or (take n ls.slots) m l) (omega arith) ∙ get_or-take n ls.slots (n - 1) l (omega arith) in
      ap (λ (m : ℕ). map group_of (reverse (take m ls.slots))) {x = n} {y = n - 1 + 1} (omega arith)
      ∙ ap (λ (ys : List Level). map group_of (reverse ys)) (take_more ls.slots (n - 1) l (omega (arith, ls.whole, ls.within)))
      ∙ ap (map group_of) (reverse-append (take (n - 1) ls.slots) (get_or ls.slots (n - 1) l ∷ []))
      ∙ ap (λ (x : Level). group_of x ∷ map group_of (reverse (take (n - 1) ls.slots))) (sym at)

  pub number_open : (o : Option (Bor Level)) (n : ℕ) → IsGetResult xs 0 (length xs - 1) o → MatchOption o (n ≡ 0) (λ l. n ≡ l.now.number) → n ≡ innermost (groups ls)
  number_open None n at e = e ∙ sym (ap innermost (none_open at.3))
  number_open (Some l) n at e = e ∙ sym (ap innermost (some_open l.now at.3.0 at.1))

abbrev Steps : Enumerate (Rev (Iter Level)) → Option (ℕ × Bor Level) → Enumerate (Rev (Iter Level)) → Type 0
Steps = enumerate_steps (rev_steps iter_steps_back)

-- A loop over the levels, the innermost first, which has met those in xs.
module _ (ls : Levels) (all : List Level) (s t u : Enumerate (Rev (Iter Level))) (xs : List (ℕ × Bor Level)) (r : Option (ℕ × Bor Level))
    (is : all ≡ take ls.count ls.slots) (at : iter_rest (rev_source (enumerate_source s)) ≡ all) (none : enumerate_count s ≡ 0) (y : Yields Steps s xs t) (h : Steps t r u) where
  abbrev back : List Level
  back = reverse (take ls.count ls.slots)

  -- the level at hand is the one inside which as many are open
  pub met_one : (p : ℕ × Bor Level) → r ≡ Some p → (p.0 ≡ length xs) × (drop p.0 (groups ls) ≡ group_of p.1.now ∷ drop (suc p.0) (groups ls))
  unfolding groups
  met_one p e =
      let met = YieldsList-turn (YieldsList-from_enumerate (YieldsList-from_rev_slice (take ls.count ls.slots) (at ∙ is)) none) xs t y r u p e h in
      let k : length xs < length back = omega (arith, met.0, length-enumerate_from 0 back) in
      let here = met.1 ∙ get_or-enumerate_from 0 back (length xs) (p.0, p.1.now) k in
      let i : p.0 ≡ length xs = ap (λ (q : ℕ × Level). q.0) here ∙ zero-add (length xs) in
      let l : p.1.now ≡ get_or back p.0 p.1.now = ap (λ (q : ℕ × Level). q.1) here ∙ ap (λ (n : ℕ). get_or back n p.1.now) (sym i) in (
        i,
        drop-map group_of p.0 back
            ∙ ap (map group_of) (drop-cons back p.0 p.1.now (omega arith))
            ∙ ap (λ (x : Level). group_of x ∷ map group_of (drop (suc p.0) back)) (sym l)
            ∙ ap (λ (gs : List Group). group_of p.1.now ∷ gs) (sym (drop-map group_of (suc p.0) back)),
      )

  pub met_all : r ≡ None → length (groups ls) ≤ length xs
  unfolding groups
  met_all e =
      let met = YieldsList-end (YieldsList-from_enumerate (YieldsList-from_rev_slice (take ls.count ls.slots) (at ∙ is)) none) xs t y r u e h in
      omega (arith, met.1, length-enumerate_from 0 back, length-map back group_of)
