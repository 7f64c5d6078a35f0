-- What pulls and steps do to what a window shows, and to what its input means.
use Rattle.std.proofs.Common.{◌≡◌, ℕ, ◌+◌, ◌-◌, ◌<◌, ◌≤◌, Bool, true, false, ◌||◌, cond, leb, [], ◌++◌, length, take, drop, is_some, Some, None, Option, sym, refl, ap, ◌∙◌, ⊎_elim, arith, take-add}
use lib.Seq.{take-nil}
use borrow.Rule.Slice.PartMut.{put_mid}
use Rattle.std.proofs.lemmas.List.{append_assoc, append-nil, length-append, length-take, length-drop, length-take-le, drop-drop, drop-take, drop_at, drop-append-le, take_at, take_all, take-take}
use Rattle.std.proofs.lemmas.Slice.{between_is, take-put_mid_below}
use Rattle.std.proofs.lemmas.Bool.{le-leb, lt-leb, cases_lt, false≢true}
use Rattle.byte_lines.specs.Bytes.{Bytes}
use Rattle.source.specs.declared.ends.End.{End}
use Rattle.source.specs.declared.ends.End.TheVariants.{Faulty}
use Rattle.source.specs.Meanings.{Meaning as SourceMeaning, fault}
use Rattle.source.proofs.Pulling.{Given, Told}
use Rattle.input.specs.declared.window.Input.{Input}
use Rattle.input.specs.Inputs.{end_of, behind, finish, standing, passed, shown, known, meaning, unseen, Kept, Knows, AllShown}
use Rattle.source.specs.declared.sources.Source.{Ghosts}

-- What the window shows, by its bytes and its two places.

pub length-shown : (w : Bytes) (from to : ℕ) → to ≤ length w → length (take (to - from) (drop from w)) ≡ to - from
length-shown w from to h = length-take-le (to - from) (drop from w) (simp length-drop (omega arith))

-- a part behind the bytes shown has changed
pub shown-below : (w b : Bytes) (from to k : ℕ) → to ≤ length w → take (to - from) (drop from (put_mid to k w b)) ≡ take (to - from) (drop from w)
shown-below w b from to k h =
    between_is (put_mid to k w b) from to ∙ ap (drop from) (take-put_mid_below to k w b to (omega arith) h) ∙ sym (between_is w from to)

-- and its first n bytes d are shown now
pub shown-more : (w b d t : Bytes) (from to k n : ℕ) → from ≤ to → to ≤ length w → length d ≡ n → b ≡ d ++ t
    → take (to + n - from) (drop from (put_mid to k w b)) ≡ take (to - from) (drop from w) ++ d
shown-more w b d t from to k n h fits e p =
    let all = put_mid to k w b in
    let after = drop k (drop to w) in
    let sum : to + n - from ≡ to - from + n = omega arith in
    let place : from + (to - from) ≡ to = omega arith in
    let two = take-add (to - from) n (drop from all) in
    let front = shown-below w b from to k fits in
    let back = drop-drop (to - from) from all in
    let part = drop_at (take to w) (b ++ after) to (length-take-le to w fits) in
    let joined = append_assoc d t after in
    let first = take_at d (t ++ after) n e in
    cc

-- the first k of them are passed over
pub shown-less : (w : Bytes) (from to k : ℕ) → k ≤ to - from → take (to - (from + k)) (drop (from + k) w) ≡ drop k (take (to - from) (drop from w))
shown-less w from to k h =
    let sum : k + (to - (from + k)) ≡ to - from = omega arith in
    ap (take (to - (from + k))) (sym (drop-drop k from w))
    ∙ sym (drop-take k (to - (from + k)) (drop from w))
    ∙ ap (λ (m : ℕ). drop k (take m (drop from w))) sum

-- What the input means, by the bytes shown, their offset and the source behind them.

-- a source that has given n bytes gives too many just if it did before
end_of_more : (s : Bytes) (e : End) (room n : ℕ) → n ≤ length s → n ≤ room → end_of (room - n) (drop n s) e ≡ end_of room s e
end_of_more s e room n h k = ap (λ t. cond t e (Faulty (fault 31 3 16777216))) (ap (λ (m : ℕ). leb m (room - n)) (length-drop n s) ∙ tests)
  where
    tests : leb (length s - n) (room - n) ≡ leb (length s) room
    tests =
        ⊎_elim (λ lt. lt-leb (length s - n) (room - n) (omega arith) ∙ sym (lt-leb (length s) room lt))
        (λ le. le-leb (length s - n) (room - n) (omega arith) ∙ sym (le-leb (length s) room le)) (cases_lt room (length s))

module _ (v v' : Bytes) (at : ℕ) (m m' : SourceMeaning) {e e' : Option End} (none : e ≡ None) where
  -- the source gave n bytes, which are shown now
  pub standing-given : (n : ℕ) {buffer buffer' : Bytes} → e' ≡ e → v' ≡ v ++ take n m.coming → at + length v + n ≤ 16777216
      → Given m buffer n m' buffer' → standing v' at m' e' ≡ standing v at m e
  standing-given n same_end p fits given =
      let s = m.coming in
      let room = 16777216 - (at + length v) in
      let h = given.comes in
      let after = given.after in
      let le : n ≤ room = omega arith in
      let less : 16777216 - (at + length (v ++ take n s)) ≡ room - n = simp (length-append, length-take) (omega arith) in
      let sum : n + (room - n) ≡ room = omega arith in
      let front = append_assoc v (take n s) (take (room - n) (drop n s)) in
      let back = take-add n (room - n) s in
      let ends = end_of_more s m.ending room n h le in
      let unknown : e' ≡ None = same_end ∙ none in
      cc

  -- the source told its end
  pub standing-told : (x : End) {buffer buffer' : Bytes} → e' ≡ Some x → v' ≡ v → Told m buffer x m' buffer' → standing v' at m' e' ≡ standing v at m e
  standing-told x found p told =
      let room = 16777216 - (at + length v) in
      let no_bytes = told.none in
      let is = told.is in
      let nothing : take room [] ≡ [] = take-nil {A = ℕ} room in
      let fits : leb (length {A = ℕ} []) room ≡ true = le-leb 0 room (omega arith) in
      cc

  -- the source has more at the limit
  pub standing-full : e' ≡ Some (Faulty (fault 31 3 16777216)) → v' ≡ v → at + length v ≡ 16777216 → 0 < length m.coming
      → standing v' at m' e' ≡ standing v at m e
  standing-full found p full more =
      let room = 16777216 - (at + length v) in
      let no_room : room ≡ 0 = omega arith in
      let passes : leb (length m.coming) room ≡ false = lt-leb (length m.coming) room (omega arith) in
      cc

-- the first k bytes shown are passed over
pub standing-less : (v : Bytes) (at k : ℕ) (m : SourceMeaning) (e : Option End) → k ≤ length v → standing (drop k v) (at + k) m e ≡ passed k (standing v at m e)
standing-less v at k m e h =
    let room = 16777216 - (at + length v) in
    let same : 16777216 - (at + k + length (drop k v)) ≡ room = simp length-drop (omega arith) in
    let front = drop-append-le k v (behind room m e) h in
    cc

-- no byte is left at the limit or behind it
standing-fits : (v : Bytes) (at : ℕ) (m : SourceMeaning) (e : Option End) → at + length v ≤ 16777216 → at + length (standing v at m e).left ≤ 16777216
standing-fits v at m None h = simp (length-append, length-take) (omega arith)
standing-fits v at m (Some e) h = simp append-nil (omega arith)

-- What is shown begins with what was shown.

pub begins_same : (v : Bytes) {v' : Bytes} → v' ≡ v → take (length v) v' ≡ v
begins_same v p = ap (take (length v)) p ∙ take_all (length v) v (omega arith)

pub begins_more : (v d : Bytes) {v' : Bytes} → v' ≡ v ++ d → take (length v) v' ≡ v
begins_more v d p = ap (take (length v)) p ∙ take_at v d (length v) refl

pub begins_twice : (u v w : Bytes) → take (length u) v ≡ u → take (length v) w ≡ v → take (length u) w ≡ u
begins_twice u v w p q =
    let fits : length u ≤ length v = omega (arith, ap length p, length-take (length u) v) in
    sym (take-take (length u) (length v) w fits) ∙ ap (take (length u)) q ∙ p

-- What holds of every input.
module _ {S : Type 0} {G : Ghosts S} (source : S → SourceMeaning) (i : Input S G) where
  pub length-window : length (shown i) ≡ i.to - i.from
  unfolding shown
  length-window = length-shown i.window i.from i.to (omega (arith, i.whole, i.within))

  pub shown-first : (meaning source i).left ≡ shown i ++ unseen source i
  unfolding meaning unseen
  shown-first = refl

  pub within-limit : (meaning source i).offset + length (meaning source i).left ≤ 16777216
  unfolding meaning
  within-limit = standing-fits (shown i) i.at (source i.source) i.end (omega (arith, length-window, i.limited))

  pub knows-by : (o : Option End) → known i ≡ o → Knows source i o
  unfolding meaning known
  knows-by None p = p
  knows-by (Some e) p =
      let room = 16777216 - (i.at + length (shown i)) in
      record {
        all = ap (λ o. shown i ++ behind room (source i.source) o) p ∙ append-nil (shown i);
        is = ap (finish room (source i.source)) p;
        told = p;
      }

  all-by : (o : Option End) → known i ≡ o → is_some o ≡ true → AllShown source i (meaning source i).ending
  all-by None p h = absurd (false≢true h)
  all-by (Some e) p h =
      let k = knows-by (Some e) p in
      record { all = k.all; is = refl; told = p ∙ ap Some (sym k.is) }

  pub all_shown : is_some (known i) ≡ true → AllShown source i (meaning source i).ending
  all_shown h = all-by (known i) refl h

  -- the window shows n bytes, or else all
  pub shows-all : (n : ℕ) → true ≡ (leb n (i.to - i.from) || is_some i.end) → length (shown i) < n → AllShown source i (meaning source i).ending
  unfolding known
  shows-all n h lt = all_shown (sym (h ∙ ap (λ t. t || is_some i.end) (lt-leb n (i.to - i.from) (omega (arith, length-window)))))

  -- it shows fewer, and the end is not known
  pub lacks-bytes : (n : ℕ) → false ≡ (leb n (i.to - i.from) || is_some i.end) → n ≤ length (shown i) → ⊥
  lacks-bytes n h le = false≢true (h ∙ ap (λ t. t || is_some i.end) (le-leb n (i.to - i.from) (omega (arith, length-window))))

  pub lacks-end : (n : ℕ) → false ≡ (leb n (i.to - i.from) || is_some i.end) → (e : End) → known i ≡ Some e → ⊥
  unfolding known
  lacks-end n h e k = go (leb n (i.to - i.from)) (h ∙ ap (λ o. leb n (i.to - i.from) || is_some o) k)
    where
      go : (t : Bool) → false ≡ (t || true) → ⊥
      go true q = false≢true q
      go false q = false≢true q

  pub kept_same : Kept source i i
  kept_same = record { means = refl; shows = begins_same (shown i) refl }

pub kept-twice : {S : Type 0} {G : Ghosts S} (source : S → SourceMeaning) (i j k : Input S G) → Kept source i j → Kept source j k → Kept source i k
kept-twice source i j k p q = record { means = q.means ∙ p.means; shows = begins_twice (shown i) (shown j) (shown k) p.shows q.shows }
