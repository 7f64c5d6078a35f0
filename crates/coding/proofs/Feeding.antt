-- What a feed gives and leaves, over plain lists.
use Rattle.std.proofs.lemmas.Grind.{common_steps}
use Rattle.std.proofs.Common.{◌≡◌, ℕ, ◌+◌, ◌<◌, ◌≤◌, min, Bool, true, false, not, eqb, [], ◌∷◌, ◌++◌, length, get_or, take, drop, sym, refl, ap, ◌∙◌, arith}
use Rattle.std.proofs.lemmas.List.{append_assoc, length-append, length-take-le, take-append-drop, take_at, drop_at, drop-append-le, drop_more, nil_from_length}
use Rattle.std.proofs.lemmas.Bool.{eqb-true, eqb-false, not-true, not-false}
use Rattle.byte_lines.specs.Bytes.{Bytes}
use Rattle.source.specs.declared.ends.Fault.{Fault}
use Rattle.source.specs.declared.ends.End.{End}
use Rattle.source.specs.declared.ends.End.TheVariants.{Clean, Faulty}
use Rattle.source.specs.Meanings.{fault}
use Rattle.coding.specs.Decoding.{Decoded, gives, prefixed}
use Rattle.coding.specs.Decoders.{Feeds}

-- nothing waits, or something does, by the test of the queue
pub none-waits : (t : Bool) (w : Bytes) → t ≡ eqb (length w) 0 → t ≡ true → w ≡ []
none-waits t w e h = nil_from_length w (eqb-true (length w) 0 (sym e ∙ h))

pub none-ready : (t : Bool) (w : Bytes) → t ≡ not (eqb (length w) 0) → t ≡ false → w ≡ []
none-ready t w e h = grind (arith, common_steps)

pub some_ready : (t : Bool) (w : Bytes) → t ≡ not (eqb (length w) 0) → t ≡ true → 0 < length w
some_ready t w e h = grind (arith, common_steps)

pub prefixed-append : (a b : Bytes) (d : Decoded) → prefixed a (prefixed b d) ≡ prefixed (a ++ b) d
prefixed-append a b d = grind (arith, common_steps)

-- bytes put at a buffer's start
pub front : (n : ℕ) (s out out' : Bytes) → length s ≡ n → out' ≡ s ++ drop n out → take n out' ≡ s
front n s out out' l e = ap (take n) e ∙ take_at s (drop n out) n l

pub behind : (n : ℕ) (s out out' : Bytes) → length s ≡ n → out' ≡ s ++ drop n out → drop n out' ≡ drop n out
behind n s out out' l e = ap (drop n) e ∙ drop_at s (drop n out) n l

-- a copy of raw bytes at a buffer's start
pub copied : (n : ℕ) (raw out q : Bytes) (e : End) → n ≤ length raw → gives (raw ++ q) e ≡ prefixed (take n (take n raw ++ drop n out)) (gives (drop n raw ++ q) e)
copied n raw out q e le =
    let l = length-take-le n raw le in
    ap (λ (t : Bytes). gives (t ++ q) e) (sym (take-append-drop n raw)) ∙ ap (λ (t : Bytes). gives t e) (append_assoc (take n raw) (drop n raw) q)
    ∙ ap (λ (t : Bytes). gives (t ++ (drop n raw ++ q)) e) (sym (take_at (take n raw) (drop n out) n l))

-- what waited was given
pub gave-waiting : (w out out' raw : Bytes) (later : Bytes → End → Decoded) (place n : ℕ) (w' : Bytes) → 0 < length w → n ≡ min (length w) (length out) → w' ≡ drop n w
    → out' ≡ take n w ++ drop n out → Feeds (record { ready = w; later = later; place = place }) raw out 0 n (record { ready = w'; later = later; place = place }) out'
gave-waiting w out out' raw later place n w' some count rest filled =
    let l = length-take-le n w (omega arith) in
    record {
      took = omega arith;
      gave = omega arith;
      kept = behind n (take n w) out out' l filled;
      moved = omega arith;
      whole = λ q e.
          let d = later (raw ++ q) e in
          ap (λ (t : Bytes). prefixed t d) (sym (take-append-drop n w)) ∙ sym (prefixed-append (take n w) (drop n w) d)
          ∙ ap (λ (t : Bytes). prefixed t (prefixed (drop n w) d)) (sym (front n (take n w) out out' l filled)) ∙ ap (λ (t : Bytes). prefixed (take n out') (prefixed t d)) (sym rest);
      waits = λ h. (refl, count);
      goes = λ none r p. absurd (omega (arith, some, ap length none));
    }

-- leading raw bytes were decoded straight into the buffer
pub ran : (w out out' raw : Bytes) (later later' : Bytes → End → Decoded) (place most taken given : ℕ) → w ≡ [] → most ≤ length raw → taken ≤ length (take most raw) → given ≤ length out → 0 < taken
    → drop given out' ≡ drop given out
    → ((q : Bytes) (e : End) → later (take most raw ++ q) e ≡ prefixed (take given out') (later' (drop taken (take most raw) ++ q) e))
    → Feeds (record { ready = w; later = later; place = place }) raw out taken given (record { ready = w; later = later'; place = place + taken }) out'
ran w out out' raw later later' place most taken given none long took gave some kept whole =
    let l = length-take-le most raw long in
    record {
      took = omega arith;
      gave = gave;
      kept = kept;
      moved = refl;
      whole = λ q e.
          let r = take most raw in
          let d = drop most raw in
          let split : raw ++ q ≡ r ++ (d ++ q) = ap (λ (t : Bytes). t ++ q) (sym (take-append-drop most raw)) ∙ append_assoc r d q in
          let left : drop taken r ++ (d ++ q) ≡ drop taken raw ++ q =
          sym (append_assoc (drop taken r) d q) ∙ ap (λ (t : Bytes). t ++ q) (sym (drop-append-le taken r d took) ∙ ap (drop taken) (take-append-drop most raw)) in
          ap (λ (t : Bytes). prefixed t (later (raw ++ q) e)) none
          ∙ ap (λ (t : Bytes). later t e) split ∙ whole (d ++ q) e ∙ ap (λ (t : Bytes). prefixed (take given out') (later' t e)) left
          ∙ ap (λ (t : Bytes). prefixed (take given out') (prefixed t (later' (drop taken raw ++ q) e))) (sym none);
      waits = λ h. absurd (omega (arith, ap length none));
      goes = λ n r p. some;
    }

-- The end of a body.

abbrev number_of : End → ℕ
number_of Clean = 9
number_of (Faulty f) = f.number

-- a body that is not settled ends as its input does, so that two inputs end it in two ways
pub open_ended : (later : Bytes → End → Decoded) (x : End) → ((g : Fault) → (later [] (Faulty g)).ending ≡ Faulty g) → ((raw : Bytes) (e : End) → (later raw e).ending ≡ x) → ⊥
open_ended later x follows settled =
    let ends : (g : Fault) → x ≡ Faulty g = λ g. sym (settled [] (Faulty g)) ∙ follows g in
    let z : ◌≡◌ {A = ℕ} 0 1 = ap number_of (sym (ends (fault 0 0 0)) ∙ ends (fault 1 0 0)) in
    omega arith

-- and one with bytes that wait is not settled
pub still_waiting : (w : Bytes) (later : Bytes → End → Decoded) (x : End) → 0 < length w → ((raw : Bytes) (e : End) → prefixed w (later raw e) ≡ gives [] x) → ⊥
still_waiting w later x some settled =
    let n = ap (λ (d : Decoded). length d.bytes) (settled [] Clean) in
    omega (arith, n, length-append w (later [] Clean).bytes)
