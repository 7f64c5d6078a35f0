-- What a reader's steps leave of the framing: one byte more, a run of data, and the ends.
use Rattle.std.proofs.Common.{◌≡◌, ℕ, zero, suc, ◌+◌, ◌-◌, ◌<◌, ◌≤◌, false, [], ◌∷◌, ◌++◌, length, get_or, take, drop, Ok, Err, sym, refl, ap, ◌∙◌, arith}
use Rattle.std.proofs.lemmas.List.{length-append, take_at, drop_at}
use Rattle.std.proofs.lemmas.Bool.{lt-ltb}
use Rattle.source.specs.declared.ends.End.{End}
use Rattle.byte_lines.specs.Bytes.{Bytes}
use Rattle.source.specs.Meanings.{Meaning, means}
use Rattle.source.proofs.Pulling.{Given, Told}
use Rattle.chunked.specs.declared.places.Place.{Place}
use Rattle.chunked.specs.declared.places.Place.TheVariants.{Data}
use Rattle.chunked.specs.Framing.{Step, Framed, framed, step, stops, delivers, is_data, early, overrun, limit}
use Rattle.chunked.proofs.Automaton.{prepend, framed_goes, framed-over, framed-none}
use Rattle.chunked.specs.Reading.{framing_from, unframes}

goes_on : (p : Place) (at b : ℕ) (s : Bytes) (e : End) → is_data p ≡ false → (x : Step)
    → ◌≡◌ {A = Framed} (elim x [ Ok q ↦ delivers p b (framed q (at + 1) s e) | Err y ↦ stops y (at + 1) s ]) (framing_from x (at + 1) (means s e))
goes_on p at b s e d (Ok q) = rw (d, delivers)
goes_on p at b s e d (Err y) = refl

-- one byte that is no chunk's data
framed-step : (p : Place) (at b : ℕ) (s : Bytes) (e : End) → at < limit → is_data p ≡ false → framed p at (b ∷ s) e ≡ framing_from (step p at b) (at + 1) (means s e)
unfolding framed
framed-step p at b s e h d = let t = lt-ltb at limit h in rw (t, framed) (goes_on p at b s e d (step p at b))

-- a run of data
framed_run : (n left at : ℕ) (s : Bytes) (e : End) → n ≤ left → n ≤ length s → at + n ≤ limit
    → framed (Data left) at s e ≡ prepend (take n s) (framed (Data (left - n)) (at + n) (drop n s) e)
framed_run zero left at s e a b c =
    let l : left - 0 ≡ left = omega arith in
    let z : at + 0 ≡ at = omega arith in
    cc
framed_run (suc n) zero at s e a b c = absurd (omega arith)
framed_run (suc n) (suc left) at [] e a b c = absurd (omega arith)
framed_run (suc n) (suc left) at (x ∷ s) e a b c =
    let l : suc left - suc n ≡ left - n = omega arith in
    let z : at + suc n ≡ at + 1 + n = omega arith in
    let h = framed_run n left (at + 1) s e (omega arith) (omega arith) (omega arith) in
    let o = framed_goes (Data (suc left)) (Data left) at x s e (omega arith) refl in
    cc

-- The steps of a reader, by what comes next, the bytes taken so far and what the source below means.

pub over_same : (x : Step) (p : Place) (at : ℕ) (m : Meaning) (y : End) → x ≡ Ok p → limit ≤ at → y ≡ overrun → stops y at m.coming ≡ framing_from x at m
over_same x p at m y h l is = rw (h, is) (sym (framed-over p at m.coming m.ending l))

-- below has ended
pub early_same : (x : Step) (p : Place) (at : ℕ) (m m' : Meaning) (e y : End) (buffer buffer' : Bytes)
    → x ≡ Ok p → at < limit → Told m buffer e m' buffer' → y ≡ early at e → stops y at m'.coming ≡ framing_from x at m
early_same x p at m m' e y buffer buffer' h l t is =
    let after = t.after in
    let none = t.none in
    let ending = t.is in
    rw (h, after, none, is, ending) (sym (framed-none p at m.ending l))

byte_from : (p : Place) (at n : ℕ) (s : Bytes) (e : End) (m' : Meaning) (buffer' : Bytes)
    → at < limit → is_data p ≡ false → Given (means s e) (0 ∷ []) n m' buffer' → framing_from (step p at (get_or buffer' 0 0)) (at + 1) m' ≡ framed p at s e
byte_from p at n [] e m' buffer' l d g = absurd (let some = g.some (omega arith) in let none = g.comes in omega arith)
byte_from p at n (b ∷ s) e m' buffer' l d g =
    let some = g.some (omega arith) in
    let fits = g.fits in
    let one : n ≡ 1 = omega arith in
    let after : m' ≡ means s e = g.after ∙ ap (λ (k : ℕ). means (drop k (b ∷ s)) e) one in
    let filled : buffer' ≡ b ∷ [] = g.filled ∙ ap (λ (k : ℕ). take k (b ∷ s) ++ drop k (0 ∷ [])) one in
    rw (after, filled) (sym (framed-step p at b s e l d))

-- one byte was pulled
pub byte_same : (x y : Step) (p : Place) (at n : ℕ) (m m' : Meaning) (buffer' : Bytes)
    → x ≡ Ok p → at < limit → is_data p ≡ false → Given m (0 ∷ []) n m' buffer' → y ≡ step p at (get_or buffer' 0 0) → framing_from y (at + 1) m' ≡ framing_from x at m
byte_same x y p at n m m' buffer' h l d g is = rw (h, is) (byte_from p at n m.coming m.ending m' buffer' l d g)

-- data of a chunk was pulled
pub run_same : (x : Step) (left at n : ℕ) (m m' : Meaning) → x ≡ Ok (Data left) → n ≤ left → at + n ≤ limit → n ≤ length m.coming → m' ≡ means (drop n m.coming) m.ending
    → framing_from x at m ≡ prepend (take n m.coming) (framed (Data (left - n)) (at + n) m'.coming m'.ending)
run_same x left at n m m' h a b c after = rw (h, after) (framed_run n left at m.coming m.ending a c b)

-- bytes that stand before the others can be given
pub gives-front : (f f' : Framed) (d : Bytes) (n : ℕ) (buffer buffer' : Bytes) → f ≡ prepend d f' → length d ≡ n → n ≤ length buffer → 0 < n → buffer' ≡ d ++ drop n buffer
    → Given (unframes f) buffer n (unframes f') buffer'
gives-front f f' d n buffer buffer' e l fits some filled =
    let bytes : f.bytes ≡ d ++ f'.bytes = ap (λ x. x.bytes) e in
    let ending : f.ending ≡ f'.ending = ap (λ x. x.ending) e in
    let long : length f.bytes ≡ n + length f'.bytes = ap length bytes ∙ length-append d f'.bytes ∙ ap (λ (k : ℕ). k + length f'.bytes) l in
    let front = take_at d f'.bytes n l in
    let back = drop_at d f'.bytes n l in
    record {
      comes = omega arith;
      fits = fits;
      some = λ h. some;
      after = ap (λ (t : Bytes). means t f'.ending) (sym back ∙ ap (drop n) (sym bytes)) ∙ ap (means (drop n f.bytes)) (sym ending);
      filled = filled ∙ ap (λ (t : Bytes). t ++ drop n buffer) (sym front ∙ ap (take n) (sym bytes));
    }

-- the end is all that is to come
pub tells_end : (f f' : Framed) (e : End) (at : ℕ) (s buffer buffer' : Bytes) → f ≡ stops e at s → f' ≡ f → 0 < length buffer → buffer' ≡ buffer → Told (unframes f) buffer e (unframes f') buffer'
tells_end f f' e at s buffer buffer' is same asked kept =
    record { asked = asked; none = ap (λ x. x.bytes) is; is = sym (ap (λ x. x.ending) is); after = ap unframes same; kept = kept }
