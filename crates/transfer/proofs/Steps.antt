-- One step of a transfer leaves what it comes to.
use Rattle.std.proofs.Common.{◌≡◌, ℕ, ◌+◌, ◌-◌, ◌<◌, ◌≤◌, [], ◌++◌, length, take, drop, sym, ap, ◌∙◌, ⊎_elim, arith, take-add}
use Rattle.std.proofs.lemmas.List.{length-take-le, length-drop, take-append-drop, take_at, drop-drop}
use Rattle.std.proofs.lemmas.Bool.{cases_lt, lt-ltb, le-ltb}
use Rattle.byte_lines.specs.Bytes.{Bytes, Answer}
use Rattle.source.specs.declared.ends.End.{End}
use Rattle.source.specs.Meanings.{Meaning as Source, means, ended}
use Rattle.source.proofs.Pulling.{Given, front_filled}
use Rattle.sink.specs.Meanings.{Meaning as Sink, stepped, taken}
use Rattle.sink.proofs.Folds.{stepped-append, taken_all}
use Rattle.transfer.specs.Drains.{drained}

drained_short : {V : Type 0} (m : Source) (k : Sink V) → length m.coming < k.space → drained m k ≡ (ended m.ending, means [] m.ending, stepped k m.coming)
drained_short m k h = let t = lt-ltb (length m.coming) k.space h in simp t

drained_full : {V : Type 0} (m : Source) (k : Sink V) → k.space ≤ length m.coming
    → drained m k ≡ ((5, []), means (drop k.space m.coming) m.ending, stepped k (take k.space m.coming))
drained_full m k h = let t = le-ltb (length m.coming) k.space h in simp t

-- n bytes moved
pub moved : {V : Type 0} (s : Bytes) (e : End) (k : Sink V) (n : ℕ) → n ≤ length s → n ≤ k.space
    → drained (means (drop n s) e) (stepped k (take n s)) ≡ drained (means s e) k
moved {V} s e k n comes fits =
    let l = length-take-le n s comes in
    let d = length-drop n s in
    ⊎_elim
    (λ h.
    let both = stepped-append k (take n s) (drop n s) ∙ ap (stepped k) (take-append-drop n s) in
    drained_short (means (drop n s) e) (stepped k (take n s)) (omega arith)
    ∙ ap (λ (z : Sink V). (ended e, means [] e, z)) both ∙ sym (drained_short (means s e) k h))
    (λ h.
    let rest : k.space - length (take n s) ≡ k.space - n = omega arith in
    let whole : n + (k.space - n) ≡ k.space = omega arith in
    let back : drop (k.space - length (take n s)) (drop n s) ≡ drop k.space s =
    ap (λ (j : ℕ). drop j (drop n s)) rest ∙ drop-drop (k.space - n) n s ∙ ap (λ (j : ℕ). drop j s) whole in
    let front : take n s ++ take (k.space - length (take n s)) (drop n s) ≡ take k.space s =
    ap (λ (j : ℕ). take n s ++ take j (drop n s)) rest ∙ sym (take-add n (k.space - n) s) ∙ ap (λ (j : ℕ). take j s) whole in
    let both = stepped-append k (take n s) (take (k.space - length (take n s)) (drop n s)) ∙ ap (stepped k) front in
    drained_full (means (drop n s) e) (stepped k (take n s)) (omega arith)
    ∙ ap (λ (z : Bytes). ((5, []), means z e, stepped (stepped k (take n s)) (take (k.space - length (take n s)) (drop n s)))) back
    ∙ ap (λ (z : Sink V). ((5, []), means (drop k.space s) e, z)) both ∙ sym (drained_full (means s e) k h))
    (cases_lt (length s) k.space)

-- a buffer's front, into which n bytes were pulled, was taken
pub took : {V : Type 0} (m m' : Source) (x x' : Sink V) (a : Answer) (k n : ℕ) (buffer front : Bytes) → Given m (take k buffer) n m' front → k ≤ x.space → k ≤ length buffer
    → (a, x') ≡ taken x (take (n - 0) (front ++ drop k buffer)) → drained m' x' ≡ drained m x
took {V} m m' x x' a k n buffer front g space long e =
    let l = length-take-le n m.coming g.comes in
    let lk = length-take-le k buffer long in
    let n≤k : n ≤ k = omega (arith, g.fits) in
    let z : n - 0 ≡ n = omega arith in
    let bytes : take (n - 0) (front ++ drop k buffer) ≡ take n m.coming =
    ap (λ (j : ℕ). take j (front ++ drop k buffer)) z ∙ ap (take n) (front_filled k n (take n m.coming) buffer front g.fits g.filled) ∙ take_at (take n m.coming) (drop n buffer) n l in
    let fits : length (take n m.coming) ≤ x.space = omega arith in
    let after : x' ≡ stepped x (take n m.coming) = ap (λ p. p.1) (e ∙ ap (taken x) bytes ∙ taken_all x (take n m.coming) fits) in
    ap (λ (y : Source). drained y x') g.after ∙ ap (drained (means (drop n m.coming) m.ending)) after
    ∙ moved m.coming m.ending x n g.comes (omega arith)
