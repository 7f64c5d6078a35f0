-- A run of bytes that takes the framing from one place to another.
use Rattle.std.proofs.Common.{◌≡◌, ℕ, ◌+◌, ◌≤◌, [], ◌∷◌, ◌++◌, length, sym, refl, ap, ◌∙◌, append_assoc, append-nil, arith, Ok}
use Rattle.source.specs.declared.ends.End.{End}
use Rattle.byte_lines.specs.Bytes.{Bytes}
use Rattle.chunked.specs.declared.places.Place.{Place}
use Rattle.chunked.specs.Framing.{framed, step, limit}
use Rattle.chunked.proofs.Automaton.{given, prepend, framed_goes}

-- from the place p and the offset `at` the bytes w lead to the place q and the offset `to`, and give the bytes d
pub data Run : Place → ℕ → Bytes → Place → ℕ → Bytes → Type 0 where
  none : {p : Place} {at : ℕ} → Run p at [] p at []
  more : {p q r : Place} {at to b : ℕ} {w d : Bytes} → step p at b ≡ Ok q → Run q (at + 1) w r to d → Run p at (b ∷ w) r to (given p b ++ d)

-- the offset that it leads to is left out
abbrev pub Reaches : Place → ℕ → Bytes → Place → Bytes → Type 0
Reaches p at w q d = (to : ℕ) × Run p at w q to d

pub run_length : {p q : Place} {at to : ℕ} {w d : Bytes} → Run p at w q to d → at + length w ≡ to
run_length none = omega arith
run_length (more h r) = omega (arith, run_length r)

pub run_join : {p q r : Place} {at mid to : ℕ} {w v c d : Bytes} → Run p at w q mid c → Run q mid v r to d → Run p at (w ++ v) r to (c ++ d)
run_join none s = s
run_join (more h r) s = rw append_assoc (more h (run_join r s))

-- and the second run gives nothing
pub run_quiet : {p q r : Place} {at mid to : ℕ} {w v c : Bytes} → Run p at w q mid c → Run q mid v r to [] → Run p at (w ++ v) r to c
run_quiet r s = rw append-nil at (run_join r s)

pub then : {p q r : Place} {at : ℕ} {w v c d : Bytes} → Reaches p at w q c → ((mid : ℕ) → Reaches q mid v r d) → Reaches p at (w ++ v) r (c ++ d)
then (mid, r) s = ((s mid).0, run_join r (s mid).1)

pub run_framed : {p q : Place} {at to : ℕ} {w d : Bytes} → Run p at w q to d → to ≤ limit → (s : Bytes) (e : End)
    → framed p at (w ++ s) e ≡ prepend d (framed q to s e)
run_framed none h s e = refl
run_framed {p} {q} {at} {to} (more {q = m} {b = b} {w = w} {d = d} g r) h s e =
    framed_goes p m at b (w ++ s) e (omega (arith, run_length r)) g ∙ ap (prepend (given p b)) (run_framed r h s e)
    ∙ ap (λ (x : Bytes). record { bytes = x; ending = (framed q to s e).ending; taken = (framed q to s e).taken; left = (framed q to s e).left })
    (sym (append_assoc (given p b) d (framed q to s e).bytes))
