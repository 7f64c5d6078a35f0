-- A raw body and its stop, by places.
use Rattle.std.proofs.Common.{◌≡◌, ℕ, ◌+◌, ◌*◌, ◌<◌, ◌≤◌, Bool, true, false, cond, ◌&&◌, eqb, List, [], ◌∷◌, ◌++◌, length, drop, Some, None, Option, sym, refl, ap, ◌∙◌, append-nil, arith, length-append, length-drop}
use mathlib.Core.Bool.{false≢true}
use Rattle.std.proofs.lemmas.Bool.{eqb-true}
use Rattle.byte_lines.specs.Bytes.{Bytes}
use Rattle.byte_lines.specs.Lines.{Line, lines, onto, crlf}
use Rattle.byte_lines.proofs.LineLaws.{onto_all}
use Rattle.input.specs.Inputs.{Meaning, passed}
use Rattle.message.specs.Groups.{Group, role, fits}
use Rattle.message.specs.Bodies.{body_from}
use Rattle.levels.specs.declared.levels.Fit.{Fit}
use Rattle.scan.specs.declared.places.Place.{Place}
use Rattle.scan.specs.declared.places.Place.TheVariants.{Start, Within}
use Rattle.scan.specs.declared.places.Next.TheVariants.{Byte, Nothing, Unknown}
use Rattle.levels.specs.Fits.{role_by, InDepth, leading, content}
use Rattle.scan.specs.Streams.{in_line, body_at, stop_from, stop_in, stop_at, place_by, next_of, rank}
use Rattle.levels.proofs.LineTests.{role_other, fit_fits}
use Rattle.levels.proofs.LeadingLines.{lines-crlf}

-- Within a line.

in_line-onto : (gs : List Group) (b : ℕ) (ls : List Line) → in_line gs (onto b ls) ≡ b ∷ in_line gs ls
unfolding body_from
in_line-onto gs b [] = refl
in_line-onto gs b (l ∷ ls) = refl

pub in_line_all : (gs : List Group) (p : Bytes) (ls : List Line) → in_line gs (onto_all p ls) ≡ p ++ in_line gs ls
in_line_all gs [] ls = refl
in_line_all gs (b ∷ p) ls = in_line-onto gs b (onto_all p ls) ∙ ap (λ (z : Bytes). b ∷ z) (in_line_all gs p ls)

stop_in-onto : (gs : List Group) (at b : ℕ) (ls : List Line) → stop_in gs at (onto b ls) ≡ stop_in gs (at + 1) ls
unfolding stop_from
stop_in-onto gs at b [] = refl
stop_in-onto gs at b (l ∷ ls) = ap (λ (n : ℕ). stop_from gs n ls) (omega arith)

pub stop_in_all : (gs : List Group) (at : ℕ) (p : Bytes) (ls : List Line) → stop_in gs at (onto_all p ls) ≡ stop_in gs (at + length p) ls
stop_in_all gs at [] ls = ap (λ (n : ℕ). stop_in gs n ls) {x = at} (omega arith)
stop_in_all gs at (b ∷ p) ls = stop_in-onto gs at b (onto_all p ls) ∙ stop_in_all gs (at + 1) p ls ∙ ap (λ (n : ℕ). stop_in gs n ls) {x = at + 1 + length p} (omega arith)

-- At a line's start.
module _ (gs : List Group) where
  start-text : (held : Bool) (ls : List Line) → fits (role gs (content ls)) ≡ false → cond held crlf [] ++ in_line gs ls ≡ body_from gs held ls
  unfolding body_from
  start-text held [] h = append-nil (cond held crlf [])
  start-text held (l ∷ ls) h = rw (h, body_from)

  start_fits : (held : Bool) (ls : List Line) → fits (role gs (content ls)) ≡ true → [] ≡ body_from gs held ls
  unfolding body_from
  start_fits held [] h = absurd (false≢true (sym (ap fits (role_other gs [] (λ t e. omega (arith, ap length e)))) ∙ h))
  start_fits held (l ∷ ls) h = rw (h, body_from)

  stop-text : (at : ℕ) (ls : List Line) → fits (role gs (content ls)) ≡ false → stop_in gs at ls ≡ stop_from gs at ls
  unfolding stop_from
  stop-text at [] h = refl
  stop-text at (l ∷ ls) h = rw (h, stop_from)

  stop-fits : (at : ℕ) (ls : List Line) → fits (role gs (content ls)) ≡ true → record { from = at; lines = ls } ≡ stop_from gs at ls
  unfolding stop_from
  stop-fits at [] h = refl
  stop-fits at (l ∷ ls) h = rw (h, stop_from)

  -- what the test of the line leads to
  start-tested : (held : Bool) (s : Bytes) (f : Option Fit) → role_by gs f ≡ role gs (leading s) → InDepth (length gs) f → body_at gs (place_by f held) s ≡ body_from gs held (lines s)
  unfolding leading
  start-tested true s None e d = start-text true (lines s) (ap fits (sym e))
  start-tested false s None e d = start-text false (lines s) (ap fits (sym e))
  start-tested held s (Some f) e d = start_fits held (lines s) (ap fits (sym e) ∙ fit_fits gs f d)

  stop-tested : (held : Bool) (at : ℕ) (s : Bytes) (f : Option Fit) → role_by gs f ≡ role gs (leading s) → InDepth (length gs) f → stop_at gs (place_by f held) at s ≡ stop_from gs at (lines s)
  unfolding leading
  stop-tested true at s None e d = stop-text at (lines s) (ap fits (sym e))
  stop-tested false at s None e d = stop-text at (lines s) (ap fits (sym e))
  stop-tested held at s (Some f) e d = stop-fits at (lines s) (ap fits (sym e) ∙ fit_fits gs f d)

rank_by : (f : Option Fit) (held : Bool) → rank (place_by f held) < 4
rank_by None true = omega arith
rank_by None false = omega arith
rank_by (Some f) held = omega arith

-- a line at p was tested with the answer f, which led to p'; m is what is left there, as it was before
module _ (gs : List Group) (held : Bool) (p p' : Place) (f : Option Fit) (at : p ≡ Start held) (to : p' ≡ place_by f held) (m m' : Meaning) (same : m' ≡ m) where
  pub begun-left : role_by gs f ≡ role gs (leading m'.left) → InDepth (length gs) f → body_at gs p' m'.left ≡ body_at gs p m.left
  begun-left e d =
      ap (λ (x : Place). body_at gs x m'.left) to
      ∙ start-tested gs held m'.left f e d
      ∙ ap (λ (x : Place). body_at gs x m'.left) (sym at)
      ∙ ap (λ (x : Meaning). body_at gs p x.left) same

  pub begun-stop : role_by gs f ≡ role gs (leading m'.left) → InDepth (length gs) f → stop_at gs p' m'.offset m'.left ≡ stop_at gs p m.offset m.left
  begun-stop e d =
      ap (λ (x : Place). stop_at gs x m'.offset m'.left) to
      ∙ stop-tested gs held m'.offset m'.left f e d
      ∙ ap (λ (x : Place). stop_at gs x m'.offset m'.left) (sym at)
      ∙ ap (λ (x : Meaning). stop_at gs p x.offset x.left) same

  pub begun-weight : 4 * length m'.left + rank p' < 4 * length m.left + rank p
  begun-weight = omega (arith, ap (λ (x : Meaning). length x.left) same, ap rank at, ap rank to, rank_by f held)

-- A line's end: v is shown of what is left, and q comes behind it.

pair_is : (b c : ℕ) → cond (eqb b 13 && eqb c 10) Unknown Byte ≡ Unknown → (b ≡ 13) × (c ≡ 10)
pair_is b c e = go (eqb b 13) (eqb c 10) refl refl e
  where
    go : (x y : Bool) → eqb b 13 ≡ x → eqb c 10 ≡ y → cond (x && y) Unknown Byte ≡ Unknown → (b ≡ 13) × (c ≡ 10)
    go true true p q k = (eqb-true b 13 p, eqb-true c 10 q)
    go true false p q k = cc
    go false y p q k = cc

-- a CRLF is shown
pub break_shown : (v : Bytes) → next_of v ≡ Unknown → 2 ≤ length v
break_shown [] e = cc
break_shown (b ∷ []) e = cc
break_shown (b ∷ c ∷ v) e = omega arith

break_lines : (v q : Bytes) → next_of v ≡ Unknown → lines (v ++ q) ≡ record { content = []; ended = true } ∷ lines (drop 2 (v ++ q))
break_lines [] q e = cc
break_lines (b ∷ []) q e = cc
break_lines (b ∷ c ∷ v) q e = let h = pair_is b c e in lines-crlf b c (v ++ q) h.0 h.1

-- nothing is shown
pub last_shown : (v : Bytes) → next_of v ≡ Nothing → v ≡ []
last_shown [] e = refl
last_shown (b ∷ []) e = cc
last_shown (b ∷ c ∷ v) e = go (eqb b 13 && eqb c 10) e
  where
    go : (x : Bool) → cond x Unknown Byte ≡ Nothing → (b ∷ c ∷ v) ≡ []
    go true k = cc
    go false k = cc

-- within a line at p; m is what is left
module _ (gs : List Group) (p : Place) (here : p ≡ Within) (m : Meaning) (v q : Bytes) (front : m.left ≡ v ++ q) where
  -- past the line's CRLF
  pub break-left : (m' : Meaning) → m' ≡ passed 2 m → next_of v ≡ Unknown → body_at gs (Start true) m'.left ≡ body_at gs p m.left
  break-left m' e t =
      ap (λ (x : Meaning). body_from gs true (lines x.left)) e
      ∙ ap (λ (z : Bytes). body_from gs true (lines (drop 2 z))) front
      ∙ sym (ap (in_line gs) (break_lines v q t))
      ∙ ap (λ (z : Bytes). in_line gs (lines z)) (sym front)
      ∙ ap (λ (x : Place). body_at gs x m.left) (sym here)

  pub break-stop : (m' : Meaning) → m' ≡ passed 2 m → next_of v ≡ Unknown → stop_at gs (Start true) m'.offset m'.left ≡ stop_at gs p m.offset m.left
  break-stop m' e t =
      ap (λ (x : Meaning). stop_from gs x.offset (lines x.left)) e
      ∙ ap (λ (z : Bytes). stop_from gs (m.offset + 2) (lines (drop 2 z))) front
      ∙ ap (λ (n : ℕ). stop_from gs n (lines (drop 2 (v ++ q)))) {x = m.offset + 2} (omega arith)
      ∙ sym (ap (stop_in gs m.offset) (break_lines v q t))
      ∙ ap (λ (z : Bytes). stop_in gs m.offset (lines z)) (sym front)
      ∙ ap (λ (x : Place). stop_at gs x m.offset m.left) (sym here)

  pub break-weight : (m' : Meaning) → m' ≡ passed 2 m → next_of v ≡ Unknown → 4 * length m'.left + 4 < 4 * length m.left + rank p
  break-weight m' e t =
      omega (
        arith,
        ap (λ (x : Meaning). length x.left) e,
        length-drop 2 m.left,
        ap length front,
        length-append v q,
        break_shown v t,
        ap rank here,
      )

  -- at the input's end
  pub last-left : m.left ≡ [] → [] ≡ body_at gs p m.left
  unfolding lines
  last-left e = ap (λ (z : Bytes). in_line gs (lines z)) (sym e) ∙ ap (λ (x : Place). body_at gs x m.left) (sym here)

  pub last-stop : m.left ≡ [] → record { from = m.offset; lines = lines m.left } ≡ stop_at gs p m.offset m.left
  unfolding lines
  last-stop e =
      ap (λ (z : Bytes). record { from = m.offset; lines = lines z }) e
      ∙ ap (λ (z : Bytes). stop_in gs m.offset (lines z)) (sym e)
      ∙ ap (λ (x : Place). stop_at gs x m.offset m.left) (sym here)
