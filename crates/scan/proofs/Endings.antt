-- What a scan knows where a body has ended.
use Rattle.std.proofs.Common.{◌≡◌, ℕ, ◌<◌, min, Bool, true, false, ◌&&◌, ◌||◌, eqb, leb, List, [], ◌∷◌, ◌++◌, length, is_some, Some, None, Option, sym, refl, ap, ◌∙◌, subst, inl, inr, append-nil, arith}
use mathlib.Core.Bool.{false≢true}
use Rattle.std.specs.Str.{bytes_eq}
use Rattle.std.proofs.lemmas.List.{nil_from_length}
use Rattle.std.proofs.lemmas.Bool.{eqb-true, eq-eqb, le-leb, lt-leb, cases_lt}
use Rattle.byte_lines.specs.Bytes.{Bytes}
use Rattle.source.specs.declared.ends.End.{End}
use Rattle.source.specs.Meanings.{Meaning}
use Rattle.input.specs.declared.window.Input.{Input}
use Rattle.input.specs.Inputs.{meaning, shown, known, unseen, behind}
use Rattle.input.proofs.Windows.{shown-first}
use Rattle.message.specs.Groups.{Group, Role, separates, closes, text, inside, role, separator, closing_line}
use Rattle.levels.specs.declared.levels.Fit.{Fit}
use Rattle.levels.specs.declared.levels.Fit.TheVariants.{Separates, Closes}
use Rattle.levels.specs.declared.levels.Levels.{Levels}
use Rattle.scan.specs.declared.places.Place.{Place}
use Rattle.scan.specs.declared.places.Place.TheVariants.{Ended}
use Rattle.scan.specs.declared.scans.Scan.{Scan}
use Rattle.levels.specs.Opened.{groups}
use Rattle.levels.specs.Fits.{fit_role, role_by, FitsIn, InDepth, leading, Decides}
use Rattle.scan.specs.Ends.{is_role, enough, ends_by, tested, answer}
use Rattle.scan.specs.Streams.{raw_left, stop, body_at, stop_at, place_by}
use Rattle.scan.specs.Settles.{Behind}
use Rattle.levels.proofs.LeadingLines.{leading-none}
use Rattle.levels.proofs.LineTests.{near_decides, role_other, located_is}
use Rattle.source.specs.declared.sources.Source.{Ghosts}

pub both : (p q : Bool) → p && q ≡ true → (p ≡ true) × (q ≡ true)
both true q e = (refl, e)
both false q e = absurd (false≢true e)

-- The answer for a role.

abbrev fit_by : Role → Option Fit
fit_by (separates deeper g around) = Some (Separates (length deeper))
fit_by (closes deeper g around) = Some (Closes (length deeper))
fit_by text = None

role_is : (f : Fit) (r : Role) → is_role f r ≡ true → fit_by r ≡ Some f
role_is (Separates i) (separates d g a) e = ap (λ (n : ℕ). Some (Separates n)) (eqb-true (length d) i e)
role_is (Separates i) (closes d g a) e = absurd (false≢true e)
role_is (Separates i) text e = absurd (false≢true e)
role_is (Closes i) (separates d g a) e = absurd (false≢true e)
role_is (Closes i) (closes d g a) e = ap (λ (n : ℕ). Some (Closes n)) (eqb-true (length d) i e)
role_is (Closes i) text e = absurd (false≢true e)

is_role_lem : (gs : List Group) (f : Fit) → FitsIn (length gs) f → is_role f (fit_role gs f) ≡ true
is_role_lem gs (Separates i) h =
    let l = located_is (λ d g a. separates d g a) (λ g h d a. refl) i gs h in ap (is_role (Separates i)) l.3 ∙ eq-eqb (length l.0) i l.4
is_role_lem gs (Closes i) h =
    let l = located_is (λ d g a. closes d g a) (λ g h d a. refl) i gs h in ap (is_role (Closes i)) l.3 ∙ eq-eqb (length l.0) i l.4

-- the answer f is that of the line s
abbrev pub Answers : List Group → (s : Bytes) → Option Fit → Type 0
Answers gs s f = (role_by gs f ≡ role gs s) × InDepth (length gs) f

-- the role of a line by its tests against the innermost group, where r is its role in the groups around
abbrev whole : Group → List Group → Bool → Bool → Role → Role
whole g gs p q r = elim p [ true ↦ separates [] g gs | false ↦ elim q [ true ↦ closes [] g gs | false ↦ inside g r ] ]

answers : (gs : List Group) (s : Bytes) → Answers gs s (fit_by (role gs s))
unfolding role
answers [] s = (refl, tt)
answers (g ∷ gs) s = go (bytes_eq (separator g) s) (bytes_eq (closing_line g) s) (role gs s) (answers gs s)
  where
    deeper : (r : Role) → (role_by gs (fit_by r) ≡ r) × InDepth (length gs) (fit_by r) → (role_by (g ∷ gs) (fit_by (inside g r)) ≡ inside g r) × InDepth (length (g ∷ gs)) (fit_by (inside g r))
    deeper (separates d h a) k = (ap (inside g) k.0, omega (arith, k.1))
    deeper (closes d h a) k = (ap (inside g) k.0, omega (arith, k.1))
    deeper text k = (refl, tt)

    go : (p q : Bool) (r : Role) → (role_by gs (fit_by r) ≡ r) × InDepth (length gs) (fit_by r) → (role_by (g ∷ gs) (fit_by (whole g gs p q r)) ≡ whole g gs p q r) × InDepth (length (g ∷ gs)) (fit_by (whole g gs p q r))
    go true q r k = (refl, omega arith)
    go false true r k = (refl, omega arith)
    go false false r k = deeper r k

-- The test of a line at hand.

pub enough_by : (v : Bytes) (e : Option End) → (length v < 76 → is_some e ≡ true) → enough v e ≡ true
enough_by v e h =
    elim (cases_lt (length v) 76) [
      | inl short ↦ ap (λ (b : Bool). leb 76 (length v) || b) (h short) ∙ either (leb 76 (length v))
      | inr long ↦ ap (λ (b : Bool). b || is_some e) (le-leb 76 (length v) long)
    ]
  where
    either : (b : Bool) → b || true ≡ true
    either true = refl
    either false = refl

enough_all : (v : Bytes) (e : Option End) → enough v e ≡ true → length v < 76 → is_some e ≡ true
enough_all v e h short = sym (ap (λ (b : Bool). b || is_some e) (lt-leb 76 (length v) short)) ∙ h

pub tested_begun : (ls : Levels) (f : Option Fit) (held : Bool) (v : Bytes) (e : Option End) (p : Place) → p ≡ place_by f held
    → Decides (groups ls) v f → InDepth (length (groups ls)) f → enough v e ≡ true → tested ls p v e ≡ true
tested_begun ls f held v e p at is within h =
    ap (λ (x : Place). tested ls x v e) at ∙ go f held (is [] (λ _. refl) ∙ ap (λ (s : Bytes). role (groups ls) (leading s)) (append-nil v)) within
  where
    go : (f : Option Fit) (held : Bool) → role_by (groups ls) f ≡ role (groups ls) (leading v) → InDepth (length (groups ls)) f → tested ls (place_by f held) v e ≡ true
    go None true k d = refl
    go None false k d = refl
    go (Some f) held k d = ap (λ (r : Role). is_role f r && enough v e) (sym k) ∙ ap (λ (b : Bool). b && enough v e) (is_role_lem (groups ls) f d) ∙ h

-- What follows where a body has ended.

-- nothing comes behind what is shown, once the end is known
behind-known : (room : ℕ) (m : Meaning) (e : Option End) → is_some e ≡ true → behind room m e ≡ []
behind-known room m None h = absurd (false≢true h)
behind-known room m (Some x) h = refl

pub unseen-known : {S : Type 0} {G : Ghosts S} (source : S → Meaning) (i : Input S G) → is_some (known i) ≡ true → unseen source i ≡ []
unfolding known unseen
unseen-known source i h = behind-known _ (source i.source) i.end h

module _ (ls : Levels) (v q : Bytes) (e : Option End) (all : is_some e ≡ true → q ≡ []) where
  shown-decides : enough v e ≡ true → role (groups ls) (leading v) ≡ role (groups ls) (leading (v ++ q))
  shown-decides h =
      ap (λ (s : Bytes). role (groups ls) (leading s)) (sym (append-nil v))
      ∙ sym (near_decides ls v [] (λ _. refl) (min (length v) 76) refl)
      ∙ near_decides ls v q (λ short. all (enough_all v e h short)) (min (length v) 76) refl

  ended-empty : ends_by (groups ls) None v e ≡ true → v ++ q ≡ []
  ended-empty t = let b = both (eqb (length v) 0) (is_some e) t in ap (λ (s : Bytes). s ++ q) (nil_from_length v (eqb-true (length v) 0 b.0)) ∙ all b.1

  ended-answers : (f : Option Fit) → ends_by (groups ls) f v e ≡ true → Answers (groups ls) (leading (v ++ q)) f
  ended-answers None t = (sym (ap (λ (s : Bytes). role (groups ls) (leading s)) (ended-empty t) ∙ role_other (groups ls) (leading []) no_line), tt)
    where
      no_line : (t : Bytes) → leading [] ≡ 45 ∷ (45 ∷ t) → ⊥
      no_line t e = omega (arith, ap length (sym leading-none ∙ e))
  ended-answers (Some f) t =
      let r = role (groups ls) (leading v) in
      let b = both (is_role f r) (enough v e) t in
      let a = subst (Answers (groups ls) (leading v)) (role_is f r b.0) (answers (groups ls) (leading v)) in
      (a.0 ∙ shown-decides b.1, a.1)

  ended-last : (f : Option Fit) → ends_by (groups ls) f v e ≡ true → f ≡ None → v ++ q ≡ []
  ended-last None t k = ended-empty t
  ended-last (Some f) t k = cc

-- wherever a scan's place is that of an ended body, it stands behind that body
pub behind_ended : {S : Type 0} {G : Ghosts S} (source : S → Meaning) (s : Scan S G) (f : Option Fit) → s.place ≡ Ended f → Behind source s
unfolding raw_left stop
behind_ended source s f at =
    let gs = groups s.lines.levels in
    let i = s.lines.input in
    let m = meaning source i in
    let front = shown-first source i in
    let all = unseen-known source i in
    let t : ends_by gs f (shown i) (known i) ≡ true = sym (ap (λ (p : Place). tested s.lines.levels p (shown i) (known i)) at) ∙ s.ended in
    let a = ended-answers s.lines.levels (shown i) (unseen source i) (known i) all f t in
    let is : answer s.place ≡ f = ap answer at in
    record {
      none = ap (λ (p : Place). body_at gs p m.left) at;
      here = ap (λ (p : Place). stop_at gs p m.offset m.left) at;
      line = ap (role_by gs) is ∙ a.0 ∙ ap (λ (z : Bytes). role gs (leading z)) (sym front);
      within = subst (InDepth (length gs)) (sym is) a.1;
      at_end = λ e. front ∙ ended-last s.lines.levels (shown i) (unseen source i) (known i) all f t (sym is ∙ e);
      place = at ∙ ap Ended (sym is);
    }

-- at the input's end, the end is known
pub ended-known : {S : Type 0} {G : Ghosts S} (s : Scan S G) → s.place ≡ Ended None → is_some (known s.lines.input) ≡ true
ended-known s at =
    (both (eqb (length (shown s.lines.input)) 0) (is_some (known s.lines.input)) (sym (ap (λ (p : Place). tested s.lines.levels p (shown s.lines.input) (known s.lines.input)) at) ∙ s.ended)).1
