-- The moves of a scan.
use Rattle.std.proofs.Common.{◌≡◌, ℕ, zero, suc, ◌+◌, ◌<◌, ◌≤◌, min, Bool, true, false, [], ◌++◌, length, take, is_some, Some, None, Option, sym, refl, ap, ◌∙◌, subst, append_assoc, append-nil, arith, length-append, length-take}
use Rattle.byte_lines.specs.Bytes.{Bytes}
use Rattle.byte_lines.specs.Lines.{lines}
use Rattle.source.specs.Meanings.{Meaning as SourceMeaning}
use Rattle.input.specs.declared.window.Input.{Input}
use Rattle.input.specs.Inputs.{Meaning, meaning, passed, shown, known, unseen}
use Rattle.input.proofs.Windows.{shown-first}
use Rattle.message.specs.Groups.{role}
use Rattle.levels.specs.declared.levels.Fit.{Fit}
use Rattle.levels.specs.declared.levels.Levels.{Levels}
use Rattle.scan.specs.declared.places.Place.{Place}
use Rattle.scan.specs.declared.places.Place.TheVariants.{Start, Return, Feed, Within, Ended}
use Rattle.scan.specs.declared.places.Next.{Next}
use Rattle.scan.specs.declared.places.Next.TheVariants.{Nothing, Unknown}
use Rattle.scan.specs.declared.scans.Scan.{Scan}
use Rattle.levels.specs.Opened.{groups}
use Rattle.levels.specs.Fits.{role_by, InDepth, leading}
use Rattle.scan.specs.Streams.{in_line, body_at, raw_left, stop_at, stop, owed, Moves, place_by, next_of, rank, weight}
use Rattle.scan.specs.Ready.{ready_in, ready_at, ready, place_past}
use Rattle.scan.specs.Settles.{Found}
use Rattle.scan.proofs.BodyPlaces.{begun-left, begun-stop, begun-weight, break-left, break-stop, break-weight, break_shown, last_shown, last-left, last-stop}
use Rattle.scan.proofs.ReadyBytes.{ready_at_lem, ready-fits, ready_within, run-gives, run-stops, past-gives, past-stops}
use Rattle.scan.proofs.Endings.{unseen-known}
use Rattle.source.specs.declared.sources.Source.{Ghosts}

owed-past : (p : Place) (v : Bytes) (all : Bool) (k : ℕ) → k ≤ ready_at p v all → (p ≡ Within → ⊥) → owed (place_past p k) + k ≤ owed p
owed-past (Start held) v all k h out = omega arith
owed-past Return v all zero h out = omega arith
owed-past Return v all (suc zero) h out = omega arith
owed-past Return v all (suc (suc zero)) h out = omega arith
owed-past Return v all (suc (suc (suc k))) h out = absurd (omega arith)
owed-past Feed v all zero h out = omega arith
owed-past Feed v all (suc zero) h out = omega arith
owed-past Feed v all (suc (suc k)) h out = absurd (omega arith)
owed-past Within v all k h out = absurd (out refl)
owed-past (Ended f) v all k h out = omega arith

owed_begun : (f : Option Fit) (held : Bool) → owed (place_by f held) ≤ owed (Start held)
owed_begun None true = omega arith
owed_begun None false = omega arith
owed_begun (Some f) held = omega arith

module _ {S : Type 0} {G : Ghosts S} (source : S → SourceMeaning) where
  pub moves-none : (a : Scan S G) → Moves source a a []
  moves-none a = record { gives = refl; stops = refl; ends = refl; inside = refl; later = omega arith; further = omega arith }

  pub moves-twice : (a b c : Scan S G) (x y : Bytes) → Moves source a b x → Moves source b c y → Moves source a c (x ++ y)
  moves-twice a b c x y g h =
      record {
        gives = append_assoc x y (raw_left source c) ∙ ap (λ (t : Bytes). x ++ t) h.gives ∙ g.gives;
        stops = h.stops ∙ g.stops;
        ends = h.ends ∙ g.ends;
        inside = h.inside ∙ g.inside;
        later = omega (arith, g.later, h.later);
        further = omega (arith, g.further, h.further, length-append x y);
      }

  -- what places, groups and the input's meaning make of a move
  pub moves-by : (a b : Scan S G) (x : Bytes) → b.lines.levels ≡ a.lines.levels
      → x ++ body_at (groups a.lines.levels) b.place (meaning source b.lines.input).left ≡ raw_left source a
      → stop_at (groups a.lines.levels) b.place (meaning source b.lines.input).offset (meaning source b.lines.input).left ≡ stop source a
      → (meaning source b.lines.input).ending ≡ (meaning source a.lines.input).ending
      → (meaning source a.lines.input).offset ≤ (meaning source b.lines.input).offset
      → (meaning source a.lines.input).offset + owed b.place + length x ≤ (meaning source b.lines.input).offset + owed a.place → Moves source a b x
  unfolding raw_left stop
  moves-by a b x levels gives stops ends later further =
      record {
        gives = ap (λ (l : Levels). x ++ body_at (groups l) b.place (meaning source b.lines.input).left) levels ∙ gives;
        stops = ap (λ (l : Levels). stop_at (groups l) b.place (meaning source b.lines.input).offset (meaning source b.lines.input).left) levels ∙ stops;
        ends = ends;
        inside = levels;
        later = later;
        further = further;
      }

  -- the input means what it did
  pub moves-same : (a b : Scan S G) → b.lines.levels ≡ a.lines.levels → b.place ≡ a.place → meaning source b.lines.input ≡ meaning source a.lines.input → Moves source a b []
  unfolding raw_left stop
  moves-same a b levels place means =
      let gs = groups a.lines.levels in
      moves-by a b [] levels
      (ap (λ (p : Place). body_at gs p (meaning source b.lines.input).left) place ∙ ap (λ (m : Meaning). body_at gs a.place m.left) means)
      (ap (λ (p : Place). stop_at gs p (meaning source b.lines.input).offset (meaning source b.lines.input).left) place ∙ ap (λ (m : Meaning). stop_at gs a.place m.offset m.left) means)
      (ap (λ (m : Meaning). m.ending) means) (omega (arith, ap (λ (m : Meaning). m.offset) means)) (omega (arith, ap owed place, ap (λ (m : Meaning). m.offset) means))

  -- n of the bytes that stand ready are passed over, or all of them: k
  module _ (a b : Scan S G) (n k : ℕ) (many : k ≡ min n (ready a)) (levels : b.lines.levels ≡ a.lines.levels) where
    pub moves-run : a.place ≡ Within → b.place ≡ a.place → meaning source b.lines.input ≡ passed (min k (length (shown a.lines.input))) (meaning source a.lines.input)
        → Moves source a b (take (min n (ready a)) (raw_left source a))
    unfolding raw_left stop
    moves-run here place means =
        let gs = groups a.lines.levels in
        let m = meaning source a.lines.input in
        let m' = meaning source b.lines.input in
        let v = shown a.lines.input in
        let all = is_some (known a.lines.input) in
        let h : k ≤ ready_in v all = omega (arith, ready_at_lem source a Within here) in
        let shows : min k (length v) ≡ k = omega (arith, ready-fits v all) in
        let by : m' ≡ passed k m = means ∙ ap (λ (j : ℕ). passed j m) shows in
        let left : raw_left source a ≡ in_line gs (lines m.left) = ap (λ (p : Place). body_at gs p m.left) here in
        moves-by a b _ levels
        (ap (λ (j : ℕ). take j (raw_left source a) ++ body_at gs b.place m'.left) (sym many)
        ∙ ap (λ (p : Place). take k (raw_left source a) ++ body_at gs p m'.left) (place ∙ here)
        ∙ ap (λ (z : Bytes). take k z ++ in_line gs (lines m'.left)) left
        ∙ run-gives gs m v (unseen source a.lines.input) all (shown-first source a.lines.input) (unseen-known source a.lines.input) k h m' by
        ∙ sym left)
        (ap (λ (p : Place). stop_at gs p m'.offset m'.left) (place ∙ here)
        ∙ run-stops gs m v (unseen source a.lines.input) all (shown-first source a.lines.input) (unseen-known source a.lines.input) k h m' by
        ∙ ap (λ (p : Place). stop_at gs p m.offset m.left) (sym here))
        (ap (λ (x : Meaning). x.ending) by) (omega (arith, ap (λ (x : Meaning). x.offset) by))
        (omega (arith, ap owed place, ap (λ (x : Meaning). x.offset) by, length-take (min n (ready a)) (raw_left source a)))

    pub moves-past : (a.place ≡ Within → ⊥) → b.lines.input ≡ a.lines.input → b.place ≡ place_past a.place k → Moves source a b (take (min n (ready a)) (raw_left source a))
    unfolding raw_left stop ready
    moves-past outside input place =
        let gs = groups a.lines.levels in
        let m = meaning source a.lines.input in
        let v = shown a.lines.input in
        let all = is_some (known a.lines.input) in
        let h : k ≤ ready_at a.place v all = omega arith in
        moves-by a b _ levels
        (ap (λ (j : ℕ). take j (raw_left source a) ++ body_at gs b.place (meaning source b.lines.input).left) (sym many)
        ∙ ap (λ (p : Place). take k (raw_left source a) ++ body_at gs p (meaning source b.lines.input).left) place
        ∙ ap (λ (i : Input S G). take k (raw_left source a) ++ body_at gs (place_past a.place k) (meaning source i).left) input
        ∙ past-gives gs m.left a.place v all k h outside)
        (ap (λ (p : Place). stop_at gs p (meaning source b.lines.input).offset (meaning source b.lines.input).left) place
        ∙ ap (λ (i : Input S G). stop_at gs (place_past a.place k) (meaning source i).offset (meaning source i).left) input
        ∙ past-stops gs m.left a.place v all m.offset k h outside)
        (ap (λ (i : Input S G). (meaning source i).ending) input) (omega (arith, ap (λ (i : Input S G). (meaning source i).offset) input))
        (omega (
          arith,
          ap owed place,
          ap (λ (i : Input S G). (meaning source i).offset) input,
          length-take (min n (ready a)) (raw_left source a),
          owed-past a.place v all k h outside,
        ))

  -- A line was tested with the answer f, and nothing was passed over.
  module _ (a b : Scan S G) (held : Bool) (f : Option Fit) (at : a.place ≡ Start held) (to : b.place ≡ place_by f held) (levels : b.lines.levels ≡ a.lines.levels)
      (means : meaning source b.lines.input ≡ meaning source a.lines.input) where
    pub moves-begun : role_by (groups a.lines.levels) f ≡ role (groups a.lines.levels) (leading (meaning source b.lines.input).left) → InDepth (length (groups a.lines.levels)) f → Moves source a b []
    unfolding raw_left stop
    moves-begun is within =
        moves-by a b [] levels
        (begun-left (groups a.lines.levels) held a.place b.place f at to (meaning source a.lines.input) (meaning source b.lines.input) means is within)
        (begun-stop (groups a.lines.levels) held a.place b.place f at to (meaning source a.lines.input) (meaning source b.lines.input) means is within)
        (ap (λ (m : Meaning). m.ending) means) (omega (arith, ap (λ (m : Meaning). m.offset) means)) (omega (arith, ap owed at, ap owed to, owed_begun f held, ap (λ (m : Meaning). m.offset) means))

    pub begun-nearer : weight source b < weight source a
    unfolding weight
    begun-nearer = begun-weight (groups a.lines.levels) held a.place b.place f at to (meaning source a.lines.input) (meaning source b.lines.input) means

  -- Within a line, after a fill that left i for the input.
  module _ (a : Scan S G) (here : a.place ≡ Within) (i : Input S G) (kept : meaning source i ≡ meaning source a.lines.input) where
    front : (meaning source a.lines.input).left ≡ shown i ++ unseen source i
    front = ap (λ (m : Meaning). m.left) (sym kept) ∙ shown-first source i

    module _ (b : Scan S G) (levels : b.lines.levels ≡ a.lines.levels) where
      -- past the line's CRLF
      pub moves-break : b.place ≡ Start true → meaning source b.lines.input ≡ passed (min 2 (length (shown i))) (meaning source i) → next_of (shown i) ≡ Unknown
          → Moves source a b [] × (weight source b < weight source a)
      unfolding raw_left stop weight
      moves-break place means next =
          let gs = groups a.lines.levels in
          let m = meaning source a.lines.input in
          let m' = meaning source b.lines.input in
          let shows : min 2 (length (shown i)) ≡ 2 = omega (arith, break_shown (shown i) next) in
          let by : m' ≡ passed 2 m = means ∙ ap (λ (k : ℕ). passed k (meaning source i)) shows ∙ ap (passed 2) kept in (
            moves-by a b [] levels
                (ap (λ (p : Place). body_at gs p m'.left) place ∙ break-left gs a.place here m (shown i) (unseen source i) front m' by next)
                (ap (λ (p : Place). stop_at gs p m'.offset m'.left) place ∙ break-stop gs a.place here m (shown i) (unseen source i) front m' by next)
                (ap (λ (x : Meaning). x.ending) by) (omega (arith, ap (λ (x : Meaning). x.offset) by)) (omega (arith, ap owed place, ap owed here, ap (λ (x : Meaning). x.offset) by)),
            omega (arith, ap rank place, break-weight gs a.place here m (shown i) (unseen source i) front m' by next),
          )

      -- at the input's end
      pub moves-last : b.place ≡ Ended None → b.lines.input ≡ i → next_of (shown i) ≡ Nothing → is_some (known i) ≡ true → Moves source a b []
      unfolding raw_left stop
      moves-last place input next end =
          let gs = groups a.lines.levels in
          let m = meaning source a.lines.input in
          let same : meaning source b.lines.input ≡ m = ap (meaning source) input ∙ kept in
          let none : m.left ≡ [] = front ∙ ap (λ (z : Bytes). z ++ unseen source i) (last_shown (shown i) next) ∙ unseen-known source i end in
          moves-by a b [] levels
          (ap (λ (p : Place). body_at gs p (meaning source b.lines.input).left) place ∙ last-left gs a.place here m (shown i) (unseen source i) front none)
          (ap (λ (p : Place). stop_at gs p (meaning source b.lines.input).offset (meaning source b.lines.input).left) place
          ∙ ap (λ (x : Meaning). record { from = x.offset; lines = lines x.left }) same
          ∙ last-stop gs a.place here m (shown i) (unseen source i) front none)
          (ap (λ (x : Meaning). x.ending) same) (omega (arith, ap (λ (x : Meaning). x.offset) same)) (omega (arith, ap owed place, ap (λ (x : Meaning). x.offset) same))

  -- All the body was passed over.
  pub moves-all : (a b : Scan S G) (x : Bytes) → Moves source a b x → raw_left source b ≡ [] → Moves source a b (raw_left source a)
  moves-all a b x g none =
      let all : x ≡ raw_left source a = sym (append-nil x) ∙ ap (λ (z : Bytes). x ++ z) (sym none) ∙ g.gives in
      record {
        gives = ap (λ (z : Bytes). z ++ raw_left source b) (sym all) ∙ g.gives;
        stops = g.stops;
        ends = g.ends;
        inside = g.inside;
        later = g.later;
        further = omega (arith, g.further, ap length all);
      }

  -- What was taken leaves less.
  pub moves-less : (a b : Scan S G) (n : ℕ) → Moves source a b (take (min n (ready a)) (raw_left source a)) → 0 < n → 0 < ready a → length (raw_left source b) < length (raw_left source a)
  moves-less a b n g some h =
      let k = min n (ready a) in
      omega (
        arith,
        ap length g.gives,
        length-append (take k (raw_left source a)) (raw_left source b),
        length-take k (raw_left source a),
        ready_within source a,
      )

  pub found-by : (s : Scan S G) (w : ℕ) {r r' : Next} → r ≡ r' → Found source r' s w → Found source r s w
  found-by s w e h = subst (λ (x : Next). Found source x s w) (sym e) h
