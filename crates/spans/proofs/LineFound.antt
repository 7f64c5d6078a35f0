-- What one line of a window says of the head.
use Rattle.std.proofs.Common.{◌≡◌, ℕ, ◌+◌, ◌-◌, ◌<◌, ◌≤◌, min, Bool, true, false, cond, eqb, ltb, leb, List, [], ◌∷◌, ◌++◌, length, take, drop, ControlFlow, Continue, Break, sym, refl, ap, ◌∙◌, subst, inl, inr, arith, length-append}
use Rattle.std.proofs.lemmas.List.{drop-append-le, take-append-le, take-take, take_all, length-drop, length-take-le}
use Rattle.std.proofs.lemmas.Bool.{cases_Bool, cases_lt, ltb-true, ltb-false, eqb-true, eqb-false, leb-true, leb-false, le-ltb}
use Rattle.byte_lines.specs.Bytes.{Bytes}
use Rattle.byte_lines.specs.Lines.{Line, lines}
use Rattle.byte_lines.specs.Spans.{FirstLine}
use Rattle.head.specs.Media.{absent}
use Rattle.message.specs.Groups.{Group, role, text, fits}
use Rattle.message.specs.HeadWalks.{Walked, WholeLine}
use Rattle.message.proofs.HeadSpans.{line, whole-first, whole-alone, walked_line, stops-at-empty, stops-at-end, stops-in-line, long_line, long_some, open_last, head-over}
use Rattle.byte_lines.proofs.LineFronts.{first-stays}
use Rattle.levels.specs.Fits.{leading}
use Rattle.levels.proofs.LeadingLines.{leading_is}
use Rattle.spans.specs.declared.heads.HeadEnd.TheVariants.{Empty, End, Long}
use Rattle.spans.specs.declared.heads.HeadSpan.{HeadSpan}
use Rattle.spans.specs.Found.{FindsBy, LineFinds, line_width, Ends}

absent_some : (s : Bytes) → 0 < length s → absent s ≡ false
absent_some [] h = absurd (omega arith)
absent_some (b ∷ bs) h = refl

-- the window shows v of the text s, of which the first k bytes are whole lines of the head; its first `seen` bytes were looked at for the line behind these
module _ (gs : List Group) (at : ℕ) (s v u : Bytes) (k seen len wide : ℕ)
    (e : s ≡ v ++ u) (few : k ≤ 8192) (within : k ≤ length v) (looked : seen ≡ min (length v) 8194) (w : Walked gs at s k)
    (plain : role gs (leading (drop k s)) ≡ text)
    (f : FirstLine (take (seen - k) (drop k v)) len wide)
    (all : wide ≤ len → length v < 8194 → s ≡ v) where
  abbrev rest : Bytes
  rest = drop k s

  part : take (seen - k) (drop k v) ≡ take (seen - k) rest
  part =
      sym (take-append-le (seen - k) (drop k v) u (omega (arith, length-drop k v)))
      ∙ ap (take (seen - k)) (sym (drop-append-le k v u within) ∙ ap (drop k) (sym e))

  size : length (take (seen - k) (drop k v)) ≡ seen - k
  size = length-take-le (seen - k) (drop k v) (omega (arith, length-drop k v))

  total : length s ≡ length v + length u
  total = ap length e ∙ length-append v u

  unfit : (l : Line) (r : List Line) → lines rest ≡ l ∷ r → fits (role gs l.content) ≡ false
  unfit l r p = ap (λ (c : Bytes). fits (role gs c)) (sym (leading_is rest l r p)) ∙ ap fits plain

  -- the line's CRLF was not found
  opened : len ≡ wide → 0 < seen - k → lines (take (seen - k) rest) ≡ line (take (seen - k) rest) false ∷ []
  opened h p =
      let some = f.splits (omega (arith, size)) in
      let none : ltb len wide ≡ false = le-ltb len wide (omega arith) in
      let found = open_last (take (seen - k) (drop k v)) (take len (take (seen - k) (drop k v))) (lines (drop wide (take (seen - k) (drop k v))))
      (some ∙ ap (λ (b : Bool). line (take len (take (seen - k) (drop k v))) b ∷ lines (drop wide (take (seen - k) (drop k v)))) none) in
      subst (λ (x : Bytes). lines x ≡ line x false ∷ []) part found

  -- it was found
  wider : (len ≡ wide → ⊥) → wide ≡ len + 2
  wider h =
      elim (cases_Bool (ltb len wide)) [
        | inl t ↦ f.wide ∙ ap (λ (b : Bool). len + cond b 2 0) t
        | inr t ↦ absurd (h (omega (arith, f.wide ∙ ap (λ (b : Bool). len + cond b 2 0) t)))
      ]

  whole : (len ≡ wide → ⊥) → WholeLine s k len
  whole h =
      let two = wider h in
      let front : (n : ℕ) → n ≤ seen - k → take n (take (seen - k) (drop k v)) ≡ take n rest =
      λ n le. ap (take n) part ∙ take-take n (seen - k) rest le in
      record {
        within = omega (arith, f.within, size, total);
        counts = length-take-le len rest (omega (arith, f.within, size, total, length-drop k s));
        stays = λ q.
            ap (λ (x : Bytes). lines (x ++ q)) (sym (ap (λ (n : ℕ). take n (take (seen - k) (drop k v))) two ∙ front (len + 2) (omega (arith, f.within, size))))
            ∙ first-stays (take (seen - k) (drop k v)) len wide q f (omega arith)
            ∙ ap (λ (x : Bytes). line x true ∷ lines q) (front len (omega (arith, f.within, size)));
      }

  abbrev Found : ℕ → ControlFlow HeadSpan ℕ → Type 0
  Found n r = LineFinds gs at s k r × (line_width r ≤ n)

  at_end_lem : len ≡ wide → seen < 8194 → Found (length v) (Break (record { len = seen; end = End }))
  at_end_lem h lt =
      let same : s ≡ v = all (omega arith) (omega arith) in
      let long : seen ≡ length s = omega (arith, ap length same) in (
        (
          long,
          elim (cases_lt k seen) [
            | inl some ↦
                let whole-rest : take (seen - k) rest ≡ rest = take_all (seen - k) rest (omega (arith, length-drop k s)) in
                let one : lines rest ≡ line rest false ∷ [] = subst (λ (x : Bytes). lines x ≡ line x false ∷ []) whole-rest (opened h (omega arith)) in
                stops-in-line gs at s k w one (unfit (line rest false) [] one) (absent_some rest (omega (arith, length-drop k s)))
            | inr none ↦ stops-at-end gs at s k w (omega arith)
          ],
        ),
        omega arith,
      )

  too_long : len ≡ wide → 8194 ≤ seen → Found (length v) (Break (record { len = seen; end = Long }))
  too_long h le =
      let m : ℕ = seen - k in
      let one = opened h (omega arith) in
      let l = long_line rest m (omega arith) (omega (arith, length-drop k s, total)) one in
      let some = long_some rest m (omega arith) (omega (arith, length-drop k s, total)) one in
      let over = head-over gs at s k m l.0 (line (take m rest) false) l.1 w l.2 (unfit l.0 l.1 l.2)
      (rw l.2 at some) (omega (arith, l.3)) one
      (omega (arith, length-take-le m rest (omega (arith, length-drop k s, total)))) in
      let sum : k + m ≡ seen = omega arith in
      (subst (λ (n : ℕ). FindsBy gs at s n Long) sum over, omega arith)

  at-empty : (len ≡ wide → ⊥) → len ≡ 0 → Found (length v) (Break (record { len = k; end = Empty }))
  at-empty h z = (stops-at-empty gs at s k w (subst (WholeLine s k) z (whole h)), omega (arith, wider h, f.within, size))

  behind-line : (len ≡ wide → ⊥) → (len ≡ 0 → ⊥) → k + wide ≤ 8192 → Found (length v) (Continue (k + wide))
  behind-line h z le =
      let l = whole h in
      let two = wider h in (
        (
          omega arith,
          le,
          subst (λ (n : ℕ). Walked gs at s (k + n)) (sym two)
              (walked_line gs at s k len w l (unfit (line (take len rest) true) (lines (drop (k + (len + 2)) s)) (whole-first s k len l)) (absent_some (take len rest) (omega (arith, l.counts)))),
        ),
        omega (arith, f.within, size),
      )

  over-line : (len ≡ wide → ⊥) → (len ≡ 0 → ⊥) → 8192 < k + wide → Found (length v) (Break (record { len = k + wide; end = Long }))
  over-line h z lt =
      let l = whole h in
      let two = wider h in
      let c = line (take len rest) true in
      let more = lines (drop (k + (len + 2)) s) in
      let first-line = whole-first s k len l in (
        subst (λ (n : ℕ). FindsBy gs at s (k + n) Long) (sym two)
            (head-over gs at s k (len + 2) c c more w first-line (unfit c more first-line) (absent_some (take len rest) (omega (arith, l.counts))) (omega (arith, l.counts))
            (whole-alone s k len l) (omega (arith, l.counts))),
        omega (arith, f.within, size),
      )

  pub line-found : Found (length v) (Ends k seen (record { len = len; width = wide }))
  line-found = go (eqb len wide) refl (ltb seen 8194) refl (eqb len 0) refl (leb (k + wide) 8192) refl
    where
      go : (a : Bool) → eqb len wide ≡ a → (b : Bool) → ltb seen 8194 ≡ b → (c : Bool) → eqb len 0 ≡ c → (d : Bool) → leb (k + wide) 8192 ≡ d
          → Found (length v) (elim a [
            | true ↦ elim b [ true ↦ Break (record { len = seen; end = End }) | false ↦ Break (record { len = seen; end = Long }) ]
            | false ↦ elim c [
              | true ↦ Break (record { len = k; end = Empty })
              | false ↦ elim d [ true ↦ Continue (k + wide) | false ↦ Break (record { len = k + wide; end = Long }) ]
            ]
          ])
      go true p true q c r d t = at_end_lem (eqb-true len wide p) (ltb-true seen 8194 q)
      go true p false q c r d t = too_long (eqb-true len wide p) (ltb-false seen 8194 q)
      go false p b q true r d t = at-empty (eqb-false len wide p) (eqb-true len 0 r)
      go false p b q false r true t = behind-line (eqb-false len wide p) (eqb-false len 0 r) (leb-true (k + wide) 8192 t)
      go false p b q false r false t = over-line (eqb-false len wide p) (eqb-false len 0 r) (leb-false (k + wide) 8192 t)
