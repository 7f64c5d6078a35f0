-- A line of a group is passed over whole.
use Rattle.std.proofs.Common.{◌≡◌, ℕ, ◌+◌, ◌<◌, ◌≤◌, Bool, true, false, cond, ltb, [], ◌∷◌, ◌++◌, length, take, drop, sym, ap, ◌∙◌, subst, inl, inr, arith, length-take}
use mathlib.Core.Bool.{false≢true}
use Rattle.std.proofs.lemmas.List.{append_assoc, take-append-drop, take-append-le, drop-append-le, drop_all, length-take-le, nil_from_length}
use Rattle.std.proofs.lemmas.Bool.{cases_Bool, cases_lt, ltb-true}
use Rattle.byte_lines.specs.Bytes.{Bytes}
use Rattle.byte_lines.specs.Lines.{Line, lines, width}
use Rattle.byte_lines.specs.Spans.{FirstLine}
use Rattle.byte_lines.proofs.LineLaws.{first}
use Rattle.byte_lines.proofs.LineFronts.{first-stays}
use Rattle.message.specs.Groups.{role, text, fits}
use Rattle.message.proofs.HeadSpans.{line, open_last}
use Rattle.levels.specs.declared.levels.Levels.{Levels}
use Rattle.levels.specs.Opened.{groups}
use Rattle.levels.specs.Fits.{leading}
use Rattle.levels.proofs.LeadingLines.{leading-none, leading_is, leading_near}
use Rattle.levels.proofs.LineTests.{role_other, long_text}

-- the first line of a text takes so many bytes
pub record FirstIs (s : Bytes) (wide : ℕ) : Type 0 where
  pub line : Line
  pub splits : lines s ≡ line ∷ lines (drop wide s)
  pub counts : width line ≡ wide
  pub some : 0 < wide
  pub leads : leading s ≡ line.content

-- the view v of the text s shows 76 bytes or all, and its first line was looked for
module _ (ls : Levels) (s v u : Bytes) (len wide : ℕ) (e : s ≡ v ++ u) (all : length v < 76 → s ≡ v) (f : FirstLine v len wide) (fit : fits (role (groups ls) (leading s)) ≡ true) where
  some-shown : 0 < length v
  some-shown =
      elim (cases_lt 0 (length v)) [
        | inl h ↦ h
        | inr h ↦
            let none : s ≡ [] = all (omega arith) ∙ nil_from_length v (omega arith) in
            let plain : role (groups ls) (leading s) ≡ text = ap (λ (z : Bytes). role (groups ls) (leading z)) none ∙ role_other (groups ls) (leading []) no_line in
            absurd (false≢true (ap fits (sym plain) ∙ fit))
      ]
    where
      no_line : (t : Bytes) → leading [] ≡ 45 ∷ (45 ∷ t) → ⊥
      no_line t p = omega (arith, ap length (sym leading-none ∙ p))

  -- with its CRLF
  whole : ltb len wide ≡ true → FirstIs s wide
  whole t =
      let two : wide ≡ len + 2 = f.wide ∙ ap (λ (b : Bool). len + cond b 2 0) t in
      let front : s ≡ take wide v ++ (drop wide v ++ u) = e ∙ ap (λ (z : Bytes). z ++ u) (sym (take-append-drop wide v)) ∙ append_assoc (take wide v) (drop wide v) u in
      let rest : drop wide v ++ u ≡ drop wide s = sym (drop-append-le wide v u f.within) ∙ ap (drop wide) (sym e) in
      let found : lines s ≡ line (take len v) true ∷ lines (drop wide s) =
      ap lines front ∙ first-stays v len wide (drop wide v ++ u) f (ltb-true len wide t) ∙ ap (λ (z : Bytes). line (take len v) true ∷ lines z) rest in
      record {
        line = line (take len v) true;
        splits = found;
        counts = omega (arith, length-take-le len v (omega (arith, f.within)));
        some = omega arith;
        leads = leading_is s (line (take len v) true) (lines (drop wide s)) found;
      }

  -- without one, the view is all
  opened : ltb len wide ≡ false → lines v ≡ line v false ∷ []
  opened t =
      open_last v (take len v) (lines (drop wide v))
      (f.splits some-shown ∙ ap (λ (b : Bool). line (take len v) b ∷ lines (drop wide v)) t)

  long : ltb len wide ≡ false → 76 ≤ length v → 74 < length (leading s)
  long t h =
      let whole-view : leading v ≡ v = leading_is v (line v false) [] (opened t) in
      let cut : take 76 s ≡ take 76 v = ap (take 76) e ∙ take-append-le 76 v u h in
      let near : 75 ≤ length (leading (take 76 v)) =
      elim (leading_near 76 v) [ inl p ↦ omega (arith, ap length p, ap length whole-view) | inr p ↦ omega (arith, p.0) ] in
      elim (leading_near 76 s) [ inl p ↦ omega (arith, near, ap length (sym p), ap (λ (z : Bytes). length (leading z)) cut) | inr p ↦ omega (arith, p.1) ]

  last : ltb len wide ≡ false → length v < 76 → FirstIs s wide
  unfolding lines
  last t h =
      let same : s ≡ v = all h in
      let one : lines s ≡ line s false ∷ [] = subst (λ (z : Bytes). lines z ≡ line z false ∷ []) (sym same) (opened t) in
      let split = f.splits some-shown in
      let full : take len v ≡ v = ap first (sym split ∙ opened t) in
      let n : len ≡ length v = omega (arith, ap length full, length-take len v, f.within, f.wide ∙ ap (λ (b : Bool). len + cond b 2 0) t) in
      let w : wide ≡ length s = omega (arith, f.wide ∙ ap (λ (b : Bool). len + cond b 2 0) t, ap length same) in
      let none : drop wide s ≡ [] = drop_all wide s (omega arith) in
      record {
        line = line s false;
        splits = one ∙ ap (λ (z : Bytes). line s false ∷ lines z) (sym none);
        counts = omega arith;
        some = omega (arith, some-shown, ap length same);
        leads = leading_is s (line s false) [] one;
      }

  pub first_is : FirstIs s wide
  first_is =
      elim (cases_Bool (ltb len wide)) [
        | inl t ↦ whole t
        | inr t ↦ elim (cases_lt (length v) 76) [
          | inl h ↦ last t h
          | inr h ↦ absurd (false≢true (ap fits (sym (long_text ls (leading s) (long t h))) ∙ fit))
        ]
      ]
