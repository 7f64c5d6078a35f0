-- A run of raw bytes that are decoded from slice to slice.
use Rattle.std.proofs.lemmas.Grind.{common_steps}
use Rattle.std.proofs.Common.{◌≡◌, ℕ, ◌+◌, ◌-◌, ◌≤◌, [], ◌∷◌, ◌++◌, length, take, drop, set, sym, refl, ap, ◌∙◌, arith}
use borrow.Rule.Slice.PartMut.{put_mid}
use Rattle.std.proofs.lemmas.List.{append_assoc, append-nil, length-drop, drop-drop, take_more_set, drop-set-lt}
use Rattle.std.proofs.lemmas.Slice.{take-put_mid, drop-put_mid}
use Rattle.byte_lines.specs.Bytes.{Bytes}
use Rattle.source.specs.declared.ends.End.{End}
use Rattle.coding.specs.Decoding.{Decoded, prefixed}

-- so far the raw bytes before `rest` are `given` bytes of a slice, and what stands behind these is as it was before
pub record Ran (later : ℕ → Bytes → End → Decoded) (raw rest before after : Bytes) (given : ℕ) : Type 0 where
  pub left : drop (length raw - length rest) raw ≡ rest
  pub gave : given ≤ length before
  pub fewer : given + length rest ≤ length raw
  pub kept : drop given after ≡ drop given before
  pub whole : (at : ℕ) (q : Bytes) (e : End) → later at (raw ++ q) e ≡ prefixed (take given after) (later (at + (length raw - length rest)) (rest ++ q) e)

-- n raw bytes more, which give a piece of m bytes
pub ran_more : {later : ℕ → Bytes → End → Decoded} {raw rest rest' before after after' : Bytes} {given : ℕ} (piece : Bytes) (n m : ℕ) → Ran later raw rest before after given
    → rest' ≡ drop n rest → n ≤ length rest → length piece ≡ m → m ≤ n → given + m ≤ length before
    → take (given + m) after' ≡ take given after ++ piece → drop (given + m) after' ≡ drop (given + m) after
    → ((at : ℕ) (q : Bytes) (e : End) → later at (rest ++ q) e ≡ prefixed piece (later (at + n) (drop n rest ++ q) e))
    → Ran later raw rest' before after' (given + m)
ran_more {later} {raw} {rest} {rest'} {before} {after} {after'} {given} piece n m r is few count short room put stay step =
    let l = ap length is ∙ length-drop n rest in
    let so_far = length raw - length rest in
    let f = r.fewer in
    let on : length raw - length rest' ≡ so_far + n = omega arith in
    record {
      left = ap (λ (k : ℕ). drop k raw) on ∙ sym (drop-drop n so_far raw) ∙ ap (drop n) r.left ∙ sym is;
      gave = room;
      fewer = omega arith;
      kept = stay ∙ sym (drop-drop m given after) ∙ ap (drop m) r.kept ∙ drop-drop m given before;
      whole = λ at q e.
          let place : at + so_far + n ≡ at + (length raw - length rest') = omega arith in
          let d = later (at + (length raw - length rest')) (rest' ++ q) e in
          r.whole at q e
          ∙ ap (prefixed (take given after)) (step (at + so_far) q e)
          ∙ ap (λ (k : ℕ). prefixed (take given after) (prefixed piece (later k (drop n rest ++ q) e))) place
          ∙ ap (λ (t : Bytes). prefixed (take given after) (prefixed piece (later (at + (length raw - length rest')) (t ++ q) e))) (sym is)
          ∙ ap (λ (t : Bytes). record { bytes = t; ending = d.ending }) (sym (append_assoc (take given after) piece d.bytes))
          ∙ ap (λ (t : Bytes). prefixed t d) (sym put);
    }

-- a piece of m bytes that is put behind those given
pub ran_put : {later : ℕ → Bytes → End → Decoded} {raw rest rest' before after s : Bytes} {given : ℕ} (piece : Bytes) (n m k : ℕ) → Ran later raw rest before after given
    → length after ≡ length before → rest' ≡ drop n rest → n ≤ length rest → s ≡ piece → length piece ≡ m → k ≡ m → m ≤ n → given + m ≤ length before
    → ((at : ℕ) (q : Bytes) (e : End) → later at (rest ++ q) e ≡ prefixed piece (later (at + n) (drop n rest ++ q) e))
    → Ran later raw rest' before (put_mid given k after s) (given + m)
ran_put {later} {raw} {rest} {rest'} {before} {after} {s} {given} piece n m k r same is few new count size short room step =
    let l = ap length new in
    ran_more piece n m r is few count short room
    (take-put_mid given k after s (given + m) (omega arith) (omega arith) ∙ ap (λ (t : Bytes). take given after ++ t) new)
    (drop-put_mid given k after s (given + m) (omega arith) (omega arith) (omega arith)) step

-- n raw bytes more, which give nothing
pub ran_past : {later : ℕ → Bytes → End → Decoded} {raw rest rest' before after : Bytes} {given : ℕ} (n : ℕ) → Ran later raw rest before after given
    → rest' ≡ drop n rest → n ≤ length rest
    → ((at : ℕ) (q : Bytes) (e : End) → later at (rest ++ q) e ≡ prefixed [] (later (at + n) (drop n rest ++ q) e))
    → Ran later raw rest' before after given
ran_past {later} {raw} {rest} {rest'} {before} {after} {given} n r is few step = grind (arith, common_steps)

-- a byte that is put behind those given
pub ran_push : {later : ℕ → Bytes → End → Decoded} {raw rest rest' before after : Bytes} {given : ℕ} (b n : ℕ) → Ran later raw rest before after given
    → length after ≡ length before → rest' ≡ drop n rest → n ≤ length rest → 1 ≤ n → given + 1 ≤ length before
    → ((at : ℕ) (q : Bytes) (e : End) → later at (rest ++ q) e ≡ prefixed (b ∷ []) (later (at + n) (drop n rest ++ q) e))
    → Ran later raw rest' before (set after given b) (given + 1)
ran_push {later} {raw} {rest} {rest'} {before} {after} {given} b n r same is few some room step = grind (arith, common_steps)
