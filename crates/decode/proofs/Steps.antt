-- What feeds leave of a body and a buffer.
use Rattle.std.proofs.Common.{◌≡◌, ℕ, ◌+◌, ◌-◌, ◌<◌, ◌≤◌, ◌⊎◌, inl, inr, [], ◌∷◌, ◌++◌, length, take, drop, refl, sym, ap, ◌∙◌, arith, take-add}
use borrow.Rule.Slice.PartMut.{put_mid, post_of}
use Rattle.std.proofs.lemmas.List.{nil_from_length, append-nil, length-append, length-take-le, length-drop, drop_at, take_at, take_rest, take-append-drop, drop-drop, drop_all}
use Rattle.std.proofs.lemmas.Slice.{take-put_mid_below}
use Rattle.byte_lines.specs.Bytes.{Bytes}
use Rattle.source.specs.declared.ends.End.{End}
use Rattle.source.specs.declared.ends.End.TheVariants.{Clean}
use Rattle.coding.specs.Decoding.{Decoded, prefixed}
use Rattle.coding.specs.Decoders.{limit, Meaning, outlook, Feeds}
use Rattle.coding.proofs.Feeding.{prefixed-append}

-- so far `from` raw bytes are taken and `to` bytes given, and the buffer behind these is as it was
pub record SoFar (m0 m : Meaning) (raw : Bytes) (from : ℕ) (out out' : Bytes) (to : ℕ) : Type 0 where
  pub took : from ≤ length raw
  pub gave : to ≤ length out
  pub place : m.place ≡ m0.place + from
  pub kept : drop to out' ≡ drop to out
  pub whole : (q : Bytes) (e : End) → outlook m0 (raw ++ q) e ≡ prefixed (take to out') (outlook m (drop from raw ++ q) e)

-- a part up to a buffer's end, once it is back
part_back : (to : ℕ) (out s : Bytes) → to ≤ length out → drop to (put_mid to (length out - to) out s) ≡ s
part_back to out s h =
    drop_at (take to out) (s ++ post_of to (length out - to) out) to (length-take-le to out h)
    ∙ ap (λ (t : Bytes). s ++ t) (drop_all (length out - to) (drop to out) (omega (arith, length-drop to out))) ∙ append-nil s

pub fed : {m0 m m' : Meaning} {raw out out1 s : Bytes} {from to taken given : ℕ} → SoFar m0 m raw from out out1 to → length out1 ≡ length out
    → length s ≡ length (take (length out1 - to) (drop to out1))
    → Feeds m (take (length raw - from) (drop from raw)) (take (length out1 - to) (drop to out1)) taken given m' s
    → SoFar m0 m' raw (from + taken) out (put_mid to (length out1 - to) out1 s) (to + given)
fed {m0} {m} {m'} {raw} {out} {out1} {s} {from} {to} {taken} {given} r same size f =
    let rest = take_rest raw from in
    let room = take_rest out1 to in
    let lr = ap length rest ∙ length-drop from raw in
    let lo = ap length room ∙ length-drop to out1 in
    let out2 = put_mid to (length out1 - to) out1 s in
    let g = r.gave in
    let k = r.took in
    let t = f.took in
    let h = f.gave in
    let before : take to out2 ≡ take to out1 = take-put_mid_below to (length out1 - to) out1 s to (omega arith) (omega arith) in
    let back = part_back to out1 s (omega arith) in
    let fresh = take given (drop to out2) in
    record {
      took = omega arith;
      gave = omega arith;
      place = let p = r.place in let v = f.moved in omega arith;
      kept = sym (drop-drop given to out2) ∙ ap (drop given) back ∙ f.kept ∙ ap (drop given) (room ∙ r.kept) ∙ drop-drop given to out;
      whole = λ q e.
          let later = outlook m' (drop (from + taken) raw ++ q) e in
          r.whole q e ∙ ap (λ (t : Bytes). prefixed (take to out1) (outlook m (t ++ q) e)) (sym rest) ∙ ap (prefixed (take to out1)) (f.whole q e)
          ∙ ap (λ (t : Bytes). prefixed (take to out1) (prefixed (take given s) (outlook m' (t ++ q) e))) (ap (drop taken) rest ∙ drop-drop taken from raw)
          ∙ ap (λ (t : Bytes). prefixed (take to out1) (prefixed (take given t) later)) (sym back)
          ∙ prefixed-append (take to out1) fresh later
          ∙ ap (λ (t : Bytes). prefixed t later) (sym (take-add to given out2 ∙ ap (λ (t : Bytes). t ++ fresh) before));
    }

-- a feed that takes and gives nothing, where a raw byte is left or a decoded byte waits, finds the buffer full
pub stuck : {m0 m m' : Meaning} {raw out out1 s : Bytes} {from to taken given : ℕ} → SoFar m0 m raw from out out1 to → length out1 ≡ length out
    → length s ≡ length (take (length out1 - to) (drop to out1))
    → length raw ≤ limit - m0.place
    → Feeds m (take (length raw - from) (drop from raw)) (take (length out1 - to) (drop to out1)) taken given m' s
    → (from < length raw) ⊎ (0 < length m.ready) → taken + given ≡ 0
    → (length out < length (outlook m0 raw Clean).bytes) × (put_mid to (length out1 - to) out1 s ≡ take (length out) (outlook m0 raw Clean).bytes)
stuck {m0} {m} {m'} {raw} {out} {out1} {s} {from} {to} {taken} {given} r same size short f left none = go m.ready refl left
  where
    later : Bytes
    later = (m.later (drop from raw ++ []) Clean).bytes

    all : (outlook m0 raw Clean).bytes ≡ take to out1 ++ (m.ready ++ later)
    all = ap (λ (t : Bytes). (outlook m0 t Clean).bytes) (sym (append-nil raw)) ∙ ap (λ (d : Decoded). d.bytes) (r.whole [] Clean)

    go : (w : Bytes) → m.ready ≡ w → (from < length raw) ⊎ (0 < length m.ready)
        → (length out < length (outlook m0 raw Clean).bytes) × (put_mid to (length out1 - to) out1 s ≡ take (length out) (outlook m0 raw Clean).bytes)
    go [] e (inl x) =
        let p = r.place in
        let t = f.goes e (omega (arith, ap length (take_rest raw from), length-drop from raw)) (omega arith) in
        absurd (omega arith)
    go [] e (inr x) = absurd (omega (arith, ap length e))
    go (b ∷ bs) e x =
        let n = ap length e in
        let w = f.waits (omega arith) in
        let g = r.gave in
        let lo = ap length (take_rest out1 to) ∙ length-drop to out1 in
        let full : to ≡ length out = omega (arith, w.1, lo) in
        let empty : length s ≡ 0 = omega (arith, size, lo) in
        let out2 = put_mid to (length out1 - to) out1 s in
        let front = length-take-le to out1 (omega arith) in
        let before : take to out2 ≡ take to out1 = take-put_mid_below to (length out1 - to) out1 s to (omega arith) (omega arith) in
        let back : drop to out2 ≡ [] = part_back to out1 s (omega arith) ∙ nil_from_length s empty in
        let now : out2 ≡ take to out1 =
        sym (take-append-drop to out2) ∙ ap (λ (t : Bytes). take to out2 ++ t) back ∙ append-nil (take to out2) ∙ before in
        let long = ap length all ∙ length-append (take to out1) (m.ready ++ later) in (
          omega (arith, long, length-append m.ready later),
          now ∙ sym (take_at (take to out1) (m.ready ++ later) (length out) (front ∙ full)) ∙ ap (take (length out)) (sym all),
        )
