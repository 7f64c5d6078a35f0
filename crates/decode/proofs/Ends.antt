-- How long a decoded body is, and how it ends.
use Rattle.std.proofs.Common.{◌≡◌, ℕ, ◌+◌, ◌-◌, ◌<◌, ◌≤◌, Some, None, Option, subst, Bool, true, false, [], ◌++◌, length, take, drop, sym, refl, ap, ◌∙◌, arith}
use borrow.Rule.Slice.PartMut.{put_mid, post_of}
use Rattle.std.specs.Option.{IsSome}
use Rattle.std.proofs.Math.Seq.{take-append-add}
use Rattle.std.proofs.lemmas.List.{append-nil, append_assoc, length-append, length-take-le, length-drop, take-append-drop, drop-drop, drop_all}
use Rattle.byte_lines.specs.Bytes.{Bytes}
use Rattle.source.specs.declared.ends.End.{End}
use Rattle.source.specs.declared.ends.End.TheVariants.{Clean}
use Rattle.coding.specs.declared.decoder.Coding.{Coding}
use Rattle.coding.specs.declared.decoder.Mode.{Mode}
use Rattle.coding.specs.declared.decoder.Mode.TheVariants.{Plain as InPlain, Base64 as InBase64, Quoted as InQuoted, Spent, Ended}
use Rattle.coding.specs.Codings.{decoded}
use Rattle.coding.specs.Decoding.{Decoded, gives, prefixed}
use Rattle.coding.specs.declared.decoder.Decoder.{Decoder}
use Rattle.coding.specs.Buffers.{items}
use Rattle.coding.specs.Decoders.{Meaning, meaning, outlook, Finishes, Settled, Outcome}
use Rattle.coding.specs.Modes.{later_by}
use Rattle.coding.proofs.Endings.{ends_as_input}
use Rattle.coding.proofs.Feeding.{open_ended}
use Rattle.decode.specs.Wholes.{put}

-- a decoder of which nothing waits took the end
pub finished : (taken : Bool) (m m' : Meaning) → m.ready ≡ [] → Finishes taken m Clean m' → (raw : Bytes) (e : End) → outlook m' raw e ≡ m.later [] Clean
finished true m m' none f raw e = f.1 raw e
finished false m m' none f raw e = absurd (omega (arith, f.0, ap length none))

-- where whatever comes ends in the same, the end was taken
pub settled : (mode : Mode) (at : ℕ) (x : End) → ((raw : Bytes) (e : End) → (later_by mode at raw e).ending ≡ x) → (y : End) × ((raw : Bytes) (e : End) → later_by mode at raw e ≡ gives [] y)
settled (Ended y) at x same = (y, λ raw e. refl)
settled InPlain at x same = absurd (open_ended (later_by InPlain at) x (ends_as_input InPlain at (λ y e. cc)) same)
settled (InBase64 d) at x same = absurd (open_ended (later_by (InBase64 d) at) x (ends_as_input (InBase64 d) at (λ y e. cc)) same)
settled (InQuoted d) at x same = absurd (open_ended (later_by (InQuoted d) at) x (ends_as_input (InQuoted d) at (λ y e. cc)) same)
settled Spent at x same = absurd (open_ended (later_by Spent at) x (ends_as_input Spent at (λ y e. cc)) same)

-- so where nothing waits nor is to come but an end, that is the decoder's outcome
pub has_outcome : (d : Decoder) (w : Bytes) (all : Decoded) → items d.ready ≡ [] → ((raw : Bytes) (e : End) → prefixed w (outlook (meaning d) raw e) ≡ all) → (o : Option End) → Outcome (meaning d) o → IsSome o
has_outcome d w all none same (Some x) h = refl
has_outcome d w all none same None h =
    let s = settled d.mode d.at all.ending (λ raw e. ap (λ (k : Decoded). k.ending) (same raw e)) in
    absurd (h s.0 (λ raw e. ap (λ (t : Bytes). prefixed t (later_by d.mode d.at raw e)) none ∙ s.1 raw e))

pub outcome_is : (m : Meaning) (o : Option End) (x : End) → o ≡ Some x → Outcome m o → Settled m x
outcome_is m o x is h = let Is : Option End → Type 0 = Outcome m in subst Is is h

-- a new decoder gives the decoded body
pub new_gives : (coding : Coding) (m : Meaning) (raw : Bytes) → m.ready ≡ [] → ((s : Bytes) (e : End) → m.later s e ≡ decoded coding 0 s e) → outlook m raw Clean ≡ decoded coding 0 raw Clean
new_gives coding m raw none later = ap (λ (t : Bytes). prefixed t (m.later raw Clean)) none ∙ later raw Clean

-- by the bytes given and what is left for the end
pub all_given : (coding : Coding) (m m1 : Meaning) (raw w : Bytes) → m.ready ≡ [] → ((s : Bytes) (e : End) → m.later s e ≡ decoded coding 0 s e)
    → ((q : Bytes) (e : End) → outlook m (raw ++ q) e ≡ prefixed w (outlook m1 q e)) → m1.ready ≡ [] → decoded coding 0 raw Clean ≡ prefixed w (m1.later [] Clean)
all_given coding m m1 raw w new later whole none =
    sym (new_gives coding m raw new later) ∙ ap (λ (t : Bytes). outlook m t Clean) (sym (append-nil raw)) ∙ whole [] Clean ∙ ap (λ (t : Bytes). prefixed w (prefixed t (m1.later [] Clean))) none

-- the bytes given before the end, and those that it set free
pub put_both : {d d1 : Decoded} (out out1 p p' : Bytes) {given more : ℕ} {x : End} → given ≤ length out → length out1 ≡ length out → drop given out1 ≡ drop given out
    → p ≡ drop given out1 → more ≤ length p → length p' ≡ length p → drop more p' ≡ drop more p → d ≡ prefixed (take given out1) d1 → d1 ≡ prefixed (take more p') (gives [] x)
    → ((given + more, x), put_mid given (length out1 - given) out1 p') ≡ put d out
put_both {d} {d1} out out1 p p' {given} {more} {x} few same kept part less whole left first second =
    let a = take given out1 in
    let b = take more p' in
    let la = length-take-le given out1 (omega arith) in
    let lb = length-take-le more p' (omega arith) in
    let bytes : d.bytes ≡ a ++ b =
    ap (λ (k : Decoded). k.bytes) (first ∙ ap (prefixed a) second) ∙ ap (λ (t : Bytes). a ++ t) (append-nil b) in
    let ending : d.ending ≡ x = ap (λ (k : Decoded). k.ending) (first ∙ ap (prefixed a) second) in
    let count : length d.bytes ≡ given + more = ap length bytes ∙ length-append a b ∙ omega arith in
    let behind : p' ++ post_of given (length out1 - given) out1 ≡ b ++ drop (given + more) out =
    ap (λ (t : Bytes). p' ++ t) (drop_all (length out1 - given) (drop given out1) (omega (arith, length-drop given out1))) ∙ append-nil p' ∙ sym (take-append-drop more p')
    ∙ ap (λ (t : Bytes). b ++ t) (left ∙ ap (drop more) (part ∙ kept) ∙ drop-drop more given out) in
    let buffer : put_mid given (length out1 - given) out1 p' ≡ d.bytes ++ drop (length d.bytes) out =
    ap (λ (t : Bytes). a ++ t) behind ∙ sym (append_assoc a b (drop (given + more) out)) ∙ ap (λ (t : Bytes). t ++ drop (given + more) out) (sym bytes) ∙ ap (λ (n : ℕ). d.bytes ++ drop n out) (sym count) in
    ap (λ (n : ℕ). ((n, x), put_mid given (length out1 - given) out1 p')) (sym count) ∙ ap (λ (e : End). ((length d.bytes, e), put_mid given (length out1 - given) out1 p')) (sym ending)
    ∙ ap (λ (t : Bytes). ((length d.bytes, d.ending), t)) buffer

-- the buffer was full before the end had set all its bytes free
pub full_both : {d : Decoded} (d1 : Decoded) (out out1 p p' : Bytes) {given : ℕ} → given ≤ length out → length out1 ≡ length out
    → p ≡ drop given out1 → d ≡ prefixed (take given out1) d1 → length p < length d1.bytes → p' ≡ take (length p) d1.bytes
    → (length out < length d.bytes) × (put_mid given (length out1 - given) out1 p' ≡ take (length out) d.bytes)
full_both {d} d1 out out1 p p' {given} few same part first more filled =
    let a = take given out1 in
    let la = length-take-le given out1 (omega arith) in
    let bytes : d.bytes ≡ a ++ d1.bytes = ap (λ (k : Decoded). k.bytes) first in
    let lp = ap length part ∙ length-drop given out1 in
    let long = ap length bytes ∙ length-append a d1.bytes in
    let all : length a + length p ≡ length out = omega (arith, la, lp) in
    let behind : p' ++ post_of given (length out1 - given) out1 ≡ p' =
    ap (λ (t : Bytes). p' ++ t) (drop_all (length out1 - given) (drop given out1) (omega (arith, length-drop given out1))) ∙ append-nil p' in (
      omega (arith, all, long),
      ap (λ (t : Bytes). a ++ t) (behind ∙ filled) ∙ sym (take-append-add a d1.bytes (length p)) ∙ ap (λ (n : ℕ). take n (a ++ d1.bytes)) all ∙ ap (take (length out)) (sym bytes),
    )
