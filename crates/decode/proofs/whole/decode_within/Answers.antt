use Rattle.std.proofs.Common.{ℕ, ◌-◌, [], length, take, Option, subst, sym, ap, ◌∙◌, arith}
use Rattle.std.proofs.lemmas.List.{take_rest, length-drop}
use Rattle.std.specs.Result.{is_ok}
use borrow.Rule.Slice.PartMut.{put_mid}
use Rattle.byte_lines.specs.Bytes.{Bytes}
use Rattle.decode.specs.Wholes.{Within}
use Rattle.source.specs.declared.ends.End.{End}
use Rattle.source.specs.declared.ends.End.TheVariants.{Clean}
use Rattle.coding.specs.Codings.{decoded}
use Rattle.coding.specs.Decoding.{Decoded, prefixed}
use Rattle.coding.specs.Decoders.{meaning}
use Rattle.decode.proofs.Ends.{finished, has_outcome, outcome_is, all_given, put_both, full_both}
use Rattle.decode.proofs.whole.decode_within.Goals as goal

pub returns-in_err-more : goal.returns-in_err-more
returns-in_err-more c =
    let raw = c.args.raw.now in
    let e = c.new-decoder.ensures in
    let g = c.in_ok-given.ensures in
    let out1 = c.feed_all.new.out in
    let m1 = meaning c.feed_all.new.decoder in
    let given = c.in_ok-given.given in
    let full = c.in_err-more.ensures in
    let first = all_given c.args.coding (meaning c.new-decoder.result) m1 raw (take given out1) e.ready e.later g.3 g.2 in
    let same = ap (λ (d : Decoded). d.bytes) (finished (is_ok c.finish.result) m1 (meaning c.finish.new.self) g.2 c.finish.ensures.finishes [] Clean) in
    let Owes : Option (ℕ × End) → Type 0 = Within (decoded c.args.coding 0 raw Clean) c.args.out.now (put_mid given (length out1 - given) out1 c.feed_all-2.new.out) in
    subst Owes (sym c.from_residual-in_err-more.ensures)
    (full_both (m1.later [] Clean) c.args.out.now out1 _ c.feed_all-2.new.out g.0 c.feed_all.auto.out (take_rest out1 given) first (omega (arith, full.0, ap length same)) (full.1 ∙ ap (take _) same))

pub unwrap-requires : goal.unwrap-requires
unwrap-requires c =
    let g = c.in_ok-given.ensures in
    let m1 = meaning c.feed_all.new.decoder in
    let more = c.in_ok-more.ensures in
    has_outcome c.feed_all-2.new.decoder (take c.in_ok-more.more c.feed_all-2.new.out) (m1.later [] Clean) more.2
    (λ q e. sym (more.3 q e) ∙ finished (is_ok c.finish.result) m1 (meaning c.finish.new.self) g.2 c.finish.ensures.finishes q e) c.outcome.result c.outcome.ensures

pub returns : goal.returns
returns c =
    let raw = c.args.raw.now in
    let e = c.new-decoder.ensures in
    let g = c.in_ok-given.ensures in
    let out1 = c.feed_all.new.out in
    let m1 = meaning c.feed_all.new.decoder in
    let more = c.in_ok-more.ensures in
    let first = all_given c.args.coding (meaning c.new-decoder.result) m1 raw (take c.in_ok-given.given out1) e.ready e.later g.3 g.2 in
    let settled = outcome_is (meaning c.feed_all-2.new.decoder) c.outcome.result c.unwrap.result c.unwrap.ensures c.outcome.ensures in
    let second =
    sym (finished (is_ok c.finish.result) m1 (meaning c.finish.new.self) g.2 c.finish.ensures.finishes [] Clean) ∙ more.3 [] Clean
    ∙ ap (prefixed (take c.in_ok-more.more c.feed_all-2.new.out)) (settled [] Clean) in
    let room = ap length (take_rest out1 c.in_ok-given.given) ∙ length-drop c.in_ok-given.given out1 in
    let all = put_both c.args.out.now out1 _ c.feed_all-2.new.out g.0 c.feed_all.auto.out g.1 (take_rest out1 c.in_ok-given.given) more.0 c.feed_all-2.auto.out more.1 first second in
    (omega (arith, ap (λ (p : (ℕ × End) × Bytes). p.0.0) all, g.0, more.0, room), all)
