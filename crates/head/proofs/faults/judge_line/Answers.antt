use Rattle.std.proofs.Common.{◌≡◌, ℕ, ◌+◌, ap, ◌&&◌, ltb, false, sym}
use Rattle.std.proofs.lemmas.Bool.{lt-ltb, le-ltb, and_left, and_right}
use Rattle.head.specs.Fields.{continues}
use Rattle.head.specs.LineFaults.{judged}
use Rattle.head.proofs.faults.judge_line.Goals as goal
use Rattle.head.proofs.faults.judge_line.Goals.{else-continues_field-via-then-continues_field+else-fields-gt0, else-continues_field-via-else-continues_field}

pub returns-then-end-gt-MOST_BYTES-clause-judges : goal.returns-then-end-gt-MOST_BYTES-clause-judges
unfolding judged
returns-then-end-gt-MOST_BYTES-clause-judges c = λ size ended ls h. rw (judged, h, lt-ltb 8192 c.args.end c.if-end-gt-MOST_BYTES.true)

pub returns-then-is_unclean-clause-judges : goal.returns-then-is_unclean-clause-judges
unfolding judged
returns-then-is_unclean-clause-judges c = λ size ended ls h. rw (judged, h, le-ltb 8192 c.args.end c.if-end-gt-MOST_BYTES.false, sym c.if-is_unclean.ensures)

pub returns-then-fields-lt-MOST_FIELDS-clause-judges : goal.returns-then-fields-lt-MOST_FIELDS-clause-judges
unfolding judged
returns-then-fields-lt-MOST_FIELDS-clause-judges c = λ size ended ls h.
    rw (judged, h, le-ltb 8192 c.args.end c.if-end-gt-MOST_BYTES.false, sym c.if-is_unclean.ensures, sym c.if-is_field.ensures, lt-ltb c.args.fields 64 c.if-fields-lt-MOST_FIELDS.true)
    (ap (λ (k : ℕ). judged k (c.args.fields + 1) ls) h)

pub returns-else-fields-lt-MOST_FIELDS-clause-judges : goal.returns-else-fields-lt-MOST_FIELDS-clause-judges
unfolding judged
returns-else-fields-lt-MOST_FIELDS-clause-judges c = λ size ended ls h.
    rw (judged, h, le-ltb 8192 c.args.end c.if-end-gt-MOST_BYTES.false, sym c.if-is_unclean.ensures, sym c.if-is_field.ensures, le-ltb c.args.fields 64 c.if-fields-lt-MOST_FIELDS.false)

pub returns-then-fields-gt0-clause-judges : goal.returns-then-fields-gt0-clause-judges
unfolding judged
returns-then-fields-gt0-clause-judges c = λ size ended ls h.
    rw (judged, h, le-ltb 8192 c.args.end c.if-end-gt-MOST_BYTES.false, sym c.if-is_unclean.ensures, sym c.if-is_field.ensures, sym c.if-continues_field.ensures, lt-ltb 0 c.args.fields c.if-fields-gt0.true)
    (ap (λ (k : ℕ). judged k c.args.fields ls) h)

pub returns-else-continues_field-clause-judges : goal.returns-else-continues_field-clause-judges
unfolding judged
returns-else-continues_field-clause-judges c = λ size ended ls h.
    let stray : (continues c.args.line.now && ltb 0 c.args.fields) ≡ false = elim c.else-continues_field.branch [
      | else-continues_field-via-then-continues_field+else-fields-gt0 w ↦ and_right (continues c.args.line.now) (ltb 0 c.args.fields) (le-ltb 0 c.args.fields w.if-fields-gt0.false)
      | else-continues_field-via-else-continues_field w ↦ and_left (continues c.args.line.now) (ltb 0 c.args.fields) (sym w.if-continues_field.ensures)
    ] in
    rw (judged, h, le-ltb 8192 c.args.end c.if-end-gt-MOST_BYTES.false, sym c.if-is_unclean.ensures, sym c.if-is_field.ensures, stray)
