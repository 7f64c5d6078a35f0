use Rattle.std.proofs.Common.{◌≡◌, ℕ, true, List, length, sym, refl, ap, ◌∙◌, subst, arith}
use Rattle.byte_lines.specs.Lines.{lines}
use Rattle.input.specs.Inputs.{Meaning as InputMeaning, meaning as input_meaning}
use Rattle.message.specs.Groups.{Group, innermost}
use Rattle.levels.specs.declared.levels.Levels.{Levels}
use Rattle.levels.specs.Opened.{groups, popped}
use Rattle.scan.specs.Leaving.{before_line}
use Rattle.coding.specs.Decoders.{meaning as decoder_meaning}
use Rattle.scan.specs.Streams.{stop, stop_from}
use Rattle.scan.proofs.Stops.{body-stop}
use Rattle.reader.specs.declared.reader.Stage.{Stage}
use Rattle.reader.specs.declared.reader.Stage.TheVariants.{Line}
use Rattle.reader.specs.Stages.{slack, is_of, fits_by}
use Rattle.reader.specs.Readers.{ahead_by, meaning}
use Rattle.reader.specs.Nexts.{closing_by}
use Rattle.reader.proofs.Keeping.{passed-same, still-within}
use Rattle.reader.proofs.Closings.{closes_by, pops, fits_after, close-told, no_part}
use Rattle.reader.proofs.reader.Reader.close_group.Goals as goal

pub invariant_of-self : goal.invariant_of-self
invariant_of-self g c =
    let r = c.args.self.now in
    let a = r.scan in
    let b = before_line c.pop.new.self in
    let lent = c.leave_body-lines.ensures.lines in
    let input = c.pop.ensures.input ∙ ap (λ x. x.input) lent in
    let popped-groups = c.pop.ensures.groups ∙ ap (λ x. popped (groups x.levels)) lent in
    let same = passed-same a b input in
    let fits : is_of c.args.fit (groups a.lines.levels) ≡ true = sym (ap (λ (st : Stage). fits_by st (groups a.lines.levels)) c.requires.stage) ∙ r.fits in
    let p = pops c.args.fit (groups a.lines.levels) (groups b.lines.levels) c.pop.result fits popped-groups in
    record {
      within = still-within a b (decoder_meaning r.decoder).place r.within refl (omega (arith, same));
      bounded = r.bounded;
      counted = omega (arith, same, r.counted, ap slack c.requires.stage);
      fits =
          subst (λ (st : Stage). fits_by st (groups b.lines.levels) ≡ true) (sym (ap (λ (q : ℕ × Stage). q.1) c.closing-marks.ensures))
          (fits_after c.args.fit c.args.at p.top (groups b.lines.levels) (ap (is_of c.args.fit) (sym p.all) ∙ fits));
    }

pub returns : goal.returns
unfolding meaning
returns g c =
    let source = g.S.Source.meaning in
    let r = c.args.self.now in
    let a = r.scan in
    let b = before_line c.pop.new.self in
    let lent = c.leave_body-lines.ensures.lines in
    let input = c.pop.ensures.input ∙ ap (λ x. x.input) lent in
    let popped-groups = c.pop.ensures.groups ∙ ap (λ x. popped (groups x.levels)) lent in
    let n = r.entities in
    let fits : is_of c.args.fit (groups a.lines.levels) ≡ true = sym (ap (λ (st : Stage). fits_by st (groups a.lines.levels)) c.requires.stage) ∙ r.fits in
    let p = pops c.args.fit (groups a.lines.levels) (groups b.lines.levels) c.pop.result fits popped-groups in
    let i = input_meaning source a.lines.input in
    let same : input_meaning source b.lines.input ≡ i = ap (input_meaning source) input in
    let marks : c.closing-marks.result.0 ≡ (closing_by c.args.fit c.args.at).0 = ap (λ (q : ℕ × Stage). q.0) c.closing-marks.ensures in
    let stage : c.closing-marks.result.1 ≡ (closing_by c.args.fit c.args.at).1 = ap (λ (q : ℕ × Stage). q.1) c.closing-marks.ensures in
    let number : c.unwrap_or-number.result ≡ p.top.number = c.unwrap_or-number.ensures ∙ p.told in
    let gs : List Group = groups b.lines.levels in
    let by = closes_by p.top gs n i (stop source a) (stop source b) c.args.fit c.args.at c.requires.closing
    (ap (is_of c.args.fit) (sym p.all) ∙ fits)
    (body-stop source b refl ∙ ap (λ (x : InputMeaning). stop_from gs x.offset (lines x.left)) same) in
    record {
      ahead =
          ap (λ (st : Stage). ahead_by st (groups a.lines.levels) n i (stop source a)) c.requires.stage
          ∙ ap (λ (l : List Group). ahead_by (Line c.args.fit c.args.at) l n i (stop source a)) p.all
          ∙ by
          ∙ close-told p.top gs n i (input_meaning source b.lines.input) (stop source b) c.args.at (closing_by c.args.fit c.args.at).0
          c.unwrap_or-number.result c.innermost-parent.result c.depth-depth.result c.closing-marks.result.0 (closing_by c.args.fit c.args.at).1 c.closing-marks.result.1
          number (c.innermost-parent.ensures ∙ ap (λ (l : Levels). innermost (groups l)) c.levels.ensures) (c.depth-depth.ensures ∙ ap (λ (l : Levels). length (groups l)) c.levels-2.ensures)
          marks stage same;
      part = no_part c.closing-marks.result.1 c.args.fit c.args.at n _ stage;
      number = refl;
      delivered = refl;
    }
