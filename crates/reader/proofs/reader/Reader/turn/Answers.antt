use Rattle.std.proofs.Common.{◌≡◌, ℕ, sym, ap, ◌∙◌}
use Rattle.input.specs.Inputs.{meaning as input_meaning}
use Rattle.levels.specs.Opened.{groups}
use Rattle.scan.specs.Streams.{stop}
use Rattle.levels.specs.declared.levels.Fit.{Fit}
use Rattle.levels.specs.declared.levels.Fit.TheVariants.{Separates}
use Rattle.reader.specs.declared.reader.Stage.{Stage}
use Rattle.reader.specs.declared.reader.Stage.TheVariants.{Line}
use Rattle.reader.specs.Stages.{fits_by}
use Rattle.reader.specs.Readers.{ahead_by, part_by, meaning, decoded_left}
use Rattle.reader.proofs.Keeping.{meaning_by}
use Rattle.reader.proofs.Betweens.{turn_head}
use Rattle.reader.proofs.reader.Reader.turn.Goals as goal

-- the line is a separator of the innermost group
is_separator : (st : Stage) (fit : Fit) (at i : ℕ) → st ≡ Line fit at → fit ≡ Separates i → i ≡ 0 → st ≡ Line (Separates 0) at
is_separator st fit at i e f z = e ∙ ap (λ (x : Fit). Line x at) f ∙ ap (λ (k : ℕ). Line (Separates k) at) z

pub returns-in-Line-Separates-eq0-default-clause-means : goal.returns-in-Line-Separates-eq0-default-clause-means
unfolding meaning
returns-in-Line-Separates-eq0-default-clause-means g c =
    let source = g.S.Source.meaning in
    let r = c.args.self.now in
    let l = c.in-Line-Separates-eq0-default in
    let gs = groups r.scan.lines.levels in
    let i = input_meaning source r.scan.lines.input in
    let s = stop source r.scan in
    let here : r.stage ≡ Line (Separates 0) l.at = is_separator r.stage l.fit l.at l.fit-0 l.is (rw l.is at l.fit-is) (sym l.fit-0-is ∙ l.fit-0-test) in
    meaning_by r.number r.delivered _ _ _ _
    (turn_head gs r.entities l.at i s (sym (ap (λ (st : Stage). fits_by st gs) here) ∙ r.fits) ∙ ap (λ (st : Stage). ahead_by st gs r.entities i s) (sym here))
    (ap (λ (st : Stage). part_by st r.entities (decoded_left source r)) (sym here))
