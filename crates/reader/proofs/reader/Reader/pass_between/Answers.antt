use Rattle.std.proofs.Common.{◌≡◌, ℕ, List, [], length, sym, refl, ap, ◌∙◌, subst}
use Rattle.byte_lines.specs.Lines.{lines}
use Rattle.source.specs.declared.ends.End.{End}
use Rattle.input.specs.Inputs.{meaning as input_meaning, Knows}
use Rattle.message.specs.Groups.{Group}
use Rattle.message.specs.Rows.{row, passing}
use Rattle.levels.specs.declared.levels.Levels.{Levels}
use Rattle.levels.specs.Opened.{groups}
use Rattle.scan.specs.Streams.{Stop, stop}
use Rattle.reader.specs.declared.reader.Stage.{Stage}
use Rattle.reader.specs.declared.reader.Stage.TheVariants.{Line, Over}
use Rattle.reader.specs.Readers.{ahead_by, part_by, meaning, decoded_left}
use Rattle.reader.proofs.Keeping.{meaning_by}
use Rattle.reader.proofs.Betweens.{row_line, row_end, end_met}
use Rattle.reader.proofs.reader.Reader.pass_between.Goals as goal

pub returns-clause-means : goal.returns-clause-means
unfolding meaning
returns-clause-means g c =
    let source = g.S.Source.meaning in
    let r = c.args.self.now in
    let a = r.scan in
    let b = c.next_line.new.self in
    let n = r.entities in
    let l = c.in-Some.field-0 in
    let h = c.in-Some.ensures in
    let i = input_meaning source a.lines.input in
    let i' = input_meaning source b.lines.input in
    let gs : List Group = groups a.lines.levels in
    let was : ahead_by r.stage gs n i (stop source a) ≡ ahead_by (Line l.fit l.at) (groups b.lines.levels) n i' (stop source b) =
    ap (λ (st : Stage). ahead_by st gs n i (stop source a)) c.requires
    ∙ ap (λ (s : Stop). row i.ending gs n passing s.from s.lines) h.here
    ∙ row_line i.ending gs n l.at h.line (lines i'.left) l.fit i' (stop source b) h.is h.fit (sym h.onward.ends) (sym h.next) refl
    ∙ ap (λ (x : Levels). ahead_by (Line l.fit l.at) (groups x) n i' (stop source b)) (sym h.onward.inside) in
    meaning_by r.number r.delivered _ _ _ _ (sym was) (sym (ap (λ (st : Stage). part_by st n (decoded_left source r)) c.requires))

pub returns-in_default-clause-means : goal.returns-in_default-clause-means
unfolding meaning
returns-in_default-clause-means g c =
    let source = g.S.Source.meaning in
    let r = c.args.self.now in
    let a = r.scan in
    let b = c.next_line.new.self in
    let n = r.entities in
    let h = c.in_default.ensures in
    let i = input_meaning source a.lines.input in
    let i' = input_meaning source b.lines.input in
    let gs : List Group = groups a.lines.levels in
    let gs' : List Group = groups b.lines.levels in
    let lent = c.lines-lines.ensures in
    let at : c.offset-at.result ≡ i'.offset = c.offset-at.ensures ∙ ap (λ x. (input_meaning source x.input).offset) lent in
    let knows = subst (λ x. Knows source x.input c.end.result) lent c.end.ensures.means in
    let met = c.end_in-end.ensures ∙ end_met source b.lines.input gs' c.end.result c.depth.result c.offset-at.result knows h.told
    (c.depth.ensures ∙ ap (λ (x : Levels). length (groups x)) (c.levels.ensures ∙ ap (λ x. x.levels) lent)) in
    let was : ahead_by r.stage gs n i (stop source a) ≡ ahead_by (Over c.last_entry.result) gs' n i' (stop source b) =
    ap (λ (st : Stage). ahead_by st gs n i (stop source a)) c.requires
    ∙ ap (λ (s : Stop). row i.ending gs n passing s.from s.lines) h.here
    ∙ ap (λ (x : End). row x gs n passing i'.offset []) (sym h.onward.ends)
    ∙ ap (λ (x : Levels). row i'.ending (groups x) n passing i'.offset []) (sym h.onward.inside)
    ∙ ap (λ (x : ℕ). row i'.ending gs' n passing x []) (sym at)
    ∙ row_end i'.ending gs' n c.offset-at.result c.end_in-end.result c.last_entry.result i' (stop source b) met c.last_entry.ensures in
    meaning_by r.number r.delivered _ _ _ _ (sym was) (sym (ap (λ (st : Stage). part_by st n (decoded_left source r)) c.requires))
