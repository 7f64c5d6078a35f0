use Rattle.std.proofs.Common.{◌≡◌, ℕ, ◌+◌, min, true, List, ◌∷◌, Some, None, length, drop, sym, refl, ap, ◌∙◌, subst, arith}
use Rattle.byte_lines.specs.Bytes.{Bytes}
use Rattle.byte_lines.specs.Lines.{Line, lines}
use Rattle.input.specs.Inputs.{Meaning, meaning, shown, unseen, passed}
use Rattle.message.specs.Groups.{role, fits}
use Rattle.levels.specs.declared.levels.Levels.{Levels}
use Rattle.levels.specs.Opened.{groups}
use Rattle.levels.specs.Fits.{fit_role, role_by, FitsIn, InDepth, leading}
use Rattle.levels.proofs.LineTests.{fit_fits}
use Rattle.scan.specs.declared.places.Place.TheVariants.{Ended}
use Rattle.scan.specs.Ends.{answer}
use Rattle.scan.specs.GroupLines.{BehindAll}
use Rattle.scan.specs.Leaving.{before_line}
use Rattle.scan.specs.Streams.{owed}
use Rattle.scan.proofs.Endings.{ended-known}
use Rattle.scan.proofs.Stops.{passed_offset}
use Rattle.scan.proofs.LinePasses.{first_is}
use Rattle.scan.proofs.scans.Scan.next_line.Goals as goal

pub returns-in_err-fit : goal.returns-in_err-fit
unfolding lines
returns-in_err-fit g c =
    let source = g.S.Source.meaning in
    let a = c.args.self.now in
    let b = c.skip_body.new.self in
    let m = c.skip_body.ensures.moved in
    let h = c.skip_body.ensures.behind in
    let plain : answer b.place ≡ None = sym c.in_err-fit.ensures in
    let at : b.place ≡ Ended None = h.place ∙ ap Ended plain in
    let none = h.at_end plain in
    let all : BehindAll source a b =
    record {
      onward = record { ends = m.ends; inside = m.inside; clear = ap owed at };
      here = sym m.stops ∙ h.here ∙ ap (λ (s : Bytes). record { from = (meaning source b.lines.input).offset; lines = lines s }) none;
      none = none;
      told = ended-known b at;
      further = omega (arith, m.later, passed_offset source a, passed_offset source b);
    } in
    rw c.from_residual.ensures all

pub returns : goal.returns
returns g c =
    let source = g.S.Source.meaning in
    let a = c.args.self.now in
    let b = c.skip_body.new.self in
    let d = c.fill.new.self in
    let e = c.pass.new.self in
    let m = c.skip_body.ensures.moved in
    let h = c.skip_body.ensures.behind in
    let f = c.fill.ensures in
    let v = c.view.result.now in
    let s = (meaning source b.lines.input).left in
    let gs = groups a.lines.levels in
    let wide = c.first_line-width.result.width in
    let levels : b.lines.levels ≡ a.lines.levels = m.inside in
    let lent = c.leave_body-lines.ensures.lines in
    let same : meaning source d.input ≡ meaning source b.lines.input = f.keeps.means ∙ ap (λ x. meaning source x.input) lent in
    let left : (meaning source d.input).left ≡ s = ap (λ (x : Meaning). x.left) same in
    let t = c.in_ok-fit.fit in
    let answered : answer b.place ≡ Some t = sym c.in_ok-fit.ensures in
    let depth : FitsIn (length (groups b.lines.levels)) t = subst (InDepth (length (groups b.lines.levels))) answered h.within in
    let is : fit_role (groups b.lines.levels) t ≡ role (groups b.lines.levels) (leading s) = ap (role_by (groups b.lines.levels)) (sym answered) ∙ h.line in
    let fit : fits (fit_role (groups b.lines.levels) t) ≡ true = fit_fits (groups b.lines.levels) t depth in
    let found = first_is b.lines.levels s v (unseen source d.input) c.first_line-width.result.len wide
    (sym left ∙ c.view.ensures.front)
    (λ short. sym left ∙ (f.shows (omega (arith, ap length c.view.ensures.shows))).all ∙ sym c.view.ensures.shows)
    c.first_line-width.ensures (ap fits (sym is) ∙ fit) in
    let many : min wide (length (shown d.input)) ≡ wide = omega (arith, c.first_line-width.ensures.within, ap length c.view.ensures.shows) in
    let after : meaning source e.input ≡ passed wide (meaning source b.lines.input) =
    c.pass.ensures.means ∙ ap (λ (k : ℕ). passed k (meaning source d.input)) many ∙ ap (passed wide) same in
    let rest : (meaning source e.input).left ≡ drop wide s = ap (λ (x : Meaning). x.left) after in
    let at : c.offset-at.result ≡ (meaning source b.lines.input).offset = c.offset-at.ensures ∙ ap (λ x. (meaning source x.input).offset) lent in
    let over : (meaning source e.input).offset ≡ (meaning source b.lines.input).offset + wide = ap (λ (x : Meaning). x.offset) after in
    record {
      onward =
          record {
            ends = ap (λ (x : Meaning). x.ending) after ∙ m.ends;
            inside = c.pass.ensures.inside ∙ f.inside ∙ ap (λ x. x.levels) lent ∙ levels;
            clear = refl;
          };
      line = found.line;
      here =
          sym m.stops ∙ h.here
          ∙ ap (λ (k : ℕ). record { from = k; lines = lines s }) (sym at)
          ∙ ap (λ (x : List Line). record { from = c.offset-at.result; lines = x }) (found.splits ∙ ap (λ (z : Bytes). found.line ∷ lines z) (sym rest));
      next = omega (arith, over, at, found.counts);
      is = subst (λ (l : Levels). fit_role (groups l) t ≡ role (groups l) found.line.content) levels (is ∙ ap (role (groups b.lines.levels)) found.leads);
      fit = subst (λ (l : Levels). fits (fit_role (groups l) t) ≡ true) levels fit;
      depth = subst (λ (l : Levels). FitsIn (length (groups l)) t) levels depth;
      further = omega (arith, m.later, over, found.some, passed_offset source a, passed_offset source (before_line e));
    }
