use Rattle.std.proofs.Common.{◌≡◌, min, length, length-take, drop, sym, ap, ◌∙◌, arith}
use Rattle.byte_lines.specs.Bytes.{Bytes}
use Rattle.input.specs.Inputs.{meaning, shown, unseen}
use Rattle.input.proofs.Windows.{kept-twice, shown-first}
use Rattle.message.proofs.HeadSpans.{stops-at-line}
use Rattle.message.specs.Groups.{role, fits}
use Rattle.levels.specs.Opened.{groups}
use Rattle.levels.proofs.LeadingLines.{first-leading}
use Rattle.levels.proofs.LineTests.{fit_fits}
use Rattle.spans.proofs.LineFound.{line-found}
use Rattle.spans.proofs.heads.head_line.Goals as goal

pub returns-in-Some-clause-finds : goal.returns-in-Some-clause-finds
returns-in-Some-clause-finds g c =
    let source = g.S.Source.meaning in
    let i = c.args.input.now in
    let s = (meaning source i).left in
    let gs = groups c.args.levels.now in
    let fit = fit_fits gs c.in-Some.fit c.in-Some.ensures.depth in (
      c.in-Some.ensures.is,
      fit,
      stops-at-line gs (meaning source i).offset s c.args.at c.requires.walked
          (ap (λ (x : Bytes). fits (role gs x)) (first-leading (drop c.args.at s)) ∙ ap fits (sym c.in-Some.ensures.is) ∙ fit),
    )

pub returns-clause-finds : goal.returns-clause-finds
returns-clause-finds g c =
    let source = g.S.Source.meaning in
    let i = c.args.input.now in
    let k = c.show_line-line.new.input in
    let kept = kept-twice source i c.fit_at.new.input k c.fit_at.ensures.keeps c.show_line-line.ensures.keeps in
    let same = ap (λ m. m.left) kept.means in
    let seen : c.min-seen.result ≡ min (length (shown k)) 8194 = c.min-seen.ensures ∙ ap (λ (x : Bytes). min (length x) 8194) c.view.ensures.shows in
    let found = line-found (groups c.args.levels.now) (meaning source i).offset (meaning source i).left (shown k) (unseen source k) c.args.at c.min-seen.result
    c.show_line-line.result.len c.show_line-line.result.width (sym same ∙ shown-first source k) c.requires.few (omega (arith, c.requires.within, ap length kept.shows, length-take (length (shown i)) (shown k))) seen
    c.requires.walked (sym c.in_default.ensures.is) (rw seen c.show_line-line.ensures.line)
    (λ unended short. sym same ∙ c.show_line-line.ensures.all unended short) in
    rw c.classify.ensures found.0
