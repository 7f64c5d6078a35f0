use Rattle.std.proofs.Common.{◌≡◌, ◌<◌, [], length, is_some, sym, refl, ap, ◌∙◌, subst}
use Rattle.byte_lines.specs.Bytes.{Bytes}
use Rattle.input.specs.Inputs.{meaning, shown, known, unseen}
use Rattle.message.specs.Groups.{role}
use Rattle.levels.specs.Opened.{groups}
use Rattle.levels.specs.Fits.{role_by, leading, Decides}
use Rattle.scan.proofs.Endings.{enough_by, tested_begun, unseen-known}
use Rattle.scan.proofs.BodyMoves.{moves-begun, begun-nearer}
use Rattle.scan.proofs.scans.Scan.begin.Goals as goal

pub invariant_of-self : goal.invariant_of-self
invariant_of-self g c =
    let l = c.args.self.now.lines.levels in
    let i = c.fill.new.self in
    let f = c.fit_view-fit.result in record {
      ended = tested_begun l f c.args.held (shown i) (known i) c.opening-self.result c.opening-self.ensures
          (subst (λ (v : Bytes). Decides (groups l) v f) c.view.ensures.shows c.fit_view-fit.ensures.is)
          c.fit_view-fit.ensures.within
          (enough_by (shown i) (known i) (λ short. ap is_some (c.fill.ensures.shows short).told));
    }

pub returns : goal.returns
returns g c =
    let s = c.args.self.now in
    let gs = groups s.lines.levels in
    let source = g.S.Source.meaning in
    let i = c.fill.new.self in
    let f = c.fit_view-fit.result in
    let all : length c.view.result.now < 76 → unseen source i ≡ [] =
    λ short. unseen-known source i (ap is_some (c.fill.ensures.shows (subst (λ (v : Bytes). length v < 76) c.view.ensures.shows short)).told) in
    let is : role_by gs f ≡ role gs (leading (meaning source i).left) =
    c.fit_view-fit.ensures.is (unseen source i) all ∙ ap (λ (z : Bytes). role gs (leading z)) (sym c.view.ensures.front) in
    record {
      moved = moves-begun source s _ c.args.held f c.requires c.opening-self.ensures refl c.fill.ensures.keeps.means is c.fit_view-fit.ensures.within;
      nearer = begun-nearer source s _ c.args.held f c.requires c.opening-self.ensures refl c.fill.ensures.keeps.means;
    }
