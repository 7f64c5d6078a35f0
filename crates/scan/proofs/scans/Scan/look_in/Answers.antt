use Rattle.std.proofs.Common.{◌≡◌, true, length, is_some, None, sym, refl, ap, ◌∙◌, arith}
use Rattle.input.specs.Inputs.{shown, known}
use Rattle.scan.specs.declared.places.Next.TheVariants.{Byte, Nothing, Unknown}
use Rattle.scan.specs.Streams.{next_of}
use Rattle.scan.proofs.Endings.{behind_ended}
use Rattle.scan.proofs.BodyPlaces.{last_shown}
use Rattle.scan.proofs.BodyMoves.{moves-same, moves-break, moves-last, found-by}
use Rattle.scan.proofs.ReadyBytes.{ready-some, ready_next}
use Rattle.scan.proofs.scans.Scan.look_in.Goals as goal

pub returns-in-Byte : goal.returns-in-Byte
returns-in-Byte g c =
    let s = c.args.self.now in
    let i = c.fill.new.self in
    let next : next_of (shown i) ≡ Byte = sym (ap next_of c.view.ensures.shows) ∙ sym c.next_of-next.ensures ∙ c.in-Byte.is in
    record {
      moved = moves-same g.S.Source.meaning s _ refl refl c.fill.ensures.keeps.means;
      found = found-by g.S.Source.meaning _ _ c.in-Byte.is
          (ready-some g.S.Source.meaning _ c.requires (ready_next (shown i) (is_some (known i)) next (λ short. ap is_some (c.fill.ensures.shows short).told)));
    }

pub returns-in-Nothing : goal.returns-in-Nothing
returns-in-Nothing g c =
    let s = c.args.self.now in
    let i = c.fill.new.self in
    let next : next_of (shown i) ≡ Nothing = sym (ap next_of c.view.ensures.shows) ∙ sym c.next_of-next.ensures ∙ c.in-Nothing.is in
    let end : is_some (known i) ≡ true = ap is_some (c.fill.ensures.shows (omega (arith, ap length (last_shown (shown i) next)))).told in
    record {
      moved = moves-last g.S.Source.meaning s c.requires i c.fill.ensures.keeps.means _ refl refl refl next end;
      found = found-by g.S.Source.meaning _ _ c.in-Nothing.is (behind_ended g.S.Source.meaning _ None refl);
    }

pub returns-in-Unknown : goal.returns-in-Unknown
returns-in-Unknown g c =
    let s = c.args.self.now in
    let i = c.fill.new.self in
    let next : next_of (shown i) ≡ Unknown = sym (ap next_of c.view.ensures.shows) ∙ sym c.next_of-next.ensures ∙ c.in-Unknown.is in
    let moves = moves-break g.S.Source.meaning s c.requires i c.fill.ensures.keeps.means _ refl refl c.consume.ensures.means next in
    record { moved = moves.0; found = found-by g.S.Source.meaning _ _ c.in-Unknown.is moves.1 }
