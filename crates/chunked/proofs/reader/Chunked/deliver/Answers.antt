use Rattle.std.proofs.Common.{◌≡◌, ◌+◌, ◌-◌, ◌<◌, ◌≤◌, length, take, sym, refl, ap, arith}
use Rattle.std.proofs.lemmas.Grind.{common_steps}
use Rattle.std.proofs.lemmas.List.{length-take-le}
use Rattle.source.proofs.Pulling.{given, told, gives, tells, front_filled, front_kept}
use Rattle.chunked.specs.declared.places.Place.TheVariants.{Data}
use Rattle.chunked.specs.Framing.{Framed, framed}
use Rattle.chunked.specs.Reading.{framing}
use Rattle.chunked.proofs.Advances.{run_same, gives-front, early_same, tells_end}
use Rattle.chunked.proofs.reader.Chunked.deliver.Goals as goal

pub returns-in-Ok : goal.returns-in-Ok
returns-in-Ok g c =
    let s = c.args.self.now in
    let m = g.S.Source.meaning s.source in
    let m' = g.S.Source.meaning c.pull.new.self in
    let n = c.in-Ok.n in
    let k = c.min-room.result in
    let buffer = c.args.buffer.now in
    let p = given m (take k buffer) n m' c.pull.new.buffer c.in-Ok.ensures in
    let l : length (take k buffer) ≡ k = length-take-le k buffer (omega arith) in
    let fits : n ≤ k = omega (arith, p.fits) in
    let some : 0 < n = p.some (omega arith) in
    let same = run_same s.next c.args.left s.taken n m m' c.requires.here (omega arith) (omega arith) p.comes p.after in
    let f' : Framed = framed (Data (c.args.left - n)) (s.taken + n) m'.coming m'.ending in
    let filled = front_filled k n (take n m.coming) buffer c.pull.new.buffer p.fits p.filled in
    record {
      pulls =
          gives _ buffer n _ _ c.requires.room
          (gives-front (framing g.S.Source.meaning s) f' (take n m.coming) n buffer _ same (length-take-le n m.coming p.comes) (omega arith) some filled);
      taken = sym (ap (λ x. x.taken) same);
      left = sym (ap (λ x. x.left) same);
      tells = refl;
    }

pub returns-in-Err : goal.returns-in-Err
returns-in-Err g c =
    let s = c.args.self.now in
    let m = g.S.Source.meaning s.source in
    let m' = g.S.Source.meaning c.pull.new.self in
    let k = c.min-room.result in
    let buffer = c.args.buffer.now in
    let t = told m (take k buffer) c.in-Err.end m' c.pull.new.buffer c.in-Err.ensures in
    let same = early_same s.next (Data c.args.left) s.taken m m' c.in-Err.end c.early-end.result _ _ c.requires.here c.requires.more t c.early-end.ensures in
    record {
      pulls =
          tells _ buffer c.early-end.result _ _
          (tells_end (framing g.S.Source.meaning s) _ c.early-end.result s.taken m'.coming buffer _ (sym same) same c.requires.room (front_kept k buffer c.pull.new.buffer t.kept));
      taken = ap (λ x. x.taken) same;
      left = ap (λ x. x.left) same;
      tells = grind (arith, common_steps);
    }
