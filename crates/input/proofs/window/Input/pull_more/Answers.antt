use Rattle.std.proofs.Common.{◌≡◌, ℕ, ◌+◌, ◌-◌, ◌<◌, ◌≤◌, length, take, drop, Some, refl, ap, ◌∙◌, arith}
use Rattle.std.proofs.lemmas.List.{length-take, length-drop, length-take-le}
use Rattle.byte_lines.specs.Bytes.{Bytes}
use Rattle.source.proofs.Pulling.{given, told}
use Rattle.input.specs.Inputs.{meaning, shown}
use Rattle.input.proofs.Windows.{length-shown, shown-below, shown-more, standing-given, standing-told, standing-full, begins_same, begins_more}
use Rattle.input.proofs.window.Input.pull_more.Goals as goal

-- the free end of the window, as the pull is handed it
abbrev free : (w : Bytes) (to k : ℕ) → Bytes
free w to k = take (to + k - to) (drop to w)

length-free : (w : Bytes) (to k : ℕ) → to + k ≤ length w → length (free w to k) ≡ k
length-free w to k h = length-take (to + k - to) (drop to w) ∙ simp length-drop (omega arith)

pub returns-in-Ok-clause-keeps : goal.returns-in-Ok-clause-keeps
unfolding meaning shown
returns-in-Ok-clause-keeps g c =
    let i = c.args.self.now in
    let k = c.min-room.result in
    let m = g.S.Source.meaning i.source in
    let m' = g.S.Source.meaning c.pull.new.self in
    let b = c.pull.new.buffer in
    let p = given m (free i.window i.to k) c.in-Ok.field-0 m' b c.in-Ok.ensures in
    let l = length-free i.window i.to k (omega arith) in
    let s = length-shown i.window i.from i.to (omega arith) in
    let some : 0 < c.in-Ok.field-0 = p.some (omega arith) in
    let more : 0 < length m.coming = omega (arith, p.comes) in
    let same = shown-below i.window b i.from i.to (i.to + k - i.to) (omega arith) in
    record { means = standing-full (shown i) _ i.at m m' c.requires.unended (ap Some c.overlong.ensures) same (omega arith) more; shows = begins_same (shown i) same }

pub returns-in-Ok-2-clause-keeps : goal.returns-in-Ok-2-clause-keeps
unfolding meaning shown
returns-in-Ok-2-clause-keeps g c =
    let i = c.args.self.now in
    let k = c.min-room.result in
    let n = c.in-Ok.field-0 in
    let m = g.S.Source.meaning i.source in
    let m' = g.S.Source.meaning c.pull.new.self in
    let b = c.pull.new.buffer in
    let p = given m (free i.window i.to k) n m' b c.in-Ok.ensures in
    let l = length-free i.window i.to k (omega arith) in
    let s = length-shown i.window i.from i.to (omega arith) in
    let fits : n ≤ k = omega (arith, p.fits) in
    let d = take n m.coming in
    let t = drop n (free i.window i.to k) in
    let more = shown-more i.window b d t i.from i.to (i.to + k - i.to) n (omega arith) (omega arith) (length-take-le n m.coming p.comes) p.filled in
    record { means = standing-given (shown i) _ i.at m m' c.requires.unended n refl more (omega arith) p; shows = begins_more (shown i) d more }

pub returns-in-Err-clause-keeps : goal.returns-in-Err-clause-keeps
unfolding meaning shown
returns-in-Err-clause-keeps g c =
    let i = c.args.self.now in
    let k = c.min-room.result in
    let m = g.S.Source.meaning i.source in
    let m' = g.S.Source.meaning c.pull.new.self in
    let b = c.pull.new.buffer in
    let p = told m (free i.window i.to k) c.in-Err.end m' b c.in-Err.ensures in
    let same = shown-below i.window b i.from i.to (i.to + k - i.to) (omega arith) in
    record { means = standing-told (shown i) _ i.at m m' c.requires.unended c.in-Err.end refl same p; shows = begins_same (shown i) same }
