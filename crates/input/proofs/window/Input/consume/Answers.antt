use Rattle.std.proofs.Common.{◌≡◌, ℕ, ◌+◌, min, length, drop, ap, ◌∙◌, arith}
use Rattle.byte_lines.specs.Bytes.{Bytes}
use Rattle.input.specs.Inputs.{meaning, shown, standing, passed}
use Rattle.input.proofs.Windows.{length-shown, shown-less, standing-less}
use Rattle.input.proofs.window.Input.consume.Goals as goal

pub returns-clause-means : goal.returns-clause-means
unfolding meaning shown
returns-clause-means g c =
    let i = c.args.self.now in
    let k = c.min-k.result in
    let m = g.S.Source.meaning i.source in
    let l = length-shown i.window i.from i.to (omega arith) in
    let is : k ≡ min c.args.n (length (shown i)) = omega arith in
    ap (λ (v : Bytes). standing v (i.at + k) m i.end) (shown-less i.window i.from i.to k (omega arith))
    ∙ standing-less (shown i) i.at k m i.end (omega arith)
    ∙ ap (λ (n : ℕ). passed n (standing (shown i) i.at m i.end)) is

pub returns-clause-shows : goal.returns-clause-shows
unfolding shown
returns-clause-shows g c =
    let i = c.args.self.now in
    let l = length-shown i.window i.from i.to (omega arith) in
    let is : c.min-k.result ≡ min c.args.n (length (shown i)) = omega arith in
    shown-less i.window i.from i.to c.min-k.result (omega arith) ∙ ap (λ (n : ℕ). drop n (shown i)) is
