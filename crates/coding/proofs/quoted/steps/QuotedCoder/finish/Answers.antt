use Rattle.std.proofs.Common.{◌≡◌, ◌-◌, Bool, length, sym, refl, ap, ◌∙◌, rules}
use Rattle.coding.specs.declared.quoted.Kind.TheVariants.{Blanks}
use Rattle.byte_lines.specs.Bytes.{Bytes}
use Rattle.coding.specs.Buffers.{items}
use Rattle.coding.specs.Decoding.{gives}
use Rattle.coding.proofs.QuotedShapes.{shape_of}
use Rattle.coding.proofs.QuotedSteps.{ended, left-others}
use Rattle.coding.proofs.quoted.steps.QuotedCoder.finish.Goals as goal

pub returns-in-Digit : goal.returns-in-Digit
returns-in-Digit c =
    let s = c.args.self.now in
    let h = items s.held in
    let n : (soft : Bool) → s.kind ≡ Blanks soft → ⊥ = search rules in
    ended s.kind h (c.args._at - length h) c.args.end (shape_of s s.kind refl) ∙ ap (λ (l : Bytes). gives l c.args.end) (left-others s.kind h n ∙ sym (c.of.ensures ∙ c.as_slice.ensures))

pub returns-in_default : goal.returns-in_default
returns-in_default c =
    let s = c.args.self.now in
    let h = items s.held in
    let k : (soft : Bool) × (s.kind ≡ Blanks soft) = search rules in
    rw c.new.ensures (ended (Blanks k.0) h (c.args._at - length h) c.args.end (shape_of s (Blanks k.0) k.1))
