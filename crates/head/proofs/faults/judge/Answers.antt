use Rattle.std.proofs.Common.{◌≡◌, ℕ, ◌-◌, [], ◌∷◌, length, sym, refl, ◌∙◌, arith}
use Rattle.std.proofs.lemmas.Bool.{eqb-true}
use Rattle.byte_lines.specs.Bytes.{Bytes}
use Rattle.byte_lines.specs.Lines.{lines}
use Rattle.head.specs.LineFaults.{judged, passes}
use Rattle.head.proofs.faults.judge.Goals as goal

-- no line is left
none_left : (size n : ℕ) (s : Bytes) → length s ≡ 0 → judged size n (lines s) ≡ passes n
unfolding judged lines
none_left size n [] e = refl
none_left size n (b ∷ s) e = absurd (omega arith)

pub returns : goal.returns
returns c =
    let s = c.loop-rest.rest.now in
    sym (none_left (length c.args.head.now - length s) c.loop-rest.fields s (eqb-true (length s) 0 (sym c.is_empty.ensures ∙ c.loop-rest-test.false))) ∙ c.loop-rest.invariant.0
