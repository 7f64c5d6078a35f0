use Rattle.std.proofs.Common.{◌≡◌, ◌-◌, ◌<◌, min, ◌∷◌, ◌++◌, length, take, drop, ap, subst, ◌∙◌, arith, rules}
use Rattle.std.proofs.lemmas.List.{length-take-le}
use Rattle.source.specs.declared.block.Block.{Block}
use Rattle.source.specs.Meanings.{Pulls, gave}
use Rattle.source.specs.Slices.{block_meaning, portion}
use Rattle.source.proofs.Pulling.{told, pulls_front}
use Rattle.source.proofs.Cuts.{cut_end, portioned, portion-ended}
use Rattle.source.proofs.parcels.ParcelsSource.pull.Goals as goal

pub returns-then-is_empty-2-clause-keeps : goal.returns-then-is_empty-2-clause-keeps
returns-then-is_empty-2-clause-keeps c =
    let s = c.args.self.now in
    let none : length s.block.rest.now ≡ 0 = search rules in
    let room : 0 < length c.args.buffer.now = search rules in
    cut_end (s.left ∷ s.lengths.now) s.block.rest.now (length c.args.buffer.now) none room

pub returns-in_err-n-clause-keeps : goal.returns-in_err-n-clause-keeps
returns-in_err-n-clause-keeps c =
    let s = c.go_on.new.self in
    let buffer = c.args.buffer.now in
    let k = c.min-room.result - 0 in
    let l = length-take-le k buffer (omega arith) in
    let t = told _ (take k buffer) c.in_err-n.field-0.0 _ c.pull.new.buffer c.in_err-n.ensures.pulls in
    portion-ended c.from_residual.result (s.left ∷ s.lengths.now) s.block.rest.now _ (take k buffer) c.pull.new.buffer
    c.in_err-n.field-0.0 (length buffer) (search rules) (omega arith) t
    ∙ ap (portion (length buffer)) c.go_on.ensures.same

pub returns-clause-pulls : goal.returns-clause-pulls
returns-clause-pulls c =
    let k = c.min-room.result - 0 in
    let some = c.go_on.ensures.some in
    subst (λ (b : Block). Pulls (block_meaning b) c.args.buffer.now (gave c.in_ok-n.n) (block_meaning c.pull.new.self) (c.pull.new.buffer ++ drop k c.args.buffer.now)) c.go_on.ensures.block
    (pulls_front _ k c.args.buffer.now _ _ c.pull.new.buffer (omega arith) (λ h. omega arith) c.in_ok-n.ensures.pulls)

pub returns-clause-keeps : goal.returns-clause-keeps
returns-clause-keeps c =
    let s = c.go_on.new.self in
    let buffer = c.args.buffer.now in
    let k = c.min-room.result - 0 in
    let l : length (take k buffer) ≡ min s.left (length buffer) = length-take-le k buffer (omega arith) ∙ omega arith in
    portioned s.left c.in_ok-n.n s.lengths.now s.block.rest.now _ (take k buffer) c.pull.new.buffer (length buffer) c.go_on.ensures.some l c.in_ok-n.ensures.gives
    ∙ ap (portion (length buffer)) c.go_on.ensures.same
