use Rattle.std.proofs.Common.{[], ◌∷◌, sym}
use Rattle.coding.proofs.Base64Steps.{from_character}
use Rattle.coding.proofs.base64.steps.Base64Coder.step.Goals as goal

pub returns-in-None-clause-whole : goal.returns-in-None-clause-whole
returns-in-None-clause-whole c = λ q e. rw (c.in-None.is, c.clear.ensures) (from_character [] c.args.at c.args.b c.in-Some.v q e (sym c.in-Some.ensures))

pub returns-in-One-clause-whole : goal.returns-in-One-clause-whole
returns-in-One-clause-whole c = λ q e. rw (c.in-One.is, c.clear.ensures) (from_character (c.in-One.x ∷ []) c.args.at c.args.b c.in-Some.v q e (sym c.in-Some.ensures))

pub returns-in-Two-clause-whole : goal.returns-in-Two-clause-whole
returns-in-Two-clause-whole c =
    λ q e. rw (c.in-Two.is, c.clear.ensures) (from_character (c.in-Two.x ∷ (c.in-Two.y ∷ [])) c.args.at c.args.b c.in-Some.v q e (sym c.in-Some.ensures))
