use Rattle.std.proofs.Common.{◌∙◌, rules}
use Rattle.head.specs.Media.{token_byte}
use Rattle.head.proofs.TextScans.{every_by}
use Rattle.head.proofs.TextScans.{every-token}
use Rattle.head.proofs.media.tokens.is_token.Goals as goal

pub returns-then-not-is_empty : goal.returns-then-not-is_empty
returns-then-not-is_empty c = every_by token_byte c.args.text.now c.all.result (search rules) ∙ every-token c.args.text.now (search rules)
