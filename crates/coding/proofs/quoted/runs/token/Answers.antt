use Rattle.std.proofs.Common.{rules}
use Rattle.coding.proofs.QuotedTokens.{soft_break, hard_break, escape_byte}
use Rattle.coding.proofs.quoted.runs.token.Goals as goal

pub returns-in-61-eq13-eq10 : goal.returns-in-61-eq13-eq10
returns-in-61-eq13-eq10 c = soft_break c.args.a c.args.b c.args.c (search rules) (search rules) (search rules)

pub returns-in_ok-escaped-in-61-default-default : goal.returns-in_ok-escaped-in-61-default-default
returns-in_ok-escaped-in-61-default-default c = escape_byte c.args.a c.args.b c.args.c c.in_ok-escaped-in-61-default-default.field-0 (search rules) (search rules)

pub returns-in-13-eq10-default : goal.returns-in-13-eq10-default
returns-in-13-eq10-default c = hard_break c.args.a c.args.b c.args.c (search rules) (search rules)
