use Rattle.std.proofs.Common.{sym, arith}
use Rattle.head.proofs.Quotes.{closes_some, quoted-closed, quoted-broken}
use Rattle.head.proofs.media.parts.quoted.Goals as goal

pub slice_bounds-result-count : goal.slice_bounds-result-count
slice_bounds-result-count c = omega (arith, closes_some c.args.text.now (sym c.if-is_closed.ensures))

pub returns-then-is_closed : goal.returns-then-is_closed
returns-then-is_closed c = let t = sym c.if-is_closed.ensures in sym (quoted-closed c.args.text.now (closes_some c.args.text.now t) t)

pub returns-else-is_closed : goal.returns-else-is_closed
returns-else-is_closed c = sym (quoted-broken c.args.text.now (sym c.if-is_closed.ensures))
