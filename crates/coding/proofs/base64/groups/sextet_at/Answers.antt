use Rattle.std.proofs.Common.{◌≡◌, ℕ, ◌<◌, get_or, arith, rules}
use Rattle.std.proofs.lemmas.List.FromFn.{get_or-map-range_with_len}
use Rattle.coding.specs.Base64.{sextet}
use Rattle.coding.specs.declared.base64.groups.TheConstants.{SEXTETS}
use Rattle.coding.proofs.Base64Steps.{sextet_or, some_sextet, none-sextet}
use Rattle.coding.proofs.base64.groups.sextet_at.Goals as goal

-- the table is the list of the values of all bytes, which antt computes
entry : (b : ℕ) → b < 256 → get_or SEXTETS b 0 ≡ sextet_or (sextet b)
entry b h = get_or-map-range_with_len (λ (n : ℕ). sextet_or (sextet n)) 0 256 b b 0 h (omega arith)

pub returns-then-v-lt64 : goal.returns-then-v-lt64
returns-then-v-lt64 c = let small : c.args.b < 256 = search rules in rw c.from.ensures (some_sextet c.args.b (get_or SEXTETS c.args.b 0) (entry c.args.b small) (rw c.from.ensures at c.if-v-lt64.true))

pub returns-else-v-lt64 : goal.returns-else-v-lt64
returns-else-v-lt64 c = let small : c.args.b < 256 = search rules in none-sextet c.args.b (get_or SEXTETS c.args.b 0) (entry c.args.b small) (rw c.from.ensures at c.if-v-lt64.false)
