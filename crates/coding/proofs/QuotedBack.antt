-- What is escaped decodes to what it was.
use Rattle.std.proofs.lemmas.Grind.{common_steps}
use Rattle.std.proofs.Common.{◌≡◌, ℕ, ◌+◌, ◌-◌, ◌*◌, ◌/◌, ◌%◌, ◌<◌, [], ◌∷◌, Some, Option, ap, ◌∙◌, ⊎_elim, arith}
use Rattle.std.proofs.lemmas.Bool.{cases_lt, lt-ltb, le-ltb}
use Rattle.byte_lines.specs.Bytes.{Bytes}
use Rattle.byte_lines.specs.Classes.{hex}
use Rattle.source.specs.declared.ends.End.{End}
use Rattle.coding.specs.Decoding.{gives, prefixed}
use Rattle.coding.specs.Quoted.{byte_of, quoted}
use Rattle.coding.specs.QuotedLaws.{Octets, digit, escaped}
use Rattle.coding.proofs.QuotedHeld.{quoted-escape}
use Rattle.coding.proofs.QuotedSteps.{quoted-nothing}

hex-digit : (v : ℕ) → v < 16 → hex (digit v) ≡ Some v
hex-digit v h = grind (arith, common_steps)

pub escaped_back : (at : ℕ) (s : Bytes) (e : End) → Octets s → quoted at (escaped s) e ≡ gives s e
unfolding escaped
escaped_back at [] e o = quoted-nothing at e
escaped_back at (b ∷ bs) e (h, o) =
    let high = hex-digit (b / 16) (omega arith) in
    let low = hex-digit (b % 16) (omega arith) in
    let z : b / 16 * 16 + b % 16 ≡ b = omega arith in
    let v : byte_of (hex (digit (b / 16))) (hex (digit (b % 16))) ≡ Some b =
    ap (λ (x : Option ℕ). byte_of x (hex (digit (b % 16)))) high ∙ ap (byte_of (Some (b / 16))) low ∙ ap (λ (n : ℕ). Some n) z in
    quoted-escape (digit (b / 16)) (digit (b % 16)) b at (escaped bs) e (b / 16) (b % 16) high low v ∙ ap (prefixed (b ∷ [])) (escaped_back (at + 3) bs e o)
