-- Where the input has a fault, a body that meets its end without one of its own has that fault.
use Rattle.std.proofs.Common.{◌≡◌, ℕ, ◌-◌, Bool, true, false, [], length, refl, ap}
use Rattle.source.specs.declared.ends.Fault.{Fault}
use Rattle.source.specs.declared.ends.End.{End}
use Rattle.source.specs.declared.ends.End.TheVariants.{Faulty}
use Rattle.coding.specs.declared.decoder.Mode.{Mode}
use Rattle.coding.specs.declared.decoder.Mode.TheVariants.{Plain, Base64, Quoted, Spent, Ended}
use Rattle.coding.specs.Base64.{base64_from, base64_end, has_equals}
use Rattle.coding.specs.Decoding.{Decoded}
use Rattle.coding.specs.Modes.{later_by}
use Rattle.coding.specs.Buffers.{items}
use Rattle.coding.proofs.QuotedShapes.{shape_of}
use Rattle.coding.proofs.QuotedSteps.{ended}

base64_open : (over : Bool) (f g : Fault) → base64_end over false f (Faulty g) ≡ Faulty g
base64_open true f g = refl
base64_open false f g = refl

pub ends_as_input : (mode : Mode) (at : ℕ) → ((x : End) → mode ≡ Ended x → ⊥) → (g : Fault) → (later_by mode at [] (Faulty g)).ending ≡ Faulty g
unfolding base64_from has_equals
ends_as_input Plain at live g = refl
ends_as_input (Base64 d) at live g = base64_open _ _ g
ends_as_input (Quoted d) at live g = ap (λ (x : Decoded). x.ending) (ended d.kind (items d.held) (at - length (items d.held)) (Faulty g) (shape_of d d.kind refl))
ends_as_input Spent at live g = refl
ends_as_input (Ended x) at live g = absurd (live x refl)
