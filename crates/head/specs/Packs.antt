-- What the steps of a packing leave. Assumes nothing.
use Rattle.std.specs.Prelude.{◌≡◌, ℕ, ◌+◌, ◌-◌, ◌<◌, ◌≤◌, Bool, true, false, List, ◌∷◌, ◌++◌, length, take, replicate, nat_lt}
use Rattle.byte_lines.specs.Bytes.{Bytes}
use Rattle.byte_lines.specs.Lines.{lines}
use Rattle.byte_lines.specs.Strings.{trim_start}
use Rattle.head.specs.declared.packs.Packer.{Packer}
use Rattle.head.specs.Fields.{Field, continues, gathered, fields_of}

-- more text of a value, which has begun or not: blanks before its start are left out
abbrev pub stripped : (begun : Bool) → Bytes → Bytes
stripped true s = s
stripped false s = trim_start s

-- a packer can take the text
abbrev pub Room : Packer → Bytes → Type 0
Room p text = p.to + length text ≤ length p.out.now

-- a packer put more text
pub record Puts (old new : Packer) (text : Bytes) : Type 0 where
  pub same : new.out.ghost_name ≡ old.out.ghost_name
  pub long : length new.out.now ≡ length old.out.now
  pub grows : new.to ≡ old.to + length text
  pub bytes : take new.to new.out.now ≡ take old.to old.out.now ++ text

-- the lines at a text's start that continue a field, whose value begins at `base`, were put, and the rest stands behind them
pub record MorePacked (base : ℕ) (text rest : Bytes) (old new : Packer) : Type 0 where
  pub puts : Puts old new (stripped (nat_lt base old.to) (gathered (lines text)).more)
  pub fields : fields_of (lines text) ≡ fields_of (lines rest)
  pub fits : new.to + length rest ≤ old.to + length text
  pub ends : continues rest ≡ false

-- the first field of a head was put, and the rest stands behind it
pub record FieldPacked (head rest : Bytes) (old new : Packer) (name value : ℕ) : Type 0 where
  pub first : Field
  pub splits : fields_of (lines head) ≡ first ∷ fields_of (lines rest)
  pub named : length first.name ≡ name
  pub valued : length first.value ≡ value
  pub puts : Puts old new (first.name ++ first.value)
  pub shorter : length rest < length head
  pub fits : new.to + length rest ≤ old.to + length head
  pub ends : continues rest ≡ false

-- xs and then zeros, n elements in all
abbrev pub padded : {A : Type 0} → (zero : A) (n : ℕ) → List A → List A
padded zero n xs = xs ++ replicate (n - length xs) zero
