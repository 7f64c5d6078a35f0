-- What a head's fields make of its entity. Assumes nothing.
use Rattle.std.specs.Prelude.{ℕ, ◌+◌, Bool, true, false, not, ◌&&◌, ◌||◌, List, [], ◌∷◌, length, Some, None, codes, Option, ◌==◌, nat_lt}
use Rattle.std.specs.Char.{is_ascii_alphanumeric}
use Rattle.byte_lines.specs.Bytes.{Bytes}
use Rattle.byte_lines.specs.Classes.{within}
use Rattle.byte_lines.specs.Strings.{has, every, named}
use Rattle.head.specs.Fields.{Field, values_of}
use Rattle.head.specs.Media.{Parameter, MediaType, media_type}

-- letters, digits, SP and '()+_,-./:=?
abbrev pub boundary_byte : ℕ → Bool
boundary_byte b = is_ascii_alphanumeric b || has b (codes " '()+_,-./:=?")

abbrev pub ends_in_space : Bytes → Bool
ends_in_space [] = false
ends_in_space (b ∷ []) = b == 32
ends_in_space (b ∷ c ∷ cs) = ends_in_space (c ∷ cs)

-- 1 to 70 of these bytes, not ending in SP
abbrev pub lawful : Bytes → Bool
lawful s = within 1 70 (length s) && (every boundary_byte s && not (ends_in_space s))

-- the values of the parameters named boundary
unfoldable pub boundaries : List Parameter → List Bytes
boundaries [] = []
boundaries (p ∷ ps) = elim (named (codes "boundary") p.name) [ true ↦ p.value ∷ boundaries ps | false ↦ boundaries ps ]

-- the one boundary, if there is exactly one and it is lawful
abbrev pub boundary : List Bytes → Option Bytes
boundary [] = None
boundary (b ∷ []) = elim (lawful b) [ true ↦ Some b | false ↦ None ]
boundary (b ∷ c ∷ cs) = None

pub record Coded : Type 0 where
  pub coding : ℕ
  pub mark : ℕ

-- 0 for 7bit, 8bit, binary or no such field, 1 for quoted-printable, 2 for base64; any other is 0 with mark 2
abbrev pub coding_of : List Bytes → Coded
coding_of [] = record { coding = 0; mark = 0 }
coding_of (v ∷ vs) =
    elim (named (codes "7bit") v || (named (codes "8bit") v || named (codes "binary") v)) [
      | true ↦ record { coding = 0; mark = 0 }
      | false ↦ elim (named (codes "quoted-printable") v) [
        | true ↦ record { coding = 1; mark = 0 }
        | false ↦ elim (named (codes "base64") v) [ true ↦ record { coding = 2; mark = 0 } | false ↦ record { coding = 0; mark = 2 } ]
      ]
    ]

-- a leaf with its coding and marks, a group with its boundary, or the fault of that number at the head's start
pub data Entity : Type 0 where
  leaf : (coding marks : ℕ) → Entity
  group : (boundary : Bytes) → Entity
  refused : (number : ℕ) → Entity

abbrev pub leaf_of : Coded → (mark : ℕ) → Entity
leaf_of c m = leaf c.coding (c.mark + m)

abbrev pub group_of : (around : ℕ) → Option Bytes → Entity
group_of around None = refused 46
group_of around (Some b) = elim (nat_lt around 8) [ true ↦ group b | false ↦ refused 47 ]

-- a broken Content-Type makes a leaf with mark 1; a lawful one of type multipart a group, which may have no coding
abbrev pub entity_of : (around : ℕ) → Option MediaType → Coded → Entity
entity_of around None c = leaf_of c 1
entity_of around (Some t) c =
    elim (named (codes "multipart") t.type) [
      | true ↦ elim (c.coding == 0 && c.mark == 0) [ true ↦ group_of around (boundary (boundaries t.parameters)) | false ↦ refused 45 ]
      | false ↦ leaf_of c 0
    ]

abbrev pub typed_entity : (around : ℕ) → List Bytes → Coded → Entity
typed_entity around [] c = leaf_of c 0
typed_entity around (v ∷ vs) c = entity_of around (media_type v) c

abbrev pub twice : List Bytes → Bool
twice vs = nat_lt 1 (length vs)

-- the entity of a head with these fields, where so many groups are open around it: 44, 45, 46, 47 in this order
unfoldable pub entity : (around : ℕ) → List Field → Entity
entity around fs =
    elim (twice (values_of (codes "content-type") fs) || (twice (values_of (codes "content-transfer-encoding") fs) || twice (values_of (codes "content-disposition") fs))) [
      | true ↦ refused 44
      | false ↦ typed_entity around (values_of (codes "content-type") fs) (coding_of (values_of (codes "content-transfer-encoding") fs))
    ]
