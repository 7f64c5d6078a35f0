-- The entity of a head, by the values of three of its fields.
use Rattle.std.proofs.Common.{◌≡◌, ℕ, ◌<◌, Bool, true, false, ◌&&◌, ◌||◌, eqb, ◌⊎◌, List, [], ◌∷◌, length, Some, None, codes, Option, Ok, Bor, sym, refl, ap, ◌∙◌, ⊎_elim}
use Rattle.std.proofs.lemmas.Bool.{lt-ltb, or_left, or_right, or_from}
use Rattle.byte_lines.specs.Bytes.{Bytes}
use Rattle.byte_lines.specs.Strings.{named}
use Rattle.coding.specs.declared.decoder.Coding.{Coding}
use Rattle.head.specs.declared.faults.HeadFault.{HeadFault}
use Rattle.head.specs.declared.faults.HeadFault.TheVariants.{Repeated}
use Rattle.head.specs.Fields.{Field, values_of}
use Rattle.head.specs.Judging.{fault_number}
use Rattle.head.specs.Lookup.{ValueIs}
use Rattle.head.specs.Media.{MediaType, media_type}
use Rattle.head.specs.Entities.{Coded, Entity, refused, leaf_of, group_of, boundary, boundaries, entity_of, typed_entity, twice, entity}
use Rattle.head.specs.Openings.{coded_by, entity_from, CodingIs}
use Rattle.head.specs.Summaries.{summary, typed_summary}

-- a value that was found stands once
pub once : (o : Option (Bor Bytes)) (vs : List Bytes) → ValueIs (Ok o) vs → twice vs ≡ false
once None vs e = ap twice e
once (Some v) vs e = ap twice e

-- what a Content-Type says in short is enough
typed_by : (around : ℕ) (t : MediaType) (c : Coded) (m : Bool)
    → ◌≡◌ {A = Entity} (elim m [
      | true ↦ elim (eqb c.coding 0 && eqb c.mark 0) [ true ↦ group_of around (boundary (boundaries t.parameters)) | false ↦ refused 45 ]
      | false ↦ leaf_of c 0
    ]) (entity_from around (typed_summary m (boundary (boundaries t.parameters))) c)
typed_by around t c true = refl
typed_by around t c false = refl

pub entity_short : (around : ℕ) (o : Option MediaType) (c : Coded) → entity_of around o c ≡ entity_from around (summary o) c
entity_short around None c = refl
entity_short around (Some t) c = typed_by around t c (named (codes "multipart") t.type)

module _ (around : ℕ) (fs : List Field) where
  abbrev pub types : List Bytes
  types = values_of (codes "content-type") fs

  abbrev pub codings : List Bytes
  codings = values_of (codes "content-transfer-encoding") fs

  abbrev pub dispositions : List Bytes
  dispositions = values_of (codes "content-disposition") fs

  -- one of the three stands twice
  pub repeated : (f : HeadFault) → f ≡ Repeated → (1 < length types) ⊎ ((1 < length codings) ⊎ (1 < length dispositions)) → refused (fault_number f) ≡ entity around fs
  unfolding entity
  repeated f e more =
      let both = twice codings || twice dispositions in
      let t : (twice types || both) ≡ true =
      ⊎_elim (λ h. or_left (twice types) both (lt-ltb 1 (length types) h))
      (λ m. or_right (twice types) both
      (⊎_elim (λ h. or_left (twice codings) (twice dispositions) (lt-ltb 1 (length codings) h)) (λ h. or_right (twice codings) (twice dispositions) (lt-ltb 1 (length dispositions) h)) m))
      more in
      rw (e, t, entity)

  module _ (c : Option Coding) (coding : CodingIs (Ok c) codings) (o : Option (Bor Bytes)) (disposition : ValueIs (Ok o) dispositions) where
    entity-typed : twice types ≡ false → entity around fs ≡ typed_entity around types (coded_by c)
    unfolding entity
    entity-typed t = rw (or_from (twice types) (twice codings || twice dispositions) t (or_from (twice codings) (twice dispositions) coding.0 (once o dispositions disposition)), entity) (ap (typed_entity around types) (sym coding.1))

    -- none or one Content-Type
    pub decided_none : types ≡ [] → leaf_of (coded_by c) 0 ≡ entity around fs
    decided_none e = sym (entity-typed (ap twice e) ∙ ap (λ (vs : List Bytes). typed_entity around vs (coded_by c)) e)

    pub decided_one : (v : Bytes) → types ≡ v ∷ [] → entity_from around (summary (media_type v)) (coded_by c) ≡ entity around fs
    decided_one v e = sym (entity-typed (ap twice e) ∙ ap (λ (vs : List Bytes). typed_entity around vs (coded_by c)) e ∙ entity_short around (media_type v) (coded_by c))
