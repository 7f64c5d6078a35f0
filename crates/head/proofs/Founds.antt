-- What `lookup` has found so far.
use Rattle.std.proofs.Common.{◌≡◌, ℕ, ◌+◌, ◌<◌, ◌≤◌, true, false, List, [], ◌∷◌, ◌++◌, length, get_or, drop, is_some, Some, None, Option, Ok, sym, ap, ◌∙◌, append-nil, arith, Bor}
use Rattle.std.proofs.lemmas.List.{at_drop_more, at_drop_all}
use Rattle.std.proofs.lemmas.Bool.{true≢false, false≢true}
use Rattle.byte_lines.specs.Bytes.{Bytes}
use Rattle.byte_lines.specs.Strings.{named}
use Rattle.head.specs.declared.table.Record.{Record}
use Rattle.head.specs.Fields.{Field, values_of}
use Rattle.head.specs.Lookup.{field_at, fields_in, ValueIs}
use Rattle.head.specs.Packing.{no_record}

-- the value found, if one was
abbrev pub listed : Option (Bor Bytes) → List Bytes
listed None = []
listed (Some v) = v.now ∷ []

-- what is found before the i-th record, with the values from there on, is all
abbrev pub Holds : List Bytes → (word buffer : Bytes) → List Record → ℕ → Option (Bor Bytes) → Type 0
Holds all word buffer rs i o = all ≡ listed o ++ values_of word (fields_in buffer (drop i rs))

-- the values from the i-th record on, by whether its name is the word
module _ (all : List Bytes) (word buffer : Bytes) (rs : List Record) (i : ℕ) (inside : i < length rs) where
  abbrev here : Field
  here = field_at buffer (get_or rs i no_record)

  values-at : values_of word (fields_in buffer (drop i rs)) ≡ values_of word (here ∷ fields_in buffer (drop (i + 1) rs))
  values-at = at_drop_more (λ (l : List Record). values_of word (fields_in buffer l)) rs i no_record inside

  values-more : true ≡ named word here.name → values_of word (fields_in buffer (drop i rs)) ≡ here.value ∷ values_of word (fields_in buffer (drop (i + 1) rs))
  unfolding values_of
  values-more e = values-at ∙ rw (values_of, sym e)

  -- the i-th record is the first of that name, another of that name, or not of that name
  pub found_first : (o : Option (Bor Bytes)) → false ≡ is_some o → (v : Bor Bytes) → v.now ≡ here.value → true ≡ named word here.name → Holds all word buffer rs i o → Holds all word buffer rs (i + 1) (Some v)
  found_first None none v is e h = h ∙ values-more e ∙ ap (λ (s : Bytes). s ∷ values_of word (fields_in buffer (drop (i + 1) rs))) (sym is)
  found_first (Some w) none v is e h = absurd (false≢true none)

  pub found-again : (o : Option (Bor Bytes)) → true ≡ is_some o → true ≡ named word here.name → Holds all word buffer rs i o → 1 < length all
  found-again None some e h = absurd (true≢false some)
  found-again (Some w) some e h = omega (arith, ap length h, ap length (values-more e))

  pub found-past : (o : Option (Bor Bytes)) → false ≡ named word here.name → Holds all word buffer rs i o → Holds all word buffer rs (i + 1) o
  unfolding values_of
  found-past o e h = h ∙ ap (λ (vs : List Bytes). listed o ++ vs) (values-at ∙ rw (values_of, sym e))

-- no record is left
pub found_all : (all : List Bytes) (word buffer : Bytes) (rs : List Record) (i : ℕ) (o : Option (Bor Bytes)) → length rs ≤ i → Holds all word buffer rs i o → ValueIs (Ok o) all
unfolding values_of
found_all all word buffer rs i o past h =
    value_is o (h ∙ ap (λ (vs : List Bytes). listed o ++ vs) (at_drop_all (λ (l : List Record). values_of word (fields_in buffer l)) rs i past) ∙ append-nil (listed o))
  where
    value_is : (o : Option (Bor Bytes)) → all ≡ listed o → ValueIs (Ok o) all
    value_is None e = e
    value_is (Some v) e = e
