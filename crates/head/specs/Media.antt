-- The value of Content-Type. Assumes nothing.
use Rattle.std.specs.Prelude.{ℕ, Bool, true, false, not, ◌&&◌, List, [], ◌∷◌, Some, None, codes, Option, ◌==◌}
use Rattle.byte_lines.specs.Bytes.{Bytes}
use Rattle.byte_lines.specs.Classes.{within}
use Rattle.byte_lines.specs.Strings.{has, every, before, after, trim}

-- bytes 33 to 126 without ( ) < > @ , ; : \ " / [ ] ? =
abbrev pub token_byte : ℕ → Bool
token_byte b = within 33 126 b && not (has b (codes "()<>@,;:\\\"/[]?="))

abbrev pub token : Bytes → Bool
token [] = false
token (b ∷ bs) = token_byte b && every token_byte bs

abbrev pub also : ℕ → Option Bytes → Option Bytes
also b None = None
also b (Some s) = Some (b ∷ s)

-- the content of a quoted string, from behind its first '"' to the '"' that ends it, which stands last; '\' protects the next byte and stays
unfoldable pub quoted_content : Bytes → Option Bytes
quoted_content [] = None
quoted_content (b ∷ []) = elim (b == 34) [ true ↦ Some [] | false ↦ None ]
quoted_content (b ∷ c ∷ cs) =
    elim (b == 34) [
      | true ↦ None
      | false ↦ elim (b == 92) [ true ↦ also b (also c (quoted_content cs)) | false ↦ also b (quoted_content (c ∷ cs)) ]
    ]

-- a token, or a quoted string by its content
abbrev pub content : Bytes → Option Bytes
content [] = None
content (b ∷ bs) = elim (b == 34) [ true ↦ quoted_content bs | false ↦ elim (token (b ∷ bs)) [ true ↦ Some (b ∷ bs) | false ↦ None ] ]

pub record Parameter : Type 0 where
  pub name : Bytes
  pub value : Bytes

abbrev pub parameter_of : Bytes → Option Bytes → Option Parameter
parameter_of n None = None
parameter_of n (Some v) = Some (record { name = n; value = v })

-- token, '=', and then a token or a quoted string
abbrev pub parameter : Bytes → Option Parameter
parameter s = elim (has 61 s && token (before 61 s)) [ true ↦ parameter_of (before 61 s) (content (after 61 s)) | false ↦ None ]

-- where a byte stands: outside of quoted strings, inside one, or behind the '\' that protects it
pub data Quote : Type 0 where
  outside inside protected : Quote

abbrev pub quote_after : Quote → ℕ → Quote
quote_after outside b = elim (b == 34) [ true ↦ inside | false ↦ outside ]
quote_after inside b = elim (b == 34) [ true ↦ outside | false ↦ elim (b == 92) [ true ↦ protected | false ↦ inside ] ]
quote_after protected b = inside

abbrev pub is_outside : Quote → Bool
is_outside outside = true
is_outside inside = false
is_outside protected = false

abbrev pub onto_piece : ℕ → List Bytes → List Bytes
onto_piece b [] = (b ∷ []) ∷ []
onto_piece b (p ∷ ps) = (b ∷ p) ∷ ps

-- the pieces of a value between the ';' that stand in no quoted string
unfoldable pub pieces : Quote → Bytes → List Bytes
pieces q [] = [] ∷ []
pieces q (b ∷ bs) = elim (is_outside q && b == 59) [ true ↦ [] ∷ pieces outside bs | false ↦ onto_piece b (pieces (quote_after q b) bs) ]

abbrev pub join_parameter : Option Parameter → Option (List Parameter) → Option (List Parameter)
join_parameter None ps = None
join_parameter (Some p) None = None
join_parameter (Some p) (Some ps) = Some (p ∷ ps)

abbrev pub absent : Bytes → Bool
absent [] = true
absent (b ∷ bs) = false

-- blanks may stand around ';' and at the end, and a last ';' may have nothing after it
unfoldable pub parameters : List Bytes → Option (List Parameter)
parameters [] = Some []
parameters (s ∷ []) = elim (absent (trim s)) [ true ↦ Some [] | false ↦ join_parameter (parameter (trim s)) (Some []) ]
parameters (s ∷ t ∷ ss) = join_parameter (parameter (trim s)) (parameters (t ∷ ss))

pub record MediaType : Type 0 where
  pub type : Bytes
  pub parameters : List Parameter

abbrev pub media_of : Bytes → Option (List Parameter) → Option MediaType
media_of t None = None
media_of t (Some ps) = Some (record { type = t; parameters = ps })

-- token, '/', token
abbrev pub is_type : Bytes → Bool
is_type t = has 47 t && (token (before 47 t) && token (after 47 t))

abbrev pub typed : List Bytes → Option MediaType
typed [] = None
typed (s ∷ ss) = elim (is_type (trim s)) [ true ↦ media_of (before 47 (trim s)) (parameters ss) | false ↦ None ]

-- token, '/', token, and then parameters; none where the value breaks this
abbrev pub media_type : Bytes → Option MediaType
media_type v = typed (pieces outside v)
