-- How the parts of a Content-Type's value are read. Assumes nothing.
use Rattle.std.specs.Prelude.{◌≡◌, ℕ, suc, ◌+◌, ◌<◌, Bool, true, false, ◌&&◌, List, [], ◌∷◌, length, take, drop, Some, None, codes, Option, ◌==◌}
use Rattle.std.specs.Borrow.{Bor}
use Rattle.byte_lines.specs.Bytes.{Bytes}
use Rattle.byte_lines.specs.Strings.{has, before, after, named}
use Rattle.head.specs.declared.boundary.Boundary.{Boundary}
use Rattle.head.specs.declared.media.pieces.Place.{Place}
use Rattle.head.specs.declared.media.pieces.Place.TheVariants.{Outside, Inside, Protected}
use Rattle.head.specs.BoundaryBytes.{boundary_of, if_lawful}
use Rattle.head.specs.Entities.{boundaries, boundary}
use Rattle.head.specs.Media.{token, Parameter, Quote, outside, inside, protected, quote_after, is_outside, pieces, absent, is_type}

-- what an optional slice holds
abbrev pub shown : Option (Bor Bytes) → Option Bytes
shown None = None
shown (Some s) = Some s.now

abbrev pub shown_parameter : Option (Bor Bytes × Bor Bytes) → Option Parameter
shown_parameter None = None
shown_parameter (Some p) = Some (record { name = p.0.now; value = p.1.now })

-- the first b of s stands at that place, or b stands nowhere in s
pub record At (b : ℕ) (s : Bytes) (i : ℕ) : Type 0 where
  pub within : i < length s
  pub stands : has b s ≡ true
  pub front : before b s ≡ take i s
  pub back : after b s ≡ drop (i + 1) s

abbrev pub Finds : (b : ℕ) → Bytes → Option ℕ → Type 0
Finds b s None = has b s ≡ false
Finds b s (Some i) = At b s i

-- the text behind a '"' is the rest of a quoted string: its only '"' that is not protected stands last
unfoldable pub closes : Bytes → (is_protected : Bool) → Bool
closes [] p = false
closes (b ∷ bs) true = closes bs false
closes (b ∷ bs) false = elim (b == 34) [ true ↦ absent bs | false ↦ closes bs (b == 92) ]

abbrev pub quote_of : Place → Quote
quote_of Outside = outside
quote_of Inside = inside
quote_of Protected = protected

-- a byte ends a piece
abbrev pub ends_piece : Quote → ℕ → Bool
ends_piece q b = is_outside q && b == 59

-- how long the first piece is
unfoldable pub piece_length : Quote → Bytes → ℕ
piece_length q [] = 0
piece_length q (b ∷ bs) = elim (ends_piece q b) [ true ↦ 0 | false ↦ suc (piece_length (quote_after q b) bs) ]

-- the pieces of what stands behind a piece
abbrev pub later_pieces : Option (Bor Bytes) → List Bytes
later_pieces None = []
later_pieces (Some s) = pieces outside s.now

abbrev pub Shorter : Option (Bor Bytes) → Bytes → Type 0
Shorter None s = Unit {0}
Shorter (Some r) s = length r.now < length s

-- a text, if it is a token
abbrev pub token_of : Bytes → Option Bytes
token_of s = elim (token s) [ true ↦ Some s | false ↦ None ]

-- whether a type, as token, '/', token, is multipart; none where it is no type
abbrev pub multipart_type : Bytes → Option Bool
multipart_type s = elim (is_type s) [ true ↦ Some (named (codes "multipart") (before 47 s)) | false ↦ None ]

-- a piece without its blanks ends the parameters: nothing stands in it, and no piece behind it
abbrev pub ends_parameters : Bytes → Option (Bor Bytes) → Bool
ends_parameters s None = absent s
ends_parameters s (Some r) = false

-- the boundary among the parameters; none where a parameter is broken
abbrev pub boundary_in : Option (List Parameter) → Option (Option Bytes)
boundary_in None = None
boundary_in (Some ps) = Some (boundary (boundaries ps))

abbrev pub found_of : Option (Option Boundary) → Option (Option Bytes)
found_of None = None
found_of (Some b) = Some (boundary_of b)

-- the boundary after one more parameter of that name, where those before it, if there were any, had that one
abbrev pub noted : Option (Option Bytes) → Bytes → Option Bytes
noted None s = if_lawful s
noted (Some b) s = None
