-- What the parts of a Content-Type make of it.
use Rattle.std.proofs.Common.{◌≡◌, ℕ, suc, Bool, true, false, List, [], ◌∷◌, length, Some, None, codes, Option, sym, refl, ap, ◌∙◌, arith, Bor}
use Rattle.std.specs.Option.{option_flatten}
use Rattle.std.proofs.lemmas.Bool.{and_from, false≢true}
use Rattle.byte_lines.specs.Bytes.{Bytes}
use Rattle.byte_lines.specs.Strings.{has, before, after, trim, named}
use Rattle.head.specs.declared.boundary.Boundary.{Boundary}
use Rattle.head.specs.BoundaryBytes.{boundary_of}
use Rattle.head.specs.Entities.{boundaries, boundary}
use Rattle.head.specs.Media.{token, content, Parameter, parameter_of, parameter, Quote, outside, onto_piece, quote_after, pieces, join_parameter, parameters, media_of, is_type, typed}
use Rattle.head.specs.Summaries.{Summary, broken, typed_summary, summary}
use Rattle.head.specs.MediaReads.{ends_piece, later_pieces, multipart_type, ends_parameters, boundary_in, found_of, noted}
use Rattle.head.proofs.TextScans.{by_test}

pub parameter_is : (s : Bytes) → has 61 s ≡ true → token (before 61 s) ≡ true → parameter s ≡ parameter_of (before 61 s) (content (after 61 s))
parameter_is s h t = rw (parameter, and_from (has 61 s) (token (before 61 s)) h t)

-- a value has at least one piece
some_piece : (q : Quote) (s : Bytes) → (p : Bytes) × ((ps : List Bytes) × (pieces q s ≡ p ∷ ps))
unfolding pieces
some_piece q [] = ([], ([], refl))
some_piece q (b ∷ bs) =
    by_test (ends_piece q b) (λ t. ([], (pieces outside bs, rw (pieces, t))))
    (λ f. let r = some_piece (quote_after q b) bs in
    let g : pieces q (b ∷ bs) ≡ onto_piece b (pieces (quote_after q b) bs) = rw (pieces, f) in
    (b ∷ r.0, (r.1.0, g ∙ ap (onto_piece b) r.1.1)))

pub parameters-none : (rest : Option (Bor Bytes)) → rest ≡ None → parameters (later_pieces rest) ≡ Some []
unfolding parameters
parameters-none rest e = ap (λ (r : Option (Bor Bytes)). parameters (later_pieces r)) e

pub parameters_end : (s : Bytes) (later : Option (Bor Bytes)) → ends_parameters (trim s) later ≡ true → parameters (s ∷ later_pieces later) ≡ Some []
unfolding parameters
parameters_end s None t = rw (parameters, t)
parameters_end s (Some r) t = absurd (false≢true t)

pub parameters-more : (s : Bytes) (later : Option (Bor Bytes)) → ends_parameters (trim s) later ≡ false
    → parameters (s ∷ later_pieces later) ≡ join_parameter (parameter (trim s)) (parameters (later_pieces later))
unfolding parameters
parameters-more s None f = rw (parameters, f)
parameters-more s (Some r) f =
    let p = some_piece outside r.now in
    ap (λ (l : List Bytes). parameters (s ∷ l)) p.1.1 ∙ ap (λ (l : List Bytes). join_parameter (parameter (trim s)) (parameters l)) (sym p.1.1)

-- the boundary among more values of that name, where those before them gave o, if there were any
abbrev pub joins : Option (Option Bytes) → List Bytes → Option Bytes
joins None bs = boundary bs
joins (Some o) [] = o
joins (Some o) (b ∷ bs) = None

-- the same, among more parameters
abbrev pub verdict : Option (Option Bytes) → Option (List Parameter) → Option (Option Bytes)
verdict o None = None
verdict o (Some ps) = Some (joins o (boundaries ps))

pub verdict_end : (f : Option (Option Boundary)) → verdict (found_of f) (Some []) ≡ Some (boundary_of (option_flatten f))
unfolding boundaries
verdict_end None = refl
verdict_end (Some b) = refl

pub verdict_other : (o : Option (Option Bytes)) (p : Parameter) (ps : Option (List Parameter)) → named (codes "boundary") p.name ≡ false → verdict o (join_parameter (Some p) ps) ≡ verdict o ps
unfolding boundaries
verdict_other o p None f = refl
verdict_other o p (Some ps) f = let e : boundaries (p ∷ ps) ≡ boundaries ps = rw (boundaries, f) in ap (λ (l : List Bytes). Some (joins o l)) e

joins-more : (o : Option (Option Bytes)) (b : Bytes) (bs : List Bytes) → joins o (b ∷ bs) ≡ joins (Some (noted o b)) bs
joins-more None b [] = refl
joins-more None b (c ∷ bs) = refl
joins-more (Some o) b [] = refl
joins-more (Some o) b (c ∷ bs) = refl

pub verdict-boundary : (o : Option (Option Bytes)) (p : Parameter) (ps : Option (List Parameter)) → named (codes "boundary") p.name ≡ true
    → verdict o (join_parameter (Some p) ps) ≡ verdict (Some (noted o p.value)) ps
unfolding boundaries
verdict-boundary o p None t = refl
verdict-boundary o p (Some ps) t =
    let e : boundaries (p ∷ ps) ≡ p.value ∷ boundaries ps = rw (boundaries, t) in
    ap (λ (l : List Bytes). Some (joins o l)) e ∙ ap (λ (b : Option Bytes). Some b) (joins-more o p.value (boundaries ps))

-- the whole, from its type and its parameters' boundary
abbrev pub summarized : (is_multipart : Bool) → Option (Option Bytes) → Summary
summarized m None = broken
summarized m (Some b) = typed_summary m b

summary_of : (t : Bytes) (ps : Option (List Parameter)) → summary (media_of t ps) ≡ summarized (named (codes "multipart") t) (boundary_in ps)
summary_of t None = refl
summary_of t (Some ps) = refl

pub summary-broken : (s : Bytes) (ss : List Bytes) → None ≡ multipart_type (trim s) → summary (typed (s ∷ ss)) ≡ broken
summary-broken s ss e =
    by_test (is_type (trim s)) (λ t. let g : multipart_type (trim s) ≡ Some (named (codes "multipart") (before 47 (trim s))) = rw (multipart_type, t) in let z : ◌≡◌ {A = ℕ} 0 1 = cc in absurd (omega arith))
    (λ f. let g : typed (s ∷ ss) ≡ None = rw (typed, f) in ap summary g)

pub summary-typed : (s : Bytes) (ss : List Bytes) (m : Bool) → Some m ≡ multipart_type (trim s) → summary (typed (s ∷ ss)) ≡ summarized m (boundary_in (parameters ss))
summary-typed s ss m e =
    by_test (is_type (trim s))
    (λ t. let k = named (codes "multipart") (before 47 (trim s)) in
    let g : multipart_type (trim s) ≡ Some k = rw (multipart_type, t) in
    let q : k ≡ m = cc in
    let h : typed (s ∷ ss) ≡ media_of (before 47 (trim s)) (parameters ss) = rw (typed, t) in
    ap summary h ∙ summary_of (before 47 (trim s)) (parameters ss) ∙ ap (λ (b : Bool). summarized b (boundary_in (parameters ss))) q)
    (λ f. let g : multipart_type (trim s) ≡ None = rw (multipart_type, f) in let z : ◌≡◌ {A = ℕ} 0 1 = cc in absurd (omega arith))

-- how much is left to read, for a loop's measure
abbrev pub left_of : Option (Bor Bytes) → ℕ
left_of None = 0
left_of (Some s) = suc (length s.now)

-- one piece of what is left, and what stands behind it
module _ (rest later : Option (Bor Bytes)) (text : Bor Bytes) (piece trimmed : Bytes) (is : rest ≡ Some text) (splits : piece ∷ later_pieces later ≡ pieces outside text.now) (clean : trimmed ≡ trim piece) where
  left_is : parameters (later_pieces rest) ≡ parameters (piece ∷ later_pieces later)
  left_is = ap (λ (r : Option (Bor Bytes)). parameters (later_pieces r)) is ∙ ap parameters (sym splits)

  pub left-ends : true ≡ ends_parameters trimmed later → parameters (later_pieces rest) ≡ Some []
  left-ends t = left_is ∙ parameters_end piece later (ap (λ (s : Bytes). ends_parameters s later) (sym clean) ∙ sym t)

  pub left-more : false ≡ ends_parameters trimmed later → (p : Option Parameter) → p ≡ parameter trimmed → parameters (later_pieces rest) ≡ join_parameter p (parameters (later_pieces later))
  left-more f p e =
      left_is ∙ parameters-more piece later (ap (λ (s : Bytes). ends_parameters s later) (sym clean) ∙ sym f)
      ∙ ap (λ (q : Option Parameter). join_parameter q (parameters (later_pieces later))) (ap parameter (sym clean) ∙ sym e)
