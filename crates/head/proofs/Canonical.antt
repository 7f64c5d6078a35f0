-- A Content-Type that is written from its parts is read back as the same parts.
use Rattle.std.proofs.Common.{◌≡◌, ℕ, Bool, true, false, not, ◌&&◌, eqb, List, [], ◌∷◌, ◌++◌, map, Some, Option, sym, refl, ap, ◌∙◌, append-nil}
use Rattle.std.proofs.lemmas.Bool.{eq-eqb, ne_eqb, and_parts, and_from, not-true, not_from_false, true≢false, false≢true, or_from}
use Rattle.byte_lines.specs.Bytes.{Bytes}
use Rattle.byte_lines.specs.Classes.{blank}
use Rattle.byte_lines.specs.Strings.{has, every, before, after, kept, trim_start, trim_end, trim}
use Rattle.head.specs.Media.{token_byte, token, content, Parameter, parameter_of, parameter, Quote, outside, inside, protected, quote_after, is_outside, onto_piece, pieces, join_parameter, absent, parameters, media_of, is_type, typed}
use Rattle.head.specs.MediaReads.{closes, ends_piece}
use Rattle.head.specs.MediaLaw.{Value, plain, quoted, Written, quotable, lawful_value, content_of, value_text, piece_text, lawful_parameters, written, parameter_from, ReadsBack}
use Rattle.head.proofs.TextScans.{by_test}
use Rattle.head.proofs.Quotes.{front, when_closed, quoted_is}
use Rattle.head.proofs.MediaParts.{parameter_is}

-- the first c behind bytes that are not c
module _ (p : ℕ → Bool) (c : ℕ) (not-c : p c ≡ false) where
  other : (b : ℕ) → p b ≡ true → eqb c b ≡ false
  other b t = ne_eqb c b (λ e. true≢false (sym t ∙ ap p (sym e) ∙ not-c))

  pub has-behind : (x y : Bytes) → every p x ≡ true → has c (x ++ c ∷ y) ≡ true
  has-behind [] y t = let e = eq-eqb c c refl in rw e
  has-behind (b ∷ x) y t = let a = and_parts (p b) (every p x) t in let f = other b a.0 in rw f (has-behind x y a.1)

  pub before-behind : (x y : Bytes) → every p x ≡ true → before c (x ++ c ∷ y) ≡ x
  unfolding before
  before-behind [] y t = let e = eq-eqb c c refl in rw (before, e)
  before-behind (b ∷ x) y t =
      let a = and_parts (p b) (every p x) t in
      let f = other b a.0 in
      rw (before, f) (ap (λ (l : Bytes). b ∷ l) (before-behind x y a.1))

  pub after-behind : (x y : Bytes) → every p x ≡ true → after c (x ++ c ∷ y) ≡ y
  unfolding after
  after-behind [] y t = let e = eq-eqb c c refl in rw (after, e)
  after-behind (b ∷ x) y t = let a = and_parts (p b) (every p x) t in let f = other b a.0 in rw (after, f) (after-behind x y a.1)

token_all : (s : Bytes) → token s ≡ true → every token_byte s ≡ true
token_all [] t = absurd (false≢true t)
token_all (b ∷ bs) t = t

-- a token's byte is none of these
not_tokens : (b c : ℕ) → token_byte c ≡ false → token_byte b ≡ true → eqb b c ≡ false
not_tokens b c f t = ne_eqb b c (λ e. true≢false (sym t ∙ ap token_byte e ∙ f))

not_blank : (b : ℕ) → token_byte b ≡ true → blank b ≡ false
not_blank b t = or_from (eqb b 32) (eqb b 9) (not_tokens b 32 refl t) (not_tokens b 9 refl t)

-- Blanks: a text that begins and ends with none is kept.

-- the text's last byte is no blank
abbrev ends_solid : Bytes → Bool
ends_solid [] = false
ends_solid (b ∷ []) = not (blank b)
ends_solid (b ∷ c ∷ cs) = ends_solid (c ∷ cs)

trim_end_solid : (s : Bytes) → ends_solid s ≡ true → trim_end s ≡ s
unfolding trim_end
trim_end_solid [] t = absurd (false≢true t)
trim_end_solid (b ∷ []) t = let f = not-true (blank b) t in rw (kept, f)
trim_end_solid (b ∷ c ∷ cs) t = ap (kept b) (trim_end_solid (c ∷ cs) t)

solid_before : (b : ℕ) (s : Bytes) → ends_solid s ≡ true → ends_solid (b ∷ s) ≡ true
solid_before b [] t = absurd (false≢true t)
solid_before b (c ∷ s) t = t

solid_append : (x y : Bytes) → ends_solid y ≡ true → ends_solid (x ++ y) ≡ true
solid_append [] y t = t
solid_append (b ∷ x) y t = solid_before b (x ++ y) (solid_append x y t)

solid_every : (b : ℕ) (s : Bytes) → every token_byte (b ∷ s) ≡ true → ends_solid (b ∷ s) ≡ true
solid_every b [] t = not_from_false (blank b) (not_blank b (and_parts (token_byte b) true t).0)
solid_every b (c ∷ s) t = solid_every c s (and_parts (token_byte b) (every token_byte (c ∷ s)) t).1

solid_token : (s : Bytes) → token s ≡ true → ends_solid s ≡ true
solid_token [] t = absurd (false≢true t)
solid_token (b ∷ s) t = solid_every b s t

-- a token and more, to a last byte that is no blank
trim-token : (x y : Bytes) → token x ≡ true → ends_solid (x ++ y) ≡ true → trim (x ++ y) ≡ x ++ y
unfolding trim_start
trim-token [] y t e = absurd (false≢true t)
trim-token (b ∷ x) y t e =
    let f = not_blank b (and_parts (token_byte b) (every token_byte x) t).0 in
    let g : trim_start (b ∷ (x ++ y)) ≡ b ∷ (x ++ y) = rw (trim_start, f) in
    ap trim_start (trim_end_solid (b ∷ (x ++ y)) e) ∙ g

trim-behind : (x y : Bytes) → token x ≡ true → ends_solid (x ++ y) ≡ true → trim (32 ∷ (x ++ y)) ≡ x ++ y
unfolding trim_start
trim-behind [] y t e = absurd (false≢true t)
trim-behind (b ∷ x) y t e =
    let f = not_blank b (and_parts (token_byte b) (every token_byte x) t).0 in
    let g : trim_start (b ∷ (x ++ y)) ≡ b ∷ (x ++ y) = rw (trim_start, f) in
    ap trim_start (trim_end_solid (32 ∷ (b ∷ (x ++ y))) (solid_before 32 (b ∷ (x ++ y)) e)) ∙ g

-- Pieces: a text in which none ends, and which ends outside of quoted strings.
quiet : Quote → Bytes → Bool
quiet q [] = is_outside q
quiet q (b ∷ bs) = not (ends_piece q b) && quiet (quote_after q b) bs

quiet_piece : (q : Quote) (x r : Bytes) → quiet q x ≡ true → pieces q (x ++ 59 ∷ r) ≡ x ∷ pieces outside r
unfolding quiet pieces
quiet_piece q [] r t = let e : ends_piece q 59 ≡ true = and_from (is_outside q) true t refl in rw (pieces, e)
quiet_piece q (b ∷ x) r t =
    let a = and_parts (not (ends_piece q b)) (quiet (quote_after q b) x) t in
    let f = not-true (ends_piece q b) a.0 in
    let g : pieces q (b ∷ (x ++ 59 ∷ r)) ≡ onto_piece b (pieces (quote_after q b) (x ++ 59 ∷ r)) = rw (pieces, f) in
    g ∙ ap (onto_piece b) (quiet_piece (quote_after q b) x r a.1)

quiet_last : (q : Quote) (x : Bytes) → quiet q x ≡ true → pieces q x ≡ x ∷ []
unfolding quiet pieces
quiet_last q [] t = refl
quiet_last q (b ∷ x) t =
    let a = and_parts (not (ends_piece q b)) (quiet (quote_after q b) x) t in
    let f = not-true (ends_piece q b) a.0 in
    let g : pieces q (b ∷ x) ≡ onto_piece b (pieces (quote_after q b) x) = rw (pieces, f) in
    g ∙ ap (onto_piece b) (quiet_last (quote_after q b) x a.1)

quiet_none : (q : Quote) (y : Bytes) → is_outside q ≡ true → quiet outside y ≡ true → quiet q y ≡ true
quiet_none outside y t u = u
quiet_none inside y t u = absurd (false≢true t)
quiet_none protected y t u = absurd (false≢true t)

quiet-append : (q : Quote) (x y : Bytes) → quiet q x ≡ true → quiet outside y ≡ true → quiet q (x ++ y) ≡ true
unfolding quiet
quiet-append q [] y t u = quiet_none q y t u
quiet-append q (b ∷ x) y t u =
    let a = and_parts (not (ends_piece q b)) (quiet (quote_after q b) x) t in
    and_from (not (ends_piece q b)) (quiet (quote_after q b) (x ++ y)) a.0 (quiet-append (quote_after q b) x y a.1 u)

quiet-token : (x : Bytes) → every token_byte x ≡ true → quiet outside x ≡ true
unfolding quiet
quiet-token [] t = refl
quiet-token (b ∷ x) t =
    let a = and_parts (token_byte b) (every token_byte x) t in
    let f = not_tokens b 59 refl a.0 in
    let g = not_tokens b 34 refl a.0 in
    let e : quiet outside (b ∷ x) ≡ quiet outside x = rw (quiet, f, quote_after, g) in
    e ∙ quiet-token x a.1

-- Quoted strings.
abbrev place_of : (is_protected : Bool) → Quote
place_of true = protected
place_of false = inside

-- a byte in a quoted string that is no '"' leaves it open
inside-after : (b : ℕ) → eqb b 34 ≡ false → quote_after inside b ≡ place_of (eqb b 92)
inside-after b f = by_test (eqb b 92) (λ t. rw (quote_after, f, t)) (λ n. rw (quote_after, f, n))

quotable-more : (b : ℕ) (s : Bytes) → quotable (b ∷ s) false ≡ true → (eqb b 34 ≡ false) × (quotable s (eqb b 92) ≡ true)
unfolding quotable
quotable-more b s t =
    by_test (eqb b 34) (λ e. let n : quotable (b ∷ s) false ≡ false = rw (quotable, e) in absurd (true≢false (sym t ∙ n)))
    (λ f. let n : quotable (b ∷ s) false ≡ quotable s (eqb b 92) = rw (quotable, f) in (f, sym n ∙ t))

quiet-quoted : (s : Bytes) (p : Bool) → quotable s p ≡ true → quiet (place_of p) (s ++ 34 ∷ []) ≡ true
unfolding quiet quotable
quiet-quoted [] true t = absurd (false≢true t)
quiet-quoted [] false t = refl
quiet-quoted (b ∷ s) true t = quiet-quoted s false t
quiet-quoted (b ∷ s) false t =
    let a = quotable-more b s t in
    ap (λ (q : Quote). quiet q (s ++ 34 ∷ [])) (inside-after b a.0) ∙ quiet-quoted s (eqb b 92) a.1

closes-quoted : (s : Bytes) (p : Bool) → quotable s p ≡ true → closes (s ++ 34 ∷ []) p ≡ true
unfolding closes quotable
closes-quoted [] true t = absurd (false≢true t)
closes-quoted [] false t = refl
closes-quoted (b ∷ s) true t = closes-quoted s false t
closes-quoted (b ∷ s) false t = let a = quotable-more b s t in let f = a.0 in rw (closes, f) (closes-quoted s (eqb b 92) a.1)

front-quoted : (s : Bytes) → front (s ++ 34 ∷ []) ≡ s
front-quoted [] = refl
front-quoted (b ∷ []) = refl
front-quoted (b ∷ c ∷ s) = ap (λ (l : Bytes). b ∷ l) (front-quoted (c ∷ s))

-- A value.
content_value : (v : Value) → lawful_value v ≡ true → content (value_text v) ≡ Some (content_of v)
content_value (plain []) t = absurd (false≢true t)
content_value (plain (b ∷ s)) t =
    let f = not_tokens b 34 refl (and_parts (token_byte b) (every token_byte s) t).0 in
    rw (content, f, t)
content_value (quoted s) t =
    quoted_is (s ++ 34 ∷ []) ∙ ap (λ (b : Bool). when_closed b (s ++ 34 ∷ [])) (closes-quoted s false t) ∙ ap (λ (l : Bytes). Some l) (front-quoted s)

quiet_value : (v : Value) → lawful_value v ≡ true → quiet outside (value_text v) ≡ true
unfolding quiet
quiet_value (plain s) t = quiet-token s (token_all s t)
quiet_value (quoted s) t = quiet-quoted s false t

solid_value : (v : Value) → lawful_value v ≡ true → ends_solid (value_text v) ≡ true
solid_value (plain s) t = solid_token s t
solid_value (quoted s) t = solid_append (34 ∷ s) (34 ∷ []) refl

-- A parameter.
module _ (p : Written) (name : token p.name ≡ true) (value : lawful_value p.value ≡ true) where
  quiet-parameter : quiet outside (piece_text p) ≡ true
  unfolding quiet
  quiet-parameter = quiet-append outside p.name (61 ∷ value_text p.value) (quiet-token p.name (token_all p.name name)) (quiet_value p.value value)

  trim-parameter : trim (piece_text p) ≡ p.name ++ 61 ∷ value_text p.value
  trim-parameter =
      trim-behind p.name (61 ∷ value_text p.value) name
      (solid_append p.name (61 ∷ value_text p.value) (solid_before 61 (value_text p.value) (solid_value p.value value)))

  parameter-read : parameter (trim (piece_text p)) ≡ Some (parameter_from p)
  parameter-read =
      let n = p.name in
      let v = value_text p.value in
      let all = token_all n name in
      let b = before-behind token_byte 61 refl n v all in
      ap parameter trim-parameter ∙ parameter_is (n ++ 61 ∷ v) (has-behind token_byte 61 refl n v all) (ap token b ∙ name)
      ∙ ap (λ (m : Bytes). parameter_of m (content (after 61 (n ++ 61 ∷ v)))) b ∙ ap (λ (l : Bytes). parameter_of n (content l)) (after-behind token_byte 61 refl n v all)
      ∙ ap (parameter_of n) (content_value p.value value)

  present : absent (trim (piece_text p)) ≡ false
  present = ap absent trim-parameter ∙ some-name p.name (61 ∷ value_text p.value) name
    where
      some-name : (x y : Bytes) → token x ≡ true → absent (x ++ y) ≡ false
      some-name [] y t = absurd (false≢true t)
      some-name (b ∷ x) y t = refl

parameters_cons : (s : Bytes) (ss : List Bytes) → absent (trim s) ≡ false → parameters (s ∷ ss) ≡ join_parameter (parameter (trim s)) (parameters ss)
unfolding parameters
parameters_cons s [] f = rw (parameters, f)
parameters_cons s (t ∷ ss) f = refl

-- what a list of lawful parameters begins with
lawful_parts : (p : Written) (ps : List Written) → lawful_parameters (p ∷ ps) ≡ true → (token p.name ≡ true) × (lawful_value p.value ≡ true) × (lawful_parameters ps ≡ true)
unfolding lawful_parameters
lawful_parts p ps t =
    let a = and_parts (token p.name) (lawful_value p.value && lawful_parameters ps) t in
    let b = and_parts (lawful_value p.value) (lawful_parameters ps) a.1 in
    (a.0, b.0, b.1)

parameters_read : (ps : List Written) → lawful_parameters ps ≡ true → parameters (map piece_text ps) ≡ Some (map parameter_from ps)
unfolding parameters
parameters_read [] t = refl
parameters_read (p ∷ ps) t =
    let a = lawful_parts p ps t in
    parameters_cons (piece_text p) (map piece_text ps) (present p a.0 a.1) ∙ ap (λ (o : Option Parameter). join_parameter o (parameters (map piece_text ps))) (parameter-read p a.0 a.1)
    ∙ ap (join_parameter (Some (parameter_from p))) (parameters_read ps a.2)

pieces-written : (x : Bytes) (ps : List Written) → quiet outside x ≡ true → lawful_parameters ps ≡ true → pieces outside (x ++ written ps) ≡ x ∷ map piece_text ps
unfolding written
pieces-written x [] q t = ap (pieces outside) (append-nil x) ∙ quiet_last outside x q
pieces-written x (p ∷ ps) q t =
    let a = lawful_parts p ps t in
    quiet_piece outside x (piece_text p ++ written ps) q ∙ ap (λ (l : List Bytes). x ∷ l) (pieces-written (piece_text p) ps (quiet-parameter p a.0 a.1) a.2)

-- The type.
module _ (t s : Bytes) (type : token t ≡ true) (subtype : token s ≡ true) where
  quiet-type : quiet outside (t ++ 47 ∷ s) ≡ true
  unfolding quiet
  quiet-type = quiet-append outside t (47 ∷ s) (quiet-token t (token_all t type)) (quiet-token s (token_all s subtype))

  typed-is : (ss : List Bytes) → typed ((t ++ 47 ∷ s) ∷ ss) ≡ media_of t (parameters ss)
  typed-is ss =
      let x = t ++ 47 ∷ s in
      let all = token_all t type in
      let b = before-behind token_byte 47 refl t s all in
      let e = trim-token t (47 ∷ s) type (solid_append t (47 ∷ s) (solid_before 47 s (solid_token s subtype))) in
      let i : is_type x ≡ true =
      and_from (has 47 x) (token (before 47 x) && token (after 47 x)) (has-behind token_byte 47 refl t s all)
      (and_from (token (before 47 x)) (token (after 47 x)) (ap token b ∙ type) (ap token (after-behind token_byte 47 refl t s all) ∙ subtype)) in
      let j : is_type (trim x) ≡ true = ap is_type e ∙ i in
      let g : typed (x ∷ ss) ≡ media_of (before 47 (trim x)) (parameters ss) = rw (typed, j) in
      g ∙ ap (λ (m : Bytes). media_of m (parameters ss)) (ap (before 47) e ∙ b)

pub reads_back : ReadsBack
reads_back t s ps type subtype lawful =
    ap typed (pieces-written (t ++ 47 ∷ s) ps (quiet-type t s type subtype) lawful) ∙ typed-is t s type subtype (map piece_text ps) ∙ ap (media_of t) (parameters_read ps lawful)
