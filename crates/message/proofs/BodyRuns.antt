-- How far a raw body runs.
use Rattle.std.proofs.Common.{◌≡◌, Bool, true, false, cond, List, [], ◌∷◌, ◌++◌, sym, refl, ap, ◌∙◌, append_assoc}
use Rattle.std.specs.List.{flat_map}
use Rattle.std.proofs.lemmas.List.{append-nil}
use Rattle.byte_lines.specs.Bytes.{Bytes}
use Rattle.byte_lines.specs.Lines.{Line, AllEnded, line_bytes, crlf}
use Rattle.message.specs.Groups.{Group, role, fits}
use Rattle.message.specs.Bodies.{body_from}
use Rattle.message.specs.BodyLaws.{NoneFits, last_break, BodyToTheEnd, BodyToALine}

-- the CRLF that is held back, if one is
abbrev pub held_bytes : Bool → Bytes
held_bytes held = cond held crlf []

pub body_from_text : (gs : List Group) (held : Bool) (l : Line) (ls : List Line) → fits (role gs l.content) ≡ false
    → body_from gs held (l ∷ ls) ≡ held_bytes held ++ (l.content ++ body_from gs l.ended ls)
unfolding body_from
body_from_text gs held l ls h = rw (h, body_from)

pub body_from-fits : (gs : List Group) (held : Bool) (l : Line) (ls : List Line) → fits (role gs l.content) ≡ true → body_from gs held (l ∷ ls) ≡ []
unfolding body_from
body_from-fits gs held l ls h = rw (h, body_from)

all_from : (gs : List Group) (held : Bool) (ls : List Line) → NoneFits gs ls → body_from gs held ls ≡ held_bytes held ++ flat_map line_bytes ls
unfolding body_from
all_from gs held [] h = sym (append-nil (held_bytes held))
all_from gs held (l ∷ ls) h =
    body_from_text gs held l ls h.0
    ∙ ap (λ (r : Bytes). held_bytes held ++ (l.content ++ r)) (all_from gs l.ended ls h.1)
    ∙ ap (λ (r : Bytes). held_bytes held ++ r) (sym (append_assoc l.content (held_bytes l.ended) (flat_map line_bytes ls)))

pub body_to_the_end : BodyToTheEnd
body_to_the_end gs ls h = all_from gs false ls h

-- with a CRLF held back or some line before, the CRLF before the line that ends the body is left over
up_to : (gs : List Group) (held : Bool) (ls : List Line) (l : Line) (rest : List Line) → NoneFits gs ls → AllEnded ls → fits (role gs l.content) ≡ true
    → (b : Bytes) → b ≡ elim ls [ [] ↦ held_bytes held | x ∷ xs ↦ crlf ] → body_from gs held (ls ++ (l ∷ rest)) ++ b ≡ held_bytes held ++ flat_map line_bytes ls
up_to gs held [] l rest none ended f b e = ap (λ (r : Bytes). r ++ b) (body_from-fits gs held l rest f) ∙ e ∙ sym (append-nil (held_bytes held))
up_to gs held (m ∷ ls) l rest none ended f b e =
    let inner : body_from gs m.ended (ls ++ (l ∷ rest)) ++ b ≡ held_bytes m.ended ++ flat_map line_bytes ls =
    up_to gs m.ended ls l rest none.1 ended.1 f b (e ∙ same ls) in
    ap (λ (r : Bytes). r ++ b) (body_from_text gs held m (ls ++ (l ∷ rest)) none.0)
    ∙ append_assoc (held_bytes held) (m.content ++ body_from gs m.ended (ls ++ (l ∷ rest))) b
    ∙ ap (λ (r : Bytes). held_bytes held ++ r) (append_assoc m.content (body_from gs m.ended (ls ++ (l ∷ rest))) b)
    ∙ ap (λ (r : Bytes). held_bytes held ++ (m.content ++ r)) inner
    ∙ ap (λ (r : Bytes). held_bytes held ++ r) (sym (append_assoc m.content (held_bytes m.ended) (flat_map line_bytes ls)))
  where
    same : (xs : List Line) → crlf ≡ elim xs [ [] ↦ held_bytes m.ended | x ∷ ys ↦ crlf ]
    same [] = ap held_bytes (sym ended.0)
    same (x ∷ xs) = refl

pub body_to_a_line : BodyToALine
body_to_a_line gs ls l rest none ended f = up_to gs false ls l rest none ended f (last_break ls) (same ls)
  where
    same : (xs : List Line) → last_break xs ≡ elim xs [ [] ↦ [] | x ∷ ys ↦ crlf ]
    same [] = refl
    same (x ∷ xs) = refl
