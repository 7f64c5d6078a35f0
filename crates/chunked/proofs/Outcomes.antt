-- What an end of the framing says of all the bytes below.
use Rattle.std.proofs.Common.{◌≡◌, ℕ, suc, ◌+◌, ◌≤◌, [], ◌∷◌, ◌++◌, length, take, sym, refl, ap, ◌∙◌, subst, append_assoc, append-nil, arith, length-append, Err}
use Rattle.std.proofs.lemmas.List.{length_push, take_at}
use Rattle.source.specs.declared.ends.End.{End}
use Rattle.source.specs.declared.ends.End.TheVariants.{Clean, Faulty}
use Rattle.byte_lines.specs.Bytes.{Bytes}
use Rattle.source.specs.Meanings.{fault}
use Rattle.chunked.specs.declared.places.Place.{Place}
use Rattle.chunked.specs.declared.places.Place.TheVariants.{Size, Data}
use Rattle.chunked.specs.Framing.{Step, Framed, framed, unframed, step, early, limit}
use Rattle.chunked.specs.Written.{written_line, written_chunks, Body, IsBody, written, CleanIsWritten, SizeFaultPlace, DataFaultPlace}
use Rattle.chunked.proofs.Automaton.{given, by_step, by_none}
use Rattle.chunked.proofs.ReadsWritten.{reads_what_is_written}
use Rattle.chunked.proofs.Stands.{Stands, Kept, Finished, Blamed, after, blamed_more, kept, stands-first}

-- of the end `x` over an end `below`: `whole` are all bytes, d those given and `left` those left
abbrev Outcome : (below x : End) (whole d left : Bytes) → Type 0
Outcome below Clean whole d left = (m : Body) × (IsBody m × ((whole ≡ written m ++ left) × (length (written m) ≤ limit)))
Outcome below (Faulty f) whole d left = below ≡ Clean → Blamed f whole d

-- a fault of another number says nothing
unblamed : (number place : ℕ) (w d : Bytes) → (number ≡ 21 → ⊥) → (number ≡ 23 → ⊥) → Blamed (fault number 2 place) w d
unblamed number place w d a b = record { size = λ e. absurd (a e); content = λ e. absurd (b e) }

ended-early : (at : ℕ) (e : End) (w d left : Bytes) → Outcome e (early at e) w d left
ended-early at Clean w d left = λ h. unblamed 24 at w d (λ e. omega arith) (λ e. omega arith)
ended-early at (Faulty f) w d left = λ h. absurd cc

after-given : (p : Place) (b : ℕ) (d x : Bytes) → after p b d ++ x ≡ d ++ (given p b ++ x)
after-given (Data (suc n)) b d x = append_assoc d (b ∷ []) x
after-given p b d x = refl

-- a byte that ends the framing gives nothing
after_end : (p : Place) (at b : ℕ) (d : Bytes) (x : End) → step p at b ≡ Err x → after p b d ≡ d ++ []
after_end (Data (suc n)) at b d x h = absurd cc
after_end p at b d x h = sym (append-nil d)

finishes : (e x : End) (w d s : Bytes) → length w ≤ limit → Finished x w d → Outcome e x (w ++ s) d s
finishes e Clean w d s n (m, (is, q)) = (m, (is, (ap (λ (y : Bytes). y ++ s) q, omega (arith, ap length q))))
finishes e (Faulty f) w d s n h = λ c. blamed_more s h

pub outcome : (p : Place) (at : ℕ) (s : Bytes) (e : End) (w d : Bytes) → at ≡ length w → Stands p w d
    → Outcome e (framed p at s e).ending (w ++ s) (d ++ (framed p at s e).bytes) (framed p at s e).left
outcome p at [] e w d n h =
    by_none (λ f. Outcome e f.ending (w ++ []) (d ++ f.bytes) f.left) p at e
    (λ l c. unblamed 26 limit (w ++ []) (d ++ []) (λ z. omega arith) (λ z. omega arith)) (λ l. ended-early at e (w ++ []) (d ++ []) [])
outcome p at (b ∷ s) e w d n h =
    let next = kept p at b w d n h in
    let place : at + 1 ≡ length (w ++ (b ∷ [])) = omega (arith, length_push w b) in
    let cut : (w ++ (b ∷ [])) ++ s ≡ w ++ (b ∷ s) = append_assoc w (b ∷ []) s in
    by_step (λ f. Outcome e f.ending (w ++ (b ∷ s)) (d ++ f.bytes) f.left) p at b s e
    (λ l c. unblamed 26 limit (w ++ (b ∷ s)) (d ++ []) (λ z. omega arith) (λ z. omega arith))
    (λ q l g.
    let f : Framed = framed q (at + 1) s e in
    let stands : Stands q (w ++ (b ∷ [])) (after p b d) = subst (λ (x : Step). Kept x (w ++ (b ∷ [])) (after p b d)) g next in
    let r = outcome q (at + 1) s e (w ++ (b ∷ [])) (after p b d) place stands in
    let moved = subst (λ (x : Bytes). Outcome e f.ending x (after p b d ++ f.bytes) f.left) cut r in
    subst (λ (x : Bytes). Outcome e f.ending (w ++ (b ∷ s)) x f.left) (after-given p b d f.bytes) moved)
    (λ x l g.
    let fin : Finished x (w ++ (b ∷ [])) (after p b d) = subst (λ (y : Step). Kept y (w ++ (b ∷ [])) (after p b d)) g next in
    let r = finishes e x (w ++ (b ∷ [])) (after p b d) s (omega arith) fin in
    let moved = subst (λ (y : Bytes). Outcome e x y (after p b d) s) cut r in
    subst (λ (y : Bytes). Outcome e x (w ++ (b ∷ s)) y s) (after_end p at b d x g) moved)

-- of all bytes, by the end that is told
outcome_of : (s : Bytes) (e x : End) → (unframed s e).ending ≡ x → Outcome e x s (unframed s e).bytes (unframed s e).left
outcome_of s e x h =
    subst (λ (y : End). Outcome e y s (unframed s e).bytes (unframed s e).left) h (outcome (Size 0 0 0) 0 s e [] [] refl stands-first)

pub clean_is_written : CleanIsWritten
clean_is_written s e h =
    let r = outcome_of s e Clean h in
    let left : Bytes = (unframed s e).left in
    (r.0, (r.1.0, (r.1.1.0, ap (λ (y : Bytes). unframed y e) r.1.1.0 ∙ reads_what_is_written r.0 r.1.0 r.1.1.1 left e)))

pub size_fault_place : SizeFaultPlace
size_fault_place s place h =
    let r = (outcome_of s Clean (Faulty (fault 21 2 place)) h refl).size refl in
    let b = r.1 in
    (b.chunks, (b.lawful, (ap (take place) b.is ∙ take_at (written_chunks b.chunks) r.0 place (sym b.place), b.bytes)))

pub data_fault_place : DataFaultPlace
data_fault_place s place h =
    let r = (outcome_of s Clean (Faulty (fault 23 2 place)) h refl).content refl in
    let text = r.0 in
    let a = r.1 in
    let b = a.behind in
    let front : Bytes = written_line a.last.line ++ a.last.content in
    let is : s ≡ (written_chunks b.chunks ++ front) ++ text = b.is ∙ sym (append_assoc (written_chunks b.chunks) front text) in
    let n : length (written_chunks b.chunks ++ front) ≡ place = omega (arith, a.count, ap length is, length-append (written_chunks b.chunks ++ front) text) in (
      b.chunks,
      (
        a.last,
        (
          b.lawful,
          (
            a.lawful,
            (ap (take place) is ∙ take_at (written_chunks b.chunks ++ front) text place n, a.bytes ∙ ap (λ (x : Bytes). x ++ a.last.content) b.bytes),
          ),
        ),
      ),
    )
