-- A lawful body is read as it is written: one run for each stretch of it.
use Rattle.std.proofs.Common.{◌≡◌, ℕ, zero, suc, ◌+◌, ◌*◌, ◌<◌, ◌≤◌, Bool, true, false, not, ◌&&◌, ◌||◌, eqb, List, [], ◌∷◌, ◌++◌, length, Some, None, Option, sym, refl, ap, ◌∙◌, inl, inr, append_assoc, append-nil, arith, length-append, Ok}
use Rattle.std.specs.List.{AllByRecursion}
use Rattle.std.proofs.lemmas.Bool.{eqb-true, and_parts, or_cases, or_parts, not-true, lt-ltb, le-leb}
use Rattle.byte_lines.specs.Classes.{blank, hex}
use Rattle.source.specs.declared.ends.End.TheVariants.{Clean}
use Rattle.byte_lines.specs.Bytes.{Bytes}
use Rattle.chunked.specs.declared.places.Place.{Place}
use Rattle.chunked.specs.declared.places.Place.TheVariants.{Size, Extension, Data, Trailer, TrailerEmpty, TrailerText, TrailerEnd}
use Rattle.chunked.specs.Framing.{Step, unframed, step, in_size, behind_digits, digit, in_extension, chunk, largest}
use Rattle.chunked.specs.Written.{crlf, value_from, unbroken, is_extension, one_line, SizeLine, Says, written_line, Chunk, IsChunk, written_chunk, IsTrailer, Body, IsBody}
use Rattle.chunked.specs.Written.{written_chunks, written_trailer, written, contents, ReadsWhatIsWritten}
use Rattle.chunked.proofs.Automaton.{prepend, framed-ends}
use Rattle.chunked.proofs.Runs.{Run, none, more, Reaches, run_length, run_join, run_quiet, then, run_framed}

-- the first of some digits, and the value behind it
pub value_cons : (v b : ℕ) (ds : Bytes) (n : ℕ) → value_from v (b ∷ ds) ≡ Some n → (d : ℕ) × ((hex b ≡ Some d) × (value_from (v * 16 + d) ds ≡ Some n))
unfolding value_from
value_cons v b ds n h = go (hex b) refl h
  where
    go : (o : Option ℕ) → hex b ≡ o → elim o [ Some d ↦ value_from (v * 16 + d) ds | None ↦ None ] ≡ Some n
        → (d : ℕ) × ((hex b ≡ Some d) × (value_from (v * 16 + d) ds ≡ Some n))
    go (Some d) e h = (d, (e, h))
    go None e h = absurd cc

value_none : (v n : ℕ) → value_from v [] ≡ Some n → v ≡ n
unfolding value_from
value_none v n h = cc

-- a value only grows by more digits
value_grows : (v : ℕ) (ds : Bytes) (n : ℕ) → value_from v ds ≡ Some n → v ≤ n
value_grows v [] n h = omega (arith, value_none v n h)
value_grows v (b ∷ ds) n h =
    let c = value_cons v b ds n h in
    omega (arith, value_grows (v * 16 + c.0) ds n c.1.1)

step-digit : (line k v at b d : ℕ) → hex b ≡ Some d → k < 8 → v * 16 + d ≤ largest → step (Size line k v) at b ≡ Ok (Size line (k + 1) (v * 16 + d))
step-digit line k v at b d h few small =
    ap (in_size line k v b) h ∙ rw (in_size, digit, lt-ltb k 8 few, le-leb (v * 16 + d) largest small)

digits_run : (line : ℕ) (ds : Bytes) (k v n j at : ℕ) → value_from v ds ≡ Some n → k + length ds ≡ j → j ≤ 8 → n ≤ largest
    → Reaches (Size line k v) at ds (Size line j n) []
digits_run line [] k v n j at h c few small =
    let count : j ≡ k = omega arith in
    let value : n ≡ v = sym (value_none v n h) in
    rw (count, value) (at, none)
digits_run line (b ∷ ds) k v n j at h c few small =
    let x = value_cons v b ds n h in
    let r = digits_run line ds (k + 1) (v * 16 + x.0) n j (at + 1) x.1.1 (omega arith) few small in
    (r.0, more (step-digit line k v at b x.0 x.1.0 (omega arith) (omega (arith, value_grows (v * 16 + x.0) ds n x.1.1))) r.1)

extension_run : (line v : ℕ) (x : Bytes) (at : ℕ) → unbroken x ≡ true → Reaches (Extension line v) at (x ++ crlf) (chunk v) []
unfolding unbroken
extension_run line v [] at h = (at + 1 + 1, more refl (more refl none))
extension_run line v (b ∷ x) at h =
    let parts = and_parts (not (eqb b 13 || eqb b 10)) (unbroken x) h in
    let free = or_parts (eqb b 13) (eqb b 10) (not-true (eqb b 13 || eqb b 10) parts.0) in
    let goes : step (Extension line v) at b ≡ Ok (Extension line v) = rw (step, in_extension, free.0, free.1) in
    let r = extension_run line v x (at + 1) parts.1 in
    (r.0, more goes r.1)

-- neither `;` nor a blank is a digit or CR
begins_extension : (b : ℕ) → (eqb b 59 || blank b) ≡ true → (hex b ≡ None) × (eqb b 13 ≡ false)
begins_extension b h = elim (or_cases (eqb b 59) (blank b) h) [ inl y ↦ at 59 (eqb-true b 59 y) refl refl | inr y ↦ blanks y ]
  where
    at : (c : ℕ) → b ≡ c → hex c ≡ None → eqb c 13 ≡ false → (hex b ≡ None) × (eqb b 13 ≡ false)
    at c e h k = (ap hex e ∙ h, ap (λ (n : ℕ). eqb n 13) e ∙ k)

    blanks : blank b ≡ true → (hex b ≡ None) × (eqb b 13 ≡ false)
    blanks y = elim (or_cases (eqb b 32) (eqb b 9) y) [ inl z ↦ at 32 (eqb-true b 32 z) refl refl | inr z ↦ at 9 (eqb-true b 9 z) refl refl ]

-- behind at least one digit
behind_run : (line k v : ℕ) (x : Bytes) (at : ℕ) → 0 < k → is_extension x ≡ true → Reaches (Size line k v) at (x ++ crlf) (chunk v) []
behind_run line zero v x at some h = absurd (omega arith)
behind_run line (suc k) v [] at some h = (at + 1 + 1, more refl (more refl none))
behind_run line (suc k) v (b ∷ x) at some h =
    let parts = and_parts (eqb b 59 || blank b) (unbroken x) h in
    let begins = begins_extension b parts.0 in
    let goes : step (Size line (suc k) v) at b ≡ Ok (Extension line v)
    = ap (in_size line (suc k) v b) begins.0 ∙ rw (in_size, behind_digits, begins.1, parts.0) in
    let r = extension_run line v x (at + 1) parts.1 in
    (r.0, more goes r.1)

line_run : (line : ℕ) (l : SizeLine) (n at : ℕ) → Says l n → Reaches (Size line 0 0) at (written_line l) (chunk n) []
line_run line l n at says =
    then (digits_run line l.digits 0 0 n (length l.digits) at says.value (omega arith) says.few says.small)
    (λ mid. behind_run line (length l.digits) n l.extension mid says.some says.extends)

data_run : (c : Bytes) (at : ℕ) → Reaches (Data (length c)) at c (Data 0) c
data_run [] at = (at, none)
data_run (b ∷ c) at = let r = data_run c (at + 1) in (r.0, more refl r.1)

chunk_some : (n : ℕ) → 0 < n → chunk n ≡ Data n
chunk_some zero h = absurd (omega arith)
chunk_some (suc n) h = refl

chunk_run : (c : Chunk) (at : ℕ) → IsChunk c → (to : ℕ) × Run (Size at 0 0) at (written_chunk c) (Size to 0 0) to c.content
chunk_run c at is =
    let n = length c.content in
    let line : Reaches (Size at 0 0) at (written_line c.line) (Data n) [] = rw (chunk_some n is.some) at (line_run at c.line n at is.says) in
    let content = data_run c.content line.0 in
    let ends : Run (Data 0) content.0 crlf (Size (content.0 + 1 + 1) 0 0) (content.0 + 1 + 1) [] = more refl (more refl none) in
    (content.0 + 1 + 1, run_join line.1 (run_quiet content.1 ends))

chunks_run : (cs : List Chunk) (at : ℕ) → AllByRecursion IsChunk cs → (to : ℕ) × Run (Size at 0 0) at (written_chunks cs) (Size to 0 0) to (contents cs)
chunks_run [] at is = (at, none)
chunks_run (c ∷ cs) at is =
    let first = chunk_run c at is.0 in
    let others = chunks_run cs first.0 is.1 in
    (others.0, run_join first.1 others.1)

-- within a trailer line, behind a CR or not
abbrev behind : Bool → Place
behind true = TrailerEnd
behind false = TrailerText

abbrev held : Bool → Bytes → Bytes
held true t = 13 ∷ t
held false t = t

line_tail : (b : ℕ) (t : Bytes) → one_line (b ∷ t) ≡ true → one_line t ≡ true
unfolding one_line
line_tail b [] h = refl
line_tail b (c ∷ t) h = (and_parts (not (eqb b 13 && eqb c 10)) (one_line (c ∷ t)) h).1

-- behind a CR stands no LF
line_second : (c : ℕ) (t : Bytes) → one_line (13 ∷ (c ∷ t)) ≡ true → eqb c 10 ≡ false
unfolding one_line
line_second c t h = not-true (eqb c 10) (and_parts (not (eqb c 10)) (one_line (c ∷ t)) h).0

line-held : (b : ℕ) (t : Bytes) → one_line (b ∷ t) ≡ true → one_line (held (eqb b 13) t) ≡ true
line-held b t h = go (eqb b 13) refl
  where
    go : (c : Bool) → eqb b 13 ≡ c → one_line (held c t) ≡ true
    go true e = rw (eqb-true b 13 e) at h
    go false e = line_tail b t h

step_text : (at b : ℕ) → step TrailerText at b ≡ Ok (behind (eqb b 13))
step_text at b = go (eqb b 13)
  where
    go : (c : Bool) → ◌≡◌ {A = Step} (elim c [ true ↦ Ok TrailerEnd | false ↦ Ok TrailerText ]) (Ok (behind c))
    go true = refl
    go false = refl

step_end : (at b : ℕ) → eqb b 10 ≡ false → step TrailerEnd at b ≡ Ok (behind (eqb b 13))
step_end at b h = rw (step, h) (step_text at b)

step_empty : (at b : ℕ) → eqb b 10 ≡ false → step TrailerEmpty at b ≡ Ok (behind (eqb b 13))
step_empty at b h = rw (step, h) (step_text at b)

text_run : (cr : Bool) (t : Bytes) (at : ℕ) → one_line (held cr t) ≡ true → Reaches (behind cr) at (t ++ crlf) Trailer []
text_run true [] at h = (at + 1 + 1, more refl (more refl none))
text_run false [] at h = (at + 1 + 1, more refl (more refl none))
text_run true (b ∷ t) at h =
    let r = text_run (eqb b 13) t (at + 1) (line-held b t (line_tail 13 (b ∷ t) h)) in
    (r.0, more (step_end at b (line_second b t h)) r.1)
text_run false (b ∷ t) at h =
    let r = text_run (eqb b 13) t (at + 1) (line-held b t h) in
    (r.0, more (step_text at b) r.1)

-- behind a CR at a trailer line's start
empty_run : (t : Bytes) (at : ℕ) → one_line (13 ∷ t) ≡ true → Reaches TrailerEmpty at (t ++ crlf) Trailer []
empty_run [] at h = (at + 1 + 1, more refl (more refl none))
empty_run (b ∷ t) at h =
    let r = text_run (eqb b 13) t (at + 1) (line-held b t (line_tail 13 (b ∷ t) h)) in
    (r.0, more (step_empty at b (line_second b t h)) r.1)

trailer_line_run : (t : Bytes) (at : ℕ) → IsTrailer t → Reaches Trailer at (t ++ crlf) Trailer []
trailer_line_run [] at is = absurd (omega (arith, is.some))
trailer_line_run (b ∷ t) at is = go (eqb b 13) refl
  where
    go : (c : Bool) → eqb b 13 ≡ c → Reaches Trailer at (b ∷ (t ++ crlf)) Trailer []
    go true e =
        let goes : step Trailer at b ≡ Ok TrailerEmpty = rw (step, e) in
        let r = empty_run t (at + 1) (rw (eqb-true b 13 e) at is.line) in
        (r.0, more goes r.1)
    go false e =
        let goes : step Trailer at b ≡ Ok TrailerText = rw (step, e) in
        let r = text_run false t (at + 1) (line_tail b t is.line) in
        (r.0, more goes r.1)

trailer_run : (ts : List Bytes) (at : ℕ) → AllByRecursion IsTrailer ts → Reaches Trailer at (written_trailer ts) Trailer []
trailer_run [] at is = (at, none)
trailer_run (t ∷ ts) at is = then (trailer_line_run t at is.0) (λ mid. trailer_run ts mid is.1)

-- a body up to its last byte, LF
abbrev pub unclosed : Body → Bytes
unclosed m = written_chunks m.chunks ++ (written_line m.last ++ (written_trailer m.trailer ++ (13 ∷ [])))

pub closed : (m : Body) → written m ≡ unclosed m ++ (10 ∷ [])
closed m = simp append_assoc

body_run : (m : Body) → IsBody m → Reaches (Size 0 0 0) 0 (unclosed m) TrailerEmpty (contents m.chunks)
body_run m is =
    let cs = chunks_run m.chunks 0 is.chunks in
    let last : Reaches (Size cs.0 0 0) cs.0 (written_line m.last ++ (written_trailer m.trailer ++ (13 ∷ []))) TrailerEmpty []
    = then (line_run cs.0 m.last 0 cs.0 is.last) (λ mid. then (trailer_run m.trailer mid is.trailer) (λ to. (to + 1, more refl none))) in
    (last.0, run_quiet cs.1 last.1)

pub reads_what_is_written : ReadsWhatIsWritten
reads_what_is_written m is fits rest e =
    let r = body_run m is in
    let n : length (written m) ≡ r.0 + 1 = ap length (closed m) ∙ length-append (unclosed m) (10 ∷ []) ∙ omega (arith, run_length r.1) in
    let whole : written m ++ rest ≡ unclosed m ++ (10 ∷ rest) = ap (λ (x : Bytes). x ++ rest) (closed m) ∙ append_assoc (unclosed m) (10 ∷ []) rest in
    let ends = framed-ends TrailerEmpty r.0 10 rest e Clean (omega arith) refl in
    ap (λ (x : Bytes). unframed x e) whole ∙ run_framed r.1 (omega arith) (10 ∷ rest) e ∙ ap (prepend (contents m.chunks)) ends ∙ rw (n, append-nil)
