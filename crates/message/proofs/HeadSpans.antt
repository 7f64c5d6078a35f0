-- The head at the start of a text, found by going from line to line.
use Rattle.std.proofs.Common.{◌≡◌, ℕ, zero, suc, ◌+◌, ◌<◌, ◌≤◌, Bool, true, false, ◌&&◌, eqb, ltb, List, [], ◌∷◌, ◌++◌, length, take, drop, sym, refl, ap, ◌∙◌, subst, append_assoc, arith, length-append, take-add}
use mathlib.Core.Bool.{false≢true}
use Rattle.std.proofs.lemmas.List.{append-nil, drop-drop, take_all, drop_all, take-append-drop, length-drop, length-take-le}
use Rattle.std.proofs.lemmas.Bool.{lt-ltb}
use Rattle.byte_lines.specs.Bytes.{Bytes}
use Rattle.std.specs.List.{flat_map}
use Rattle.byte_lines.specs.Lines.{Line, AllEnded, line_bytes, width, onto, lines}
use Rattle.byte_lines.proofs.LineFronts.{lines-append}
use Rattle.byte_lines.proofs.LineLaws.{first, first-onto, joined-lines}
use Rattle.head.specs.Fields.{is_field, continues}
use Rattle.head.specs.LineFaults.{Verdict, faulty, judged, unclean}
use Rattle.head.specs.Media.{absent}
use Rattle.message.specs.Groups.{Group, role, text, inside, fits}
use Rattle.message.specs.Heads.{Head, at_line, at_empty, at_end, and_line, head}
use Rattle.message.specs.HeadWalks.{behind, Walked, WholeLine, Fails}
use Rattle.message.proofs.HeadLines.{head-fits, head-empty, head_more}
use Rattle.message.proofs.Stretching.{length-line}

abbrev pub line : Bytes → Bool → Line
line s t = record { content = s; ended = t }

behind-line : (ls : List Line) (l : Line) (h : Head) → behind ls (and_line l h) ≡ behind (ls ++ (l ∷ [])) h
behind-line ls l h = ap (λ (m : List Line). record { lines = m; stop = h.stop; from = h.from; rest = h.rest }) (sym (append_assoc ls (l ∷ []) h.lines))

pub walked_start : (gs : List Group) (at : ℕ) (s : Bytes) → Walked gs at s 0
unfolding lines
walked_start gs at s = record { within = omega arith; ended = tt; same = ap (λ (n : ℕ). head gs n (lines s)) {y = at + 0} (omega arith) }

ended-more : (ls : List Line) (l : Line) → AllEnded ls → l.ended ≡ true → AllEnded (ls ++ (l ∷ []))
ended-more [] l a e = (e, tt)
ended-more (m ∷ ls) l a e = (a.0, ended-more ls l a.1 e)

pub whole-first : (s : Bytes) (k len : ℕ) → WholeLine s k len → lines (drop k s) ≡ line (take len (drop k s)) true ∷ lines (drop (k + (len + 2)) s)
whole-first s k len w =
    ap lines (sym (take-append-drop (len + 2) (drop k s)))
    ∙ w.stays (drop (len + 2) (drop k s))
    ∙ ap (λ (t : Bytes). line (take len (drop k s)) true ∷ lines t) (drop-drop (len + 2) k s)

pub whole-alone : (s : Bytes) (k len : ℕ) → WholeLine s k len → lines (take (len + 2) (drop k s)) ≡ line (take len (drop k s)) true ∷ []
unfolding lines
whole-alone s k len w = ap lines (sym (append-nil (take (len + 2) (drop k s)))) ∙ w.stays []

-- one line more
pub walked_line : (gs : List Group) (at : ℕ) (s : Bytes) (k len : ℕ) → Walked gs at s k → WholeLine s k len → fits (role gs (take len (drop k s))) ≡ false
    → absent (take len (drop k s)) ≡ false → Walked gs at s (k + (len + 2))
walked_line gs at s k len w l f a =
    let c = take len (drop k s) in
    let more : lines (take (k + (len + 2)) s) ≡ lines (take k s) ++ (line c true ∷ []) =
    ap lines (take-add k (len + 2) s) ∙ lines-append (take k s) (take (len + 2) (drop k s)) w.ended ∙ ap (λ (ls : List Line). lines (take k s) ++ ls) (whole-alone s k len l) in
    record {
      within = l.within;
      ended = subst AllEnded (sym more) (ended-more (lines (take k s)) (line c true) w.ended refl);
      same =
          w.same
          ∙ ap (λ (ls : List Line). behind (lines (take k s)) (head gs (at + k) ls)) (whole-first s k len l)
          ∙ ap (behind (lines (take k s))) (head_more gs (at + k) (line c true) (lines (drop (k + (len + 2)) s)) f a)
          ∙ behind-line (lines (take k s)) (line c true) (head gs (at + k + width (line c true)) (lines (drop (k + (len + 2)) s)))
          ∙ ap (λ (n : ℕ). behind (lines (take k s) ++ (line c true ∷ [])) (head gs n (lines (drop (k + (len + 2)) s)))) (omega (arith, l.counts))
          ∙ ap (λ (ls : List Line). behind ls (head gs (at + (k + (len + 2))) (lines (drop (k + (len + 2)) s)))) (sym more);
    }

-- What ends the head behind k bytes.

role-none : (gs : List Group) → role gs [] ≡ text
unfolding role
role-none [] = refl
role-none (g ∷ gs) = ap (inside g) (role-none gs)

module _ (gs : List Group) (at : ℕ) (s : Bytes) (k : ℕ) (w : Walked gs at s k) where
  -- a line that fits an open group
  pub stops-at-line : fits (role gs (first (lines (drop k s)))) ≡ true
      → head gs at (lines s) ≡ record { lines = lines (take k s); stop = at_line; from = at + k; rest = lines (drop k s) }
  stops-at-line f = go (lines (drop k s)) refl f
    where
      go : (ls : List Line) → lines (drop k s) ≡ ls → fits (role gs (first ls)) ≡ true
          → head gs at (lines s) ≡ record { lines = lines (take k s); stop = at_line; from = at + k; rest = lines (drop k s) }
      go [] e f = absurd (false≢true (ap fits (sym (role-none gs)) ∙ f))
      go (l ∷ ls) e f =
          w.same
          ∙ ap (λ (m : List Line). behind (lines (take k s)) (head gs (at + k) m)) e
          ∙ ap (behind (lines (take k s))) (head-fits gs (at + k) l ls f)
          ∙ ap (λ (m : List Line). record { lines = m; stop = at_line; from = at + k; rest = l ∷ ls }) (append-nil (lines (take k s)))
          ∙ ap (λ (m : List Line). record { lines = lines (take k s); stop = at_line; from = at + k; rest = m }) (sym e)

  -- an empty line
  pub stops-at-empty : WholeLine s k 0 → head gs at (lines s) ≡ record { lines = lines (take k s); stop = at_empty; from = at + (k + 2); rest = lines (drop (k + 2) s) }
  stops-at-empty e =
      w.same
      ∙ ap (λ (m : List Line). behind (lines (take k s)) (head gs (at + k) m)) (whole-first s k 0 e)
      ∙ ap (behind (lines (take k s))) (head-empty gs (at + k) (line [] true) (lines (drop (k + 2) s)) (ap fits (role-none gs)) refl)
      ∙ ap (λ (m : List Line). record { lines = m; stop = at_empty; from = at + k + 2; rest = lines (drop (k + 2) s) }) (append-nil (lines (take k s)))
      ∙ ap (λ (n : ℕ). record { lines = lines (take k s); stop = at_empty; from = n; rest = lines (drop (k + 2) s) }) {y = at + (k + 2)} (omega arith)

  -- the input's end, behind whole lines
  pub stops-at-end : length s ≡ k → head gs at (lines s) ≡ record { lines = lines s; stop = at_end; from = at + length s; rest = [] }
  unfolding lines head
  stops-at-end e =
      let all : take k s ≡ s = take_all k s (omega arith) in
      let none : drop k s ≡ [] = drop_all k s (omega arith) in
      w.same
      ∙ ap (λ (t : Bytes). behind (lines (take k s)) (head gs (at + k) (lines t))) none
      ∙ ap (λ (m : List Line). record { lines = m; stop = at_end; from = at + k; rest = [] }) (append-nil (lines (take k s)))
      ∙ ap (λ (t : Bytes). record { lines = lines t; stop = at_end; from = at + k; rest = [] }) all
      ∙ ap (λ (n : ℕ). record { lines = lines s; stop = at_end; from = at + n; rest = [] }) (sym e)

  -- the input's end, behind a line without CRLF that does not fit
  pub stops-in-line : lines (drop k s) ≡ line (drop k s) false ∷ [] → fits (role gs (drop k s)) ≡ false → absent (drop k s) ≡ false
      → head gs at (lines s) ≡ record { lines = lines s; stop = at_end; from = at + length s; rest = [] }
  unfolding head
  stops-in-line e f a =
      let t = drop k s in
      let l = line t false in
      let all : lines s ≡ lines (take k s) ++ (l ∷ []) =
      ap lines (sym (take-append-drop k s)) ∙ lines-append (take k s) t w.ended ∙ ap (λ (m : List Line). lines (take k s) ++ m) e in
      w.same
      ∙ ap (λ (m : List Line). behind (lines (take k s)) (head gs (at + k) m)) e
      ∙ ap (behind (lines (take k s))) (head_more gs (at + k) l [] f a)
      ∙ ap (λ (m : List Line). record { lines = m; stop = at_end; from = at + k + width l; rest = [] }) (sym all)
      ∙ ap (λ (n : ℕ). record { lines = lines s; stop = at_end; from = n; rest = [] }) {y = at + length s} (omega (arith, length-drop k s, w.within))

-- A head that is too long: the line that takes it past 8,192 bytes decides, however much of that line is looked at.

unfoldable pub widths : List Line → ℕ
widths [] = 0
widths (l ∷ ls) = width l + widths ls

widths-joined : (ls : List Line) → widths ls ≡ length (flat_map line_bytes ls)
unfolding widths
widths-joined [] = refl
widths-joined (l ∷ ls) = omega (arith, length-line l, widths-joined ls, length-append (line_bytes l) (flat_map line_bytes ls))

pub widths-lines : (s : Bytes) → widths (lines s) ≡ length s
widths-lines s = widths-joined (lines s) ∙ ap length (joined-lines s)

-- the verdict on a line, and behind a field or a continuation that on the lines that follow
abbrev verdict_by : (long bad is_named room goes : Bool) (size : ℕ) → (field continuation : Verdict) → Verdict
verdict_by a b c d e size x y =
    elim a [
      | true ↦ faulty 41 size
      | false ↦ elim b [
        | true ↦ faulty 42 size
        | false ↦ elim c [ true ↦ elim d [ true ↦ x | false ↦ faulty 43 size ] | false ↦ elim e [ true ↦ y | false ↦ faulty 42 size ] ]
      ]
    ]

judged-after : (size n : ℕ) (x : Line) (r r' : List Line) → ((m : ℕ) → judged (size + width x) m r ≡ judged (size + width x) m r') → judged size n (x ∷ r) ≡ judged size n (x ∷ r')
unfolding judged
judged-after size n x r r' h = go (ltb 8192 (size + width x)) (unclean x.content) (is_field x.content) (ltb n 64) (continues x.content && ltb 0 n)
  where
    go : (a b c d e : Bool)
        → verdict_by a b c d e size (judged (size + width x) (n + 1) r) (judged (size + width x) n r)
        ≡ verdict_by a b c d e size (judged (size + width x) (n + 1) r') (judged (size + width x) n r')
    go true b c d e = refl
    go false true c d e = refl
    go false false true true e = h (n + 1)
    go false false true false e = refl
    go false false false d true = h n
    go false false false d false = refl

judged-past : (size n : ℕ) (l : Line) (r : List Line) → 8192 < size + width l → judged size n (l ∷ r) ≡ faulty 41 size
unfolding judged
judged-past size n l r h = rw (lt-ltb 8192 (size + width l) h, judged)

-- the line l, or another one l' in its place, takes the head past its limit
pub judged-over : (size n : ℕ) (ls : List Line) (l l' : Line) (r r' : List Line) → 8192 < size + widths ls + width l → 8192 < size + widths ls + width l'
    → judged size n (ls ++ (l ∷ r)) ≡ judged size n (ls ++ (l' ∷ r'))
unfolding widths
judged-over size n [] l l' r r' h k = judged-past size n l r (omega arith) ∙ sym (judged-past size n l' r' (omega arith))
judged-over size n (x ∷ ls) l l' r r' h k =
    judged-after size n x (ls ++ (l ∷ r)) (ls ++ (l' ∷ r')) (λ m. judged-over (size + width x) m ls l l' r r' (omega arith) (omega arith))

fails-after : (size n : ℕ) (x : Line) (r : List Line) → ((m : ℕ) → Fails (judged (size + width x) m r)) → Fails (judged size n (x ∷ r))
unfolding judged
fails-after size n x r h = go (ltb 8192 (size + width x)) (unclean x.content) (is_field x.content) (ltb n 64) (continues x.content && ltb 0 n)
  where
    go : (a b c d e : Bool)
        → Fails (verdict_by a b c d e size (judged (size + width x) (n + 1) r) (judged (size + width x) n r))
    go true b c d e = tt
    go false true c d e = tt
    go false false true true e = h (n + 1)
    go false false true false e = tt
    go false false false d true = h n
    go false false false d false = tt

pub over-fails : (size n : ℕ) (ls : List Line) (l : Line) (r : List Line) → 8192 < size + widths ls + width l → Fails (judged size n (ls ++ (l ∷ r)))
unfolding widths
over-fails size n [] l r h = subst Fails (sym (judged-past size n l r (omega arith))) tt
over-fails size n (x ∷ ls) l r h = fails-after size n x (ls ++ (l ∷ r)) (λ m. over-fails (size + width x) m ls l r (omega arith))

-- a line of which m bytes were looked at, and no CRLF found in them, has at least as many
onto_open : (b : ℕ) (x : Bytes) (ls : List Line) → 0 < length x → onto b ls ≡ line (b ∷ x) false ∷ [] → ls ≡ line x false ∷ []
onto_open b x [] h e = absurd (omega (arith, ap (λ (m : List Line). length (first m)) e))
onto_open b x (l ∷ ls) h e =
    let front : b ∷ l.content ≡ b ∷ x = ap first e in
    let c : l.content ≡ x = cc in
    let d : l.ended ≡ false = ap ended e in
    let r : ls ≡ [] = ap others e in
    ap (λ (y : Bytes). line y l.ended ∷ ls) c ∙ ap (λ (y : Bool). line x y ∷ ls) d ∙ ap (λ (y : List Line). line x false ∷ y) r
  where
    ended : List Line → Bool
    ended [] = false
    ended (m ∷ ms) = m.ended

    others : List Line → List Line
    others [] = []
    others (m ∷ ms) = ms

pub long_line : (t : Bytes) (m : ℕ) → 0 < m → m ≤ length t → lines (take m t) ≡ line (take m t) false ∷ [] → (l : Line) × (r : List Line) × (lines t ≡ l ∷ r) × (m ≤ width l)
unfolding lines
long_line [] m h k e = absurd (omega arith)
long_line (b ∷ []) m h k e = (line (b ∷ []) false, [], refl, omega arith)
long_line (b ∷ c ∷ cs) zero h k e = absurd (omega arith)
long_line (b ∷ c ∷ cs) (suc zero) h k e = go (eqb c 10 && eqb b 13) (lines (c ∷ cs))
  where
    grow : (ls : List Line) → (l : Line) × (r : List Line) × (onto b ls ≡ l ∷ r) × (1 ≤ width l)
    grow [] = (line (b ∷ []) false, [], refl, omega arith)
    grow (l ∷ ls) = (line (b ∷ l.content) l.ended, ls, refl, omega arith)

    go : (t : Bool) (ls : List Line) → (l : Line) × (r : List Line) × (elim t [ true ↦ record { content = []; ended = true } ∷ lines cs | false ↦ onto b ls ] ≡ l ∷ r) × (1 ≤ width l)
    go true ls = (line [] true, lines cs, refl, omega arith)
    go false ls = grow ls
long_line (b ∷ c ∷ cs) (suc (suc m)) h k e = go (eqb c 10 && eqb b 13) e (long_line (c ∷ cs) (suc m) (omega arith) (omega arith))
  where
    grow : (ls : List Line) → ((l : Line) × (r : List Line) × (ls ≡ l ∷ r) × (suc m ≤ width l)) → (l : Line) × (r : List Line) × (onto b ls ≡ l ∷ r) × (suc (suc m) ≤ width l)
    grow ls (l, r, p, w) = (line (b ∷ l.content) l.ended, r, ap (onto b) p, omega (arith, w))

    go : (t : Bool) → elim t [ true ↦ record { content = []; ended = true } ∷ lines (take m cs) | false ↦ onto b (lines (c ∷ take m cs)) ] ≡ line (b ∷ (c ∷ take m cs)) false ∷ []
        → (lines (c ∷ take m cs) ≡ line (c ∷ take m cs) false ∷ [] → (l : Line) × (r : List Line) × (lines (c ∷ cs) ≡ l ∷ r) × (suc m ≤ width l))
        → (l : Line) × (r : List Line) × (elim t [ true ↦ record { content = []; ended = true } ∷ lines cs | false ↦ onto b (lines (c ∷ cs)) ] ≡ l ∷ r) × (suc (suc m) ≤ width l)
    go true e ih = absurd (false≢true (sym (ap flag e)))
      where
        flag : List Line → Bool
        flag [] = false
        flag (l ∷ ls) = l.ended
    go false e ih = grow (lines (c ∷ cs)) (ih (onto_open b (c ∷ take m cs) (lines (c ∷ take m cs)) (omega arith) e))

-- and it is not empty, where two were
pub long_some : (t : Bytes) (m : ℕ) → 1 < m → m ≤ length t → lines (take m t) ≡ line (take m t) false ∷ [] → absent (first (lines t)) ≡ false
unfolding lines
long_some [] m h k e = absurd (omega arith)
long_some (b ∷ []) m h k e = absurd (omega arith)
long_some (b ∷ c ∷ cs) zero h k e = absurd (omega arith)
long_some (b ∷ c ∷ cs) (suc zero) h k e = absurd (omega arith)
long_some (b ∷ c ∷ cs) (suc (suc m)) h k e = go (eqb c 10 && eqb b 13) e
  where
    flag : List Line → Bool
    flag [] = false
    flag (l ∷ ls) = l.ended

    go : (t : Bool) → elim t [ true ↦ record { content = []; ended = true } ∷ lines (take m cs) | false ↦ onto b (lines (c ∷ take m cs)) ] ≡ line (b ∷ (c ∷ take m cs)) false ∷ []
        → absent (first (elim t [ true ↦ record { content = []; ended = true } ∷ lines cs | false ↦ onto b (lines (c ∷ cs)) ])) ≡ false
    go true e = absurd (false≢true (sym (ap flag e)))
    go false e = ap absent (first-onto b (lines (c ∷ cs)))

-- a line without CRLF is the whole text
pub open_last : (w c : Bytes) (r : List Line) → lines w ≡ line c false ∷ r → lines w ≡ line w false ∷ []
unfolding lines widths
open_last [] c r e = absurd (omega (arith, ap length e))
open_last (b ∷ []) c r e = refl
open_last (b ∷ d ∷ ds) c r e = go (eqb d 10 && eqb b 13) e (open_last (d ∷ ds))
  where
    flag : List Line → Bool
    flag [] = false
    flag (l ∷ ls) = l.ended

    inner : (ls : List Line) → onto b ls ≡ line c false ∷ r → ((c₁ : Bytes) (r₁ : List Line) → ls ≡ line c₁ false ∷ r₁ → ls ≡ line (d ∷ ds) false ∷ []) → lines (d ∷ ds) ≡ ls
        → onto b ls ≡ line (b ∷ (d ∷ ds)) false ∷ []
    inner [] e k p = absurd (omega (arith, widths-lines (d ∷ ds), ap widths p))
    inner (l ∷ ls) e k p =
        let f : l.ended ≡ false = ap flag e in
        ap (onto b) (k l.content ls (ap (λ (x : Bool). line l.content x ∷ ls) f))

    go : (t : Bool) → elim t [ true ↦ record { content = []; ended = true } ∷ lines ds | false ↦ onto b (lines (d ∷ ds)) ] ≡ line c false ∷ r
        → ((c₁ : Bytes) (r₁ : List Line) → lines (d ∷ ds) ≡ line c₁ false ∷ r₁ → lines (d ∷ ds) ≡ line (d ∷ ds) false ∷ [])
        → elim t [ true ↦ record { content = []; ended = true } ∷ lines ds | false ↦ onto b (lines (d ∷ ds)) ] ≡ line (b ∷ (d ∷ ds)) false ∷ []
    go true e k = absurd (false≢true (sym (ap flag e)))
    go false e k = inner (lines (d ∷ ds)) e k refl

-- the verdict on a head is that on its first bytes, where a line that they end with takes it past its limit
pub head-over : (gs : List Group) (at : ℕ) (s : Bytes) (k n : ℕ) (l l' : Line) (r : List Line) → Walked gs at s k
    → lines (drop k s) ≡ l ∷ r → fits (role gs l.content) ≡ false → absent l.content ≡ false → 8192 < k + width l
    → lines (take n (drop k s)) ≡ l' ∷ [] → 8192 < k + width l'
    → (judged 0 0 (head gs at (lines s)).lines ≡ judged 0 0 (lines (take (k + n) s))) × Fails (judged 0 0 (lines (take (k + n) s)))
head-over gs at s k n l l' r w e f a h e' h' =
    let rest : List Line = (head gs (at + k + width l) r).lines in
    let size : widths (lines (take k s)) ≡ k = widths-lines (take k s) ∙ length-take-le k s w.within in
    let here : (head gs at (lines s)).lines ≡ lines (take k s) ++ (l ∷ rest) =
    ap (λ (x : Head). x.lines) w.same
    ∙ ap (λ (m : List Line). lines (take k s) ++ (head gs (at + k) m).lines) e
    ∙ ap (λ (x : Head). lines (take k s) ++ x.lines) (head_more gs (at + k) l r f a) in
    let there : lines (take (k + n) s) ≡ lines (take k s) ++ (l' ∷ []) =
    ap lines (take-add k n s) ∙ lines-append (take k s) (take n (drop k s)) w.ended ∙ ap (λ (m : List Line). lines (take k s) ++ m) e' in (
      ap (judged 0 0) here ∙ judged-over 0 0 (lines (take k s)) l l' rest [] (omega arith) (omega arith) ∙ ap (judged 0 0) (sym there),
      subst (λ (m : List Line). Fails (judged 0 0 m)) (sym there) (over-fails 0 0 (lines (take k s)) l' [] (omega arith)),
    )
