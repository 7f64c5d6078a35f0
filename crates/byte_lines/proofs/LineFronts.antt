-- The lines of a text, and those of what is put behind it.
use Rattle.std.proofs.Common.{◌≡◌, ℕ, ◌+◌, ◌<◌, suc, Bool, true, false, cond, ◌&&◌, eqb, ltb, List, [], ◌∷◌, ◌++◌, length, take, sym, refl, ap, subst, ◌∙◌, arith}
use mathlib.Core.Bool.{false≢true}
use Rattle.std.proofs.lemmas.Bool.{lt-ltb}
use Rattle.std.proofs.lemmas.List.{length-take-le}
use Rattle.byte_lines.specs.Bytes.{Bytes}
use Rattle.byte_lines.specs.Lines.{Line, AllEnded, onto, lines}
use Rattle.byte_lines.specs.Spans.{FirstLine}
use Rattle.byte_lines.proofs.LineLaws.{line}

onto-append : (b : ℕ) (ls ms : List Line) → AllEnded (onto b ls) → (AllEnded ls × (onto b (ls ++ ms) ≡ onto b ls ++ ms))
onto-append b [] ms a = absurd (false≢true a.0)
onto-append b (l ∷ ls) ms a = (a, refl)

-- where each line of p has its CRLF, what follows begins a line
pub lines-append : (p q : Bytes) → AllEnded (lines p) → lines (p ++ q) ≡ lines p ++ lines q
unfolding lines
lines-append [] q a = refl
lines-append (b ∷ []) q a = absurd (false≢true a.0)
lines-append (b ∷ c ∷ cs) q a = go (eqb c 10 && eqb b 13) a (lines-append cs q) (lines-append (c ∷ cs) q)
  where
    go : (t : Bool) → AllEnded (elim t [ true ↦ line [] true ∷ lines cs | false ↦ onto b (lines (c ∷ cs)) ])
        → (AllEnded (lines cs) → lines (cs ++ q) ≡ lines cs ++ lines q) → (AllEnded (lines (c ∷ cs)) → lines (c ∷ (cs ++ q)) ≡ lines (c ∷ cs) ++ lines q)
        → elim t [ true ↦ line [] true ∷ lines (cs ++ q) | false ↦ onto b (lines (c ∷ (cs ++ q))) ]
        ≡ elim t [ true ↦ line [] true ∷ lines cs | false ↦ onto b (lines (c ∷ cs)) ] ++ lines q
    go true a h k = ap (λ (r : List Line). line [] true ∷ r) (h a.1)
    go false a h k = let o = onto-append b (lines (c ∷ cs)) (lines q) a in ap (onto b) (k o.0) ∙ o.1

-- with its CRLF the first of these lines is one, whatever follows
abbrev Stays : (s q : Bytes) → List Line → Type 0
Stays s q [] = Unit {0}
Stays s q (l ∷ ls) = l.ended ≡ true → lines (take (suc (suc (length l.content))) s ++ q) ≡ line l.content true ∷ lines q

stays : (s q : Bytes) → Stays s q (lines s)
unfolding lines
stays [] q = tt
stays (b ∷ []) q = λ e. absurd (false≢true e)
stays (b ∷ c ∷ cs) q = go (eqb c 10 && eqb b 13) refl (stays (c ∷ cs) q)
  where
    over : (ls : List Line) → (eqb c 10 && eqb b 13) ≡ false → Stays (c ∷ cs) q ls → Stays (b ∷ (c ∷ cs)) q (onto b ls)
    over [] p h = λ e. absurd (false≢true e)
    over (l ∷ ls) p h = λ e. ap (λ (t : Bool). (elim t [ true ↦ line [] true ∷ lines (take (suc (length l.content)) cs ++ q) | false ↦ onto b (lines (c ∷ (take (suc (length l.content)) cs ++ q))) ])) p ∙ ap (onto b) (h e)

    go : (t : Bool) → (eqb c 10 && eqb b 13) ≡ t → Stays (c ∷ cs) q (lines (c ∷ cs)) → Stays (b ∷ (c ∷ cs)) q (elim t [ true ↦ line [] true ∷ lines cs | false ↦ onto b (lines (c ∷ cs)) ])
    go true p h = λ e. ap (λ (t : Bool). (elim t [ true ↦ line [] true ∷ lines q | false ↦ onto b (lines (c ∷ q)) ])) p
    go false p h = over (lines (c ∷ cs)) p h

-- a text's first line, where it has its CRLF, is one whatever follows
pub first-stays : (s : Bytes) (len width : ℕ) (q : Bytes) → FirstLine s len width → len < width → lines (take width s ++ q) ≡ line (take len s) true ∷ lines q
first-stays s len width q f lt =
    let t : ltb len width ≡ true = lt-ltb len width lt in
    let wide : width ≡ len + 2 = f.wide ∙ ap (λ (b : Bool). len + cond b 2 0) t in
    let n : length (take len s) ≡ len = length-take-le len s (omega (arith, f.within)) in
    let same : suc (suc (length (take len s))) ≡ width = omega arith in
    ap (λ (m : ℕ). lines (take m s ++ q)) (sym same)
    ∙ subst (Stays s q) (f.splits (omega (arith, f.within))) (stays s q) t
