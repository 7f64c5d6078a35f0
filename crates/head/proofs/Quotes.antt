-- Quoted strings, and the pieces between ';'.
use Rattle.std.proofs.Common.{◌≡◌, ℕ, zero, suc, ◌+◌, ◌-◌, ◌<◌, ◌≤◌, Bool, true, false, eqb, [], ◌∷◌, length, get_or, take, drop, Some, None, Option, sym, refl, ap, ◌∙◌, arith, length-drop}
use Rattle.std.proofs.lemmas.List.{drop_more, drop_all}
use Rattle.std.proofs.lemmas.Bool.{eq-eqb, ne_eqb, false≢true}
use Rattle.std.proofs.lemmas.Bool.Decides.{eqb_tells}
use Rattle.byte_lines.specs.Bytes.{Bytes}
use Rattle.head.proofs.TextScans.{by_test}
use Rattle.head.specs.Media.{also, quoted_content, Quote, outside, quote_after, onto_piece, pieces, absent}
use Rattle.head.specs.MediaReads.{closes, ends_piece, piece_length}

-- a text without its last byte
abbrev pub front : Bytes → Bytes
front [] = []
front (b ∷ []) = []
front (b ∷ c ∷ cs) = b ∷ front (c ∷ cs)

front-take : (s : Bytes) (k : ℕ) → suc k ≡ length s → front s ≡ take k s
front-take [] k e = absurd (omega arith)
front-take (b ∷ []) zero e = refl
front-take (b ∷ []) (suc k) e = absurd (omega arith)
front-take (b ∷ c ∷ cs) zero e = absurd (omega arith)
front-take (b ∷ c ∷ cs) (suc k) e = ap (λ (t : Bytes). b ∷ t) (front-take (c ∷ cs) k (omega arith))

abbrev pub when_closed : Bool → Bytes → Option Bytes
when_closed true s = Some (front s)
when_closed false s = None

also-closed : (b c : ℕ) (s : Bytes) (t : Bool) → t ≡ closes s false → also b (also c (when_closed t s)) ≡ when_closed t (b ∷ c ∷ s)
unfolding closes
also-closed b c [] true e = absurd (false≢true (sym e))
also-closed b c (d ∷ ds) true e = refl
also-closed b c [] false e = refl
also-closed b c (d ∷ ds) false e = refl

also_open : (b c : ℕ) (s : Bytes) (t : Bool) → also b (when_closed t (c ∷ s)) ≡ when_closed t (b ∷ c ∷ s)
also_open b c s true = refl
also_open b c s false = refl

-- the content of a quoted string is all but its last byte
pub quoted_is : (s : Bytes) → quoted_content s ≡ when_closed (closes s false) s
unfolding quoted_content closes
quoted_is [] = refl
quoted_is (b ∷ []) = by_test (eqb b 34) (λ e. rw (quoted_content, closes, e)) (λ e. rw (quoted_content, closes, e))
quoted_is (b ∷ c ∷ cs) =
    by_test (eqb b 34) (λ e. rw (quoted_content, closes, e))
    (λ e. by_test (eqb b 92)
    (λ p. rw (quoted_content, closes, e, p) (ap (λ o. also b (also c o)) (quoted_is cs) ∙ also-closed b c cs (closes cs false) refl))
    (λ p. rw (quoted_content, closes, e, p) (ap (also b) (quoted_is (c ∷ cs)) ∙ also_open b c cs (closes (c ∷ cs) false))))

pub quoted-closed : (s : Bytes) → 0 < length s → closes s false ≡ true → quoted_content s ≡ Some (take (length s - 1) s)
quoted-closed s h t =
    quoted_is s ∙ ap (λ (b : Bool). when_closed b s) t ∙ ap (λ (f : Bytes). Some f) (front-take s (length s - 1) (omega arith))

pub quoted-broken : (s : Bytes) → closes s false ≡ false → quoted_content s ≡ None
quoted-broken s f = quoted_is s ∙ ap (λ (b : Bool). when_closed b s) f

pub closes_some : (s : Bytes) → closes s false ≡ true → 0 < length s
unfolding closes
closes_some [] t = absurd (false≢true t)
closes_some (b ∷ bs) t = omega arith

-- one byte on
pub closes_protected : (s : Bytes) (i : ℕ) → i < length s → closes (drop (i + 1) s) false ≡ closes (drop i s) true
unfolding closes
closes_protected s i h = sym (ap (λ (t : Bytes). closes t true) (drop_more s i 0 h))

pub closes-more : (s : Bytes) (i : ℕ) → i < length s → (get_or s i 0 ≡ 34 → ⊥) → closes (drop (i + 1) s) (eqb (get_or s i 0) 92) ≡ closes (drop i s) false
unfolding closes
closes-more s i h n =
    let f = ne_eqb (get_or s i 0) 34 n in
    let e = ap (λ (t : Bytes). closes t false) (drop_more s i 0 h) in
    let g : closes (get_or s i 0 ∷ drop (i + 1) s) false ≡ closes (drop (i + 1) s) (eqb (get_or s i 0) 92) = rw (closes, f) in
    sym (e ∙ g)

same_test : (a b : ℕ) → (a ≡ 1 → b ≡ 0) → (b ≡ 0 → a ≡ 1) → eqb a 1 ≡ eqb b 0
same_test a b f g = grind (arith, eqb_tells)

pub absent-length : (s : Bytes) → absent s ≡ eqb (length s) 0
absent-length [] = refl
absent-length (b ∷ bs) = sym (ne_eqb (length (b ∷ bs)) 0 (λ z. omega arith))

pub closes_quote : (s : Bytes) (i : ℕ) → i < length s → get_or s i 0 ≡ 34 → eqb (length s - i) 1 ≡ closes (drop i s) false
unfolding closes
closes_quote s i h q =
    let t = eq-eqb (get_or s i 0) 34 q in
    let e = ap (λ (t : Bytes). closes t false) (drop_more s i 0 h) in
    let g : closes (get_or s i 0 ∷ drop (i + 1) s) false ≡ absent (drop (i + 1) s) = rw (closes, t) in
    let n = length-drop (i + 1) s in
    same_test (length s - i) (length (drop (i + 1) s)) (λ z. omega arith) (λ z. omega arith) ∙ sym (e ∙ g ∙ absent-length (drop (i + 1) s))

pub closes-ends : (s : Bytes) (i : ℕ) (p : Bool) → length s ≤ i → closes (drop i s) p ≡ false
unfolding closes
closes-ends s i p h = ap (λ (t : Bytes). closes t p) (drop_all i s h)

-- how far a piece goes
pub length_ends : (q : Quote) (s : Bytes) (i : ℕ) → i < length s → ends_piece q (get_or s i 0) ≡ true → piece_length q (drop i s) ≡ 0
unfolding piece_length
length_ends q s i h t =
    let g : piece_length q (get_or s i 0 ∷ drop (i + 1) s) ≡ 0 = rw (piece_length, t) in
    ap (piece_length q) (drop_more s i 0 h) ∙ g

pub length_more : (q : Quote) (s : Bytes) (i : ℕ) → i < length s → ends_piece q (get_or s i 0) ≡ false → piece_length q (drop i s) ≡ suc (piece_length (quote_after q (get_or s i 0)) (drop (i + 1) s))
unfolding piece_length
length_more q s i h f =
    let g : piece_length q (get_or s i 0 ∷ drop (i + 1) s) ≡ suc (piece_length (quote_after q (get_or s i 0)) (drop (i + 1) s)) = rw (piece_length, f) in
    ap (piece_length q) (drop_more s i 0 h) ∙ g

pub length_all : (q : Quote) (s : Bytes) (i : ℕ) → length s ≤ i → piece_length q (drop i s) ≡ 0
unfolding piece_length
length_all q s i h = ap (piece_length q) (drop_all i s h)

-- the pieces begin with the first, which is so long
pub pieces_more : (q : Quote) (s : Bytes) (k : ℕ) → k ≡ piece_length q s → k < length s → pieces q s ≡ take k s ∷ pieces outside (drop (k + 1) s)
unfolding pieces piece_length
pieces_more q [] k e h = absurd (omega arith)
pieces_more q (b ∷ bs) k e h =
    by_test (ends_piece q b)
    (λ t. let g : piece_length q (b ∷ bs) ≡ 0 = rw (piece_length, t) in
    let z : k ≡ 0 = omega arith in
    let p : pieces q (b ∷ bs) ≡ [] ∷ pieces outside bs = rw (pieces, t) in
    p ∙ ap (λ (m : ℕ). take m (b ∷ bs) ∷ pieces outside (drop (m + 1) (b ∷ bs))) (sym z))
    (λ f. let n = piece_length (quote_after q b) bs in
    let g : piece_length q (b ∷ bs) ≡ suc n = rw (piece_length, f) in
    let z : suc n ≡ k = omega arith in
    let w : suc (n + 1) ≡ suc n + 1 = omega arith in
    let p : pieces q (b ∷ bs) ≡ onto_piece b (pieces (quote_after q b) bs) = rw (pieces, f) in
    p ∙ ap (onto_piece b) (pieces_more (quote_after q b) bs n refl (omega arith)) ∙ ap (λ (m : ℕ). (b ∷ take n bs) ∷ pieces outside (drop m (b ∷ bs))) w
    ∙ ap (λ (m : ℕ). take m (b ∷ bs) ∷ pieces outside (drop (m + 1) (b ∷ bs))) z)

-- the last piece is all
pub pieces_last : (q : Quote) (s : Bytes) → length s ≤ piece_length q s → pieces q s ≡ s ∷ []
unfolding pieces piece_length
pieces_last q [] h = refl
pieces_last q (b ∷ bs) h =
    by_test (ends_piece q b) (λ t. let g : piece_length q (b ∷ bs) ≡ 0 = rw (piece_length, t) in absurd (omega arith))
    (λ f. let g : piece_length q (b ∷ bs) ≡ suc (piece_length (quote_after q b) bs) = rw (piece_length, f) in
    let p : pieces q (b ∷ bs) ≡ onto_piece b (pieces (quote_after q b) bs) = rw (pieces, f) in
    p ∙ ap (onto_piece b) (pieces_last (quote_after q b) bs (omega arith)))
