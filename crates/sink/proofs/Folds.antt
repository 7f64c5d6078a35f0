-- Laws of a sink that is stepped through bytes.
use Rattle.std.proofs.Common.{◌≡◌, ℕ, ◌-◌, ◌≤◌, [], ◌∷◌, ◌++◌, length, fold, sym, ap, ◌∙◌, append_assoc, append-nil, arith}
use Rattle.std.proofs.lemmas.Bool.{le-leb}
use Rattle.std.proofs.lemmas.List.Sums.{fold-append}
use Rattle.std.proofs.lemmas.List.{drop-drop, length-append}
use Rattle.byte_lines.specs.Bytes.{Bytes}
use Rattle.sink.specs.Meanings.{Meaning, stepped, taken}
use Rattle.sink.specs.Values.{written}

-- one run after another is the run of the joined bytes
pub stepped-append : {V : Type 0} (m : Meaning V) (a b : Bytes) → stepped (stepped m a) b ≡ stepped m (a ++ b)
stepped-append m a b =
    let ef = fold-append m.step m.value a b in
    let el = length-append a b in
    let es : m.space - length a - length b ≡ m.space - length (a ++ b) = omega arith in
    let ed = drop-drop (length b) (length a) m.unwritten in
    cc

pub stepped-none : {V : Type 0} (m : Meaning V) → stepped m [] ≡ m
stepped-none {V} m =
    let es : m.space - 0 ≡ m.space = omega arith in
    let F : ℕ → Meaning V = λ k. record { value = m.value; step = m.step; space = k; unwritten = m.unwritten; lent = m.lent } in
    ap F es

pub taken_all : {V : Type 0} (m : Meaning V) (bs : Bytes) → length bs ≤ m.space → taken m bs ≡ ((0, []), stepped m bs)
taken_all m bs le = simp (le-leb (length bs) m.space le)

-- a store's run joins the bytes to those written
pub folded_written : (a bs : Bytes) → fold written a bs ≡ a ++ bs
folded_written a [] = sym (append-nil a)
folded_written a (b ∷ bs) = folded_written (written a b) bs ∙ append_assoc a (b ∷ []) bs
