-- Two traces that keep the law and were handed the same calls are the same.
use Rattle.std.proofs.Common.{◌≡◌, ℕ, true, false, eqb, ◌⊎◌, List, [], ◌∷◌, ◌++◌, map, length, drop, sym, refl, ap, ◌∙◌, subst, inl, inr, append_assoc, append-nil, add-zero, arith, length-append}
use Rattle.std.proofs.lemmas.List.{drop_at}
use Rattle.std.proofs.lemmas.Bool.{cases_Bool, eq-eqb}
use Rattle.byte_lines.specs.Bytes.{Bytes}
use Rattle.source.specs.Meanings.{Meaning as SourceMeaning}
use Rattle.message.specs.Entries.{Entry}
use Rattle.message.specs.Rows.{row_of}
use Rattle.calls.specs.Calls.{AnySink, Call, Exchange, Trace, handed}
use Rattle.calls.specs.ReaderMeaning.{outcome}
use Rattle.calls.specs.Traces.{part_body, part, given_from}
use Rattle.calls.specs.RunLaw.{Every, Refusals, InOrder, Item, joined, Gave, Counted, FirstBytes, KeepsLaw}
use Rattle.calls.proofs.OneAnswer.{owed, meaning_of}

module _ {I : Type 0} {V : I → Type 0} where
  -- the exchanges alone
  abbrev plain : List (Item (AnySink I V)) → Trace (AnySink I V)
  plain a = map (λ (x : Item (AnySink I V)). x.exchange) a

  joined_length : (p : ℕ) (a : List (Item (AnySink I V))) → Every (λ past x. Gave x) a → length (joined p a) ≡ given_from p (plain a)
  joined_length p [] g = refl
  joined_length p (x ∷ a) g = go (cases_Bool (eqb (part x.exchange) p)) (joined_length p a g.1)
    where
      go : (eqb (part x.exchange) p ≡ true) ⊎ (eqb (part x.exchange) p ≡ false) → length (joined p a) ≡ given_from p (plain a)
          → length (joined p (x ∷ a)) ≡ given_from p (plain (x ∷ a))
      go (inl y) ih = rw y (length-append (joined p a) x.gave ∙ omega (arith, ih, g.0.0))
      go (inr y) ih = rw (y, append-nil, add-zero) ih

  -- what the law says of the exchanges of a trace and of the bytes that they gave
  record Lawful (number : ℕ) (row : List Entry) (a : List (Item (AnySink I V))) : Type 0 where
    refusals : Refusals number row (plain a)
    in_order : InOrder number row (plain a)
    counted : Every (Counted row) (plain a)
    gave : Every (λ past x. Gave x) a
    first : (p : ℕ) → FirstBytes row a p

  -- it says so of the past too
  lawful-past : (number : ℕ) (row : List Entry) (x : Item (AnySink I V)) (a : List (Item (AnySink I V))) → Lawful number row (x ∷ a)
      → Lawful number row a
  lawful-past number row x a l =
      record {
        refusals = l.refusals.1;
        in_order = l.in_order.1;
        counted = l.counted.1;
        gave = l.gave.1;
        first = λ p.
            let g : Bytes = elim (eqb (part x.exchange) p) [ true ↦ x.gave | false ↦ [] ] in
            record { rest = g ++ (l.first p).rest; whole = sym (append_assoc (joined p a) g (l.first p).rest) ∙ (l.first p).whole };
      }

  -- what was left before the latest exchange begins with what it gave
  left-before : (number : ℕ) (row : List Entry) (x : Item (AnySink I V)) (a : List (Item (AnySink I V))) (l : Lawful number row (x ∷ a))
      → drop (given_from (part x.exchange) (plain a)) (part_body row (part x.exchange)).bytes ≡ x.gave ++ (l.first (part x.exchange)).rest
  left-before number row x a l =
      let p : ℕ = part x.exchange in
      let rest : Bytes = (l.first p).rest in
      let e : joined p (x ∷ a) ≡ joined p a ++ x.gave = rw (eq-eqb p p refl) in
      let whole : joined p a ++ (x.gave ++ rest) ≡ (part_body row p).bytes =
      sym (append_assoc (joined p a) x.gave rest) ∙ (ap (λ (u : Bytes). u ++ rest) (sym e) ∙ (l.first p).whole) in
      ap (λ (u : Bytes). drop (given_from p (plain a)) u) (sym whole)
      ∙ drop_at (joined p a) (x.gave ++ rest) (given_from p (plain a)) (joined_length p a l.gave.1)

  -- so the latest exchange is the one that the past and its call are owed
  latest : (number : ℕ) (row : List Entry) (x : Item (AnySink I V)) (a : List (Item (AnySink I V))) → Lawful number row (x ∷ a)
      → x.exchange ≡ (outcome (meaning_of number row (plain a)) (handed x.exchange)).exchange
  latest number row x a l =
      owed number row (plain a) x.exchange x.gave (l.first (part x.exchange)).rest l.refusals.0 l.in_order.0 l.counted.0
      l.gave.0 (left-before number row x a l)

  same-items : (number : ℕ) (row : List Entry) (a b : List (Item (AnySink I V))) → Lawful number row a → Lawful number row b
      → map handed (plain a) ≡ map handed (plain b) → plain a ≡ plain b
  same-items number row [] [] k l h = refl
  same-items number row [] (y ∷ b) k l h = let z : ◌≡◌ {A = ℕ} 0 1 = cc in absurd (omega arith)
  same-items number row (x ∷ a) [] k l h = let z : ◌≡◌ {A = ℕ} 0 1 = cc in absurd (omega arith)
  same-items number row (x ∷ a) (y ∷ b) k l h =
      let calls : map handed (plain a) ≡ map handed (plain b) = cc in
      let call : handed x.exchange ≡ handed y.exchange = cc in
      let past : plain a ≡ plain b = same-items number row a b (lawful-past number row x a k) (lawful-past number row y b l) calls in
      let d : x.exchange ≡ y.exchange =
      latest number row x a k
      ∙ (ap (λ (u : Trace (AnySink I V)). (outcome (meaning_of number row u) (handed x.exchange)).exchange) past
      ∙ (ap (λ (u : Call (AnySink I V)). (outcome (meaning_of number row (plain b)) u).exchange) call ∙ sym (latest number row y b l))) in
      ap (λ (u : Exchange (AnySink I V)). u ∷ plain a) d ∙ ap (λ (u : Trace (AnySink I V)). y.exchange ∷ u) past

  -- the law says so of every trace that keeps it
  lawful : (number : ℕ) (m : SourceMeaning) (r : Trace (AnySink I V)) (k : KeepsLaw number m r) → Lawful number (row_of m) k.delivery.items
  lawful number m r k =
      let e : r ≡ plain k.delivery.items = sym k.delivery.same in
      record {
        refusals = subst (λ (u : Trace (AnySink I V)). Refusals number (row_of m) u) e k.refusals;
        in_order = subst (λ (u : Trace (AnySink I V)). InOrder number (row_of m) u) e k.in_order;
        counted = subst (λ (u : Trace (AnySink I V)). Every (Counted (row_of m)) u) e k.counted;
        gave = k.delivery.gave;
        first = k.delivery.first;
      }

  pub one-trace : (number : ℕ) (m : SourceMeaning) (a b : Trace (AnySink I V)) → KeepsLaw number m a → KeepsLaw number m b
      → map handed a ≡ map handed b → a ≡ b
  one-trace number m a b k l h =
      let x : plain k.delivery.items ≡ a = k.delivery.same in
      let y : plain l.delivery.items ≡ b = l.delivery.same in
      sym x
      ∙ (same-items number (row_of m) k.delivery.items l.delivery.items (lawful number m a k) (lawful number m b l)
      (ap (map handed) x ∙ (h ∙ ap (map handed) (sym y)))
      ∙ y)
