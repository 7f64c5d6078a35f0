-- How a reader's meaning follows from its trace, and that each exchange keeps it so.
use Rattle.std.proofs.Common.{◌≡◌, ℕ, ◌+◌, ◌<◌, ◌≤◌, true, false, List, [], ◌∷◌, ◌++◌, length, take, drop, Some, None, Option, sym, refl, ap, ◌∙◌, subst, append-nil, arith, length-append, length-drop}
use Rattle.std.proofs.lemmas.List.{drop-drop}
use Rattle.std.proofs.lemmas.Bool.{false≢true}
use Rattle.byte_lines.specs.Bytes.{Bytes}
use Rattle.message.specs.Entries.{Entry}
use Rattle.calls.specs.Calls.{AnySink, Told, Exchange, Trace, handed}
use Rattle.calls.specs.ReaderMeaning.{Part, Meaning, rest, less}
use Rattle.calls.specs.Traces.{entry, part_body, up_to, openings, verdict, opening, closing, count, part, completes, news, told, tellings, open_part, given_from, due}
use Rattle.calls.specs.RunLaw.{Untouched, Tells, EndsWhole, Leaves, Gave, Counted}
use Rattle.calls.proofs.Numbering.{Numbered}
use Rattle.calls.proofs.Words.{after, after_more, openings-append, no_news, given-here, given-there, given-none}

-- the number of the open part
abbrev pub number_of : Option Part → Option ℕ
number_of None = None
number_of (Some q) = Some q.number

-- the open part is the entity opened last; what is left of it is its decoded body without what was given
pub record Fits {S : Type 0} (row : List Entry) (r : Trace S) (n : ℕ) (q : Part) : Type 0 where
  pub last : q.number ≡ n
  pub bytes : q.left ≡ drop (given_from q.number r) (part_body row q.number).bytes
  pub within : given_from q.number r ≤ length (part_body row q.number).bytes
  pub ending : q.ending ≡ (part_body row q.number).ending

-- the same, if a part is open
abbrev pub PartFits : {S : Type 0} → List Entry → Trace S → ℕ → Option Part → Type 0
PartFits row r n None = Unit {0}
PartFits row r n (Some q) = Fits row r n q

-- the trace r has led to the entries ah and the part pt, after n entities
pub record Reached {S : Type 0} (row : List Entry) (r : Trace S) (ah : List Entry) (pt : Option Part) (n : ℕ) : Type 0 where
  pub ahead : ah ≡ after (tellings r) row
  pub numbered : Numbered n ah
  pub opens : number_of pt ≡ open_part r
  pub fits : PartFits row r n pt
  pub fresh : (p : ℕ) → n < p → given_from p r ≡ 0
  pub bodies : (p : ℕ) → n < p → part_body row p ≡ part_body ah p
  pub told : openings (told r) ≡ up_to n

-- the bytes that an exchange gives
abbrev pub bytes_of : {S : Type 0} → List Entry → Trace S → Exchange S → Bytes
bytes_of row r d = take (count d) (drop (given_from (part d) r) (part_body row (part d)).bytes)

-- what the law says of one exchange, and where it leads
module _ {I : Type 0} {V : I → Type 0} where
  pub record Good (number : ℕ) (row : List Entry) (r : Trace (AnySink I V)) (d : Exchange (AnySink I V)) (st : Meaning) : Type 0 where
    pub refusal : (verdict d ≡ due number row r (handed d)) × Untouched d
    pub in_order : Tells number (entry (tellings r) row) d
    pub ends_whole : EndsWhole r d
    pub counted : Counted row r d
    pub gave : Gave (record { exchange = d; gave = bytes_of row r d })
    pub whole : completes d ≡ true → given_from (part d) (d ∷ r) ≡ length (part_body row (part d)).bytes
    pub entities : ℕ
    pub reached : Reached row (d ∷ r) st.ahead st.part entities

module _ {S : Type 0} (row : List Entry) (r : Trace S) (ah : List Entry) (n : ℕ) where
  -- an exchange that opens, closes, tells and gives nothing
  pub idle : (pt : Option Part) (d : Exchange S) → Reached row r ah pt n
      → news d ≡ [] → opening d ≡ None → closing d ≡ false → count d ≡ 0 → Reached row (d ∷ r) ah pt n
  idle pt d i t o c k =
      record {
        ahead = rw (t, append-nil) i.ahead;
        numbered = i.numbered;
        opens = rw (o, c, open_part) i.opens;
        fits = go pt i.fits;
        fresh = λ p h. given-none p d r k ∙ i.fresh p h;
        bodies = i.bodies;
        told = rw (t, append-nil) i.told;
      }
    where
      go : (pt : Option Part) → PartFits row r n pt → PartFits row (d ∷ r) n pt
      go None f = tt
      go (Some q) f =
          record {
            last = f.last;
            bytes = f.bytes ∙ ap (λ (m : ℕ). drop m (part_body row q.number).bytes) (sym (given-none q.number d r k));
            within = omega (arith, given-none q.number d r k, f.within);
            ending = f.ending;
          }

  -- pour, finish or skip closes the open part
  pub shut : (q : Part) (d : Exchange S) → Reached row r ah (Some q) n
      → part d ≡ q.number → news d ≡ [] → opening d ≡ None → closing d ≡ true → Reached row (d ∷ r) ah None n
  shut q d i e t o c =
      record {
        ahead = rw (t, append-nil) i.ahead;
        numbered = i.numbered;
        opens = rw (o, c, open_part);
        fits = tt;
        fresh = λ p h. given-there p d r (λ x. omega (arith, x, e, i.fits.last)) ∙ i.fresh p h;
        bodies = i.bodies;
        told = rw (t, append-nil) i.told;
      }

  -- some bytes of the open part were given
  pub moved : (q : Part) (d : Exchange S) (k : ℕ) → Reached row r ah (Some q) n → part d ≡ q.number → count d ≡ k → k ≤ length q.left
      → news d ≡ [] → opening d ≡ None → closing d ≡ false
      → Reached row (d ∷ r) ah (less k q) n
  moved q d k i e f h t o c =
      let body : Bytes = (part_body row q.number).bytes in
      let here : given_from q.number (d ∷ r) ≡ given_from q.number r + k =
      subst (λ (p : ℕ). given_from p (d ∷ r) ≡ given_from p r + k) e (given-here d r ∙ ap (λ (m : ℕ). given_from (part d) r + m) f) in
      record {
        ahead = rw (t, append-nil) i.ahead;
        numbered = i.numbered;
        opens = rw (o, c, open_part) i.opens;
        fits = record {
          last = i.fits.last;
          bytes = ap (λ (xs : Bytes). drop k xs) i.fits.bytes
              ∙ (drop-drop k (given_from q.number r) body ∙ ap (λ (m : ℕ). drop m body) (sym here));
          within = omega (arith, here, h, i.fits.within, ap length i.fits.bytes, length-drop (given_from q.number r) body);
          ending = i.fits.ending;
        };
        fresh = λ p h. given-there p d r (λ x. omega (arith, x, e, i.fits.last)) ∙ i.fresh p h;
        bodies = i.bodies;
        told = rw (t, append-nil) i.told;
      }

  -- next tells an entry, after which there are m entities
  pub advanced : (d : Exchange S) (x : Told) (ah' : List Entry) (pt : Option Part) (m : ℕ) → Reached row r ah None n
      → news d ≡ x ∷ [] → count d ≡ 0 → n ≤ m → ah' ≡ rest ah → Numbered m ah' → number_of pt ≡ open_part (d ∷ r) → PartFits row (d ∷ r) m pt
      → ((p : ℕ) → m < p → part_body ah p ≡ part_body ah' p) → up_to n ++ openings (x ∷ []) ≡ up_to m → Reached row (d ∷ r) ah' pt m
  advanced d x ah' pt m i t k le e nb o f bs a =
      record {
        ahead = rw (t, length-append) (e ∙ ap rest i.ahead ∙ sym (after_more (tellings r) row));
        numbered = nb;
        opens = o;
        fits = f;
        fresh = λ p h. given-none p d r k ∙ i.fresh p (omega arith);
        bodies = λ p h. i.bodies p (omega arith) ∙ bs p h;
        told = rw (t, openings-append) (ap (λ (xs : List ℕ). xs ++ openings (x ∷ [])) i.told ∙ a);
      }

module _ {I : Type 0} {V : I → Type 0} (number : ℕ) (row : List Entry) (r : Trace (AnySink I V)) (n : ℕ) where
  -- an exchange that opens, closes, tells and gives nothing keeps the law, if its refusal and its answer do
  pub idle-good : (st : Meaning) → Reached row r st.ahead st.part n → (d : Exchange (AnySink I V))
      → (verdict d ≡ due number row r (handed d)) × Untouched d → Tells number (entry (tellings r) row) d → Counted row r d → Leaves [] d
      → news d ≡ [] → opening d ≡ None → closing d ≡ false → count d ≡ 0 → completes d ≡ false → Good number row r d st
  idle-good st i d v s a l t o c k w =
      let body : Bytes = drop (given_from (part d) r) (part_body row (part d)).bytes in
      record {
        refusal = v;
        in_order = s;
        ends_whole = λ x h _. absurd (no_news (Told.event x) (sym t ∙ h));
        counted = a;
        gave = subst (λ (m : ℕ). (length (take m body) ≡ m) × Leaves (take m body) d) (sym k) (refl, l);
        whole = λ h. absurd (false≢true (sym w ∙ h));
        entities = n;
        reached = idle row r st.ahead n st.part d i t o c k;
      }
