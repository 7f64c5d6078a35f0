-- A value's text, put together line by line.
use Rattle.std.proofs.Common.{◌≡◌, ℕ, ◌+◌, ◌≤◌, Bool, true, false, ltb, [], ◌++◌, length, take, drop, sym, refl, ap, ◌∙◌, subst, ⊎_elim, append-nil, arith}
use Rattle.std.proofs.lemmas.List.{append_assoc, length-append, length-drop, length-take, nil_from_length}
use Rattle.std.proofs.lemmas.Bool.{cases_lt, lt-ltb, le-ltb}
use Rattle.byte_lines.specs.Bytes.{Bytes}
use Rattle.byte_lines.specs.Lines.{lines}
use Rattle.byte_lines.specs.Spans.{FirstLine}
use Rattle.byte_lines.specs.Strings.{trim_start}
use Rattle.head.specs.declared.packs.Packer.{Packer}
use Rattle.head.specs.Fields.{Gathered, continues, gathered, fields_of}
use Rattle.head.specs.Packs.{stripped, Puts, MorePacked}
use Rattle.head.proofs.Gathers.{more-none, gathered-more, len_width}
use Rattle.head.proofs.Trims.{length_trim_start}
use Rattle.head.proofs.Trims.{trim_start-none, trim_start_some}

pub puts-nil : (p : Packer) → Puts p p []
puts-nil p = record { same = refl; long = refl; grows = omega arith; bytes = sym (append-nil (take p.to p.out.now)) }

-- one text, and another behind it
pub puts_both : (old mid new : Packer) (a b : Bytes) → Puts old mid a → Puts mid new b → Puts old new (a ++ b)
puts_both old mid new a b p q =
    record {
      same = q.same ∙ p.same;
      long = q.long ∙ p.long;
      grows = omega (arith, p.grows, q.grows, length-append a b);
      bytes = q.bytes ∙ ap (λ (l : Bytes). l ++ b) p.bytes ∙ append_assoc (take old.to old.out.now) a b;
    }

stripped-nil : (t : Bool) → stripped t [] ≡ []
unfolding trim_start
stripped-nil true = refl
stripped-nil false = refl

pub length-stripped : (t : Bool) (s : Bytes) → length (stripped t s) ≤ length s
length-stripped true s = omega arith
length-stripped false s = length_trim_start s

-- text of a value in two parts
stripped-append : (base to : ℕ) (a b : Bytes) → base ≤ to → stripped (ltb base to) (a ++ b) ≡ stripped (ltb base to) a ++ stripped (ltb base (to + length (stripped (ltb base to) a))) b
stripped-append base to a b h =
    ⊎_elim (λ lt. rw (lt-ltb base to lt, lt-ltb base (to + length a) (omega arith)))
    (λ le. rw (le-ltb base to le) (⊎_elim
    (λ some. rw (lt-ltb base (to + length (trim_start a)) (omega arith)) (trim_start_some a b some))
    (λ none. let z : length (trim_start a) ≡ 0 = omega arith in rw (le-ltb base (to + length (trim_start a)) (omega arith)) (trim_start-none a b z ∙ ap (λ (l : Bytes). l ++ trim_start b) (sym (nil_from_length (trim_start a) z))))
    (cases_lt 0 (length (trim_start a)))))
    (cases_lt base to)

pub values_both : (base : ℕ) (old mid new : Packer) (a b : Bytes) → base ≤ old.to → Puts old mid (stripped (ltb base old.to) a) → Puts mid new (stripped (ltb base mid.to) b)
    → Puts old new (stripped (ltb base old.to) (a ++ b))
values_both base old mid new a b h p q =
    let front = stripped (ltb base old.to) a in
    subst (Puts old new) (ap (λ (k : ℕ). front ++ stripped (ltb base k) b) p.grows ∙ sym (stripped-append base old.to a b h)) (puts_both old mid new front (stripped (ltb base mid.to) b) p q)

-- the lines of a text before `rest` were put; what the rest of them continues comes behind
pub record MoreSoFar (base : ℕ) (text rest : Bytes) (old new : Packer) : Type 0 where
  pub done : Bytes
  pub puts : Puts old new (stripped (ltb base old.to) done)
  pub joins : done ++ (gathered (lines rest)).more ≡ (gathered (lines text)).more
  pub fields : fields_of (lines text) ≡ fields_of (lines rest)
  pub fits : new.to + length rest ≤ old.to + length text

pub more_none_yet : (base : ℕ) (text : Bytes) (p : Packer) → MoreSoFar base text text p p
more_none_yet base text p = record { done = []; puts = subst (Puts p p) (sym (stripped-nil (ltb base p.to))) (puts-nil p); joins = refl; fields = refl; fits = omega arith }

-- one more line, with `behind` after it
pub more_line : (base : ℕ) (text rest behind : Bytes) (old mid new : Packer) (len w : ℕ) → base ≤ old.to → MoreSoFar base text rest old mid → continues rest ≡ true → FirstLine rest len w → behind ≡ drop w rest
    → Puts mid new (stripped (ltb base mid.to) (take len rest)) → MoreSoFar base text behind old new
more_line base text rest behind old mid new len w h m y f b p =
    let line = take len rest in
    let g : gathered (lines rest) ≡ record { more = line ++ (gathered (lines behind)).more; fields = fields_of (lines behind) } = rw b (gathered-more rest len w f y) in
    record {
      done = m.done ++ line;
      puts = values_both base old mid new m.done line h m.puts p;
      joins = append_assoc m.done line (gathered (lines behind)).more ∙ ap (λ (x : Gathered). m.done ++ x.more) (sym g) ∙ m.joins;
      fields = m.fields ∙ ap (λ (x : Gathered). x.fields) g;
      fits = omega (arith, m.fits, p.grows, length-stripped (ltb base mid.to) line, length-take len rest, ap length b, length-drop w rest, f.within, len_width rest len w f);
    }

-- no line continues any more
pub more_all : (base : ℕ) (text rest : Bytes) (old new : Packer) → MoreSoFar base text rest old new → continues rest ≡ false → MorePacked base text rest old new
more_all base text rest old new m n =
    let whole : m.done ≡ (gathered (lines text)).more = sym (append-nil m.done) ∙ ap (λ (l : Bytes). m.done ++ l) (sym (more-none rest n)) ∙ m.joins in
    record { puts = subst (λ (l : Bytes). Puts old new (stripped (ltb base old.to) l)) whole m.puts; fields = m.fields; fits = m.fits; ends = n }
