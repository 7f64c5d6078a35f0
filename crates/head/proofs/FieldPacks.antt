-- A field that was put: its name, and then its value.
use Rattle.std.proofs.Common.{◌≡◌, ℕ, ◌+◌, ◌-◌, ◌<◌, ◌≤◌, Bool, false, ltb, List, ◌∷◌, ◌++◌, length, take, drop, sym, ap, ◌∙◌, subst, arith}
use Rattle.std.proofs.lemmas.List.{drop_at, take-take, length-take, length-take-le, length-drop}
use Rattle.std.proofs.lemmas.Slice.{between_is}
use Rattle.std.proofs.lemmas.Bool.{le-ltb}
use Rattle.std.proofs.Math.Seq.{take-append-add}
use Rattle.byte_lines.specs.Bytes.{Bytes}
use Rattle.byte_lines.specs.Lines.{lines}
use Rattle.byte_lines.specs.Spans.{FirstLine}
use Rattle.byte_lines.specs.Strings.{before, after, trim_start, trim_end, trim}
use Rattle.head.specs.declared.packs.Packer.{Packer}
use Rattle.head.specs.Fields.{Field, continues, field, gathered}
use Rattle.head.specs.Packs.{stripped, Puts, MorePacked, FieldPacked}
use Rattle.head.proofs.Gathers.{gathered-first}
use Rattle.head.proofs.Joining.{puts_both, values_both, length-stripped}
use Rattle.head.proofs.Trims.{trim_other, take-trim_end}

module _ (old new : Packer) (t : Bytes) (within : old.to ≤ length old.out.now) (p : Puts old new t) where
  -- what was put last stands behind what was put before
  part_put : take (new.to - old.to) (drop old.to new.out.now) ≡ t
  part_put = between_is new.out.now old.to new.to ∙ ap (drop old.to) p.bytes ∙ drop_at (take old.to old.out.now) t old.to (length-take-le old.to old.out.now within)

  -- a packer that goes back behind the first k bytes that it put last
  cut_put : (k : ℕ) → k ≤ length t → Puts old (record new { to = old.to + k }) (take k t)
  cut_put k h =
      let front = take old.to old.out.now in
      let n : old.to + k ≡ length front + k = omega (arith, length-take-le old.to old.out.now within) in
      record {
        same = p.same;
        long = p.long;
        grows = omega (arith, length-take-le k t h);
        bytes = sym (take-take (old.to + k) new.to new.out.now (omega (arith, p.grows))) ∙ ap (take (old.to + k)) p.bytes ∙ ap (λ (m : ℕ). take m (front ++ t)) n ∙ take-append-add front t k;
      }

module _ (head name value rest : Bytes) (p q r s : Packer) (len w n : ℕ) where
  pub field-packed :
      FirstLine head len w → 0 < length head → continues head ≡ false → name ≡ before 58 (take len head) → value ≡ after 58 (take len head) → p.to + length head ≤ length p.out.now
      → q.to + length value + length (drop w head) ≤ p.to + length head
      → Puts p q name → Puts q r (stripped (ltb q.to q.to) value) → MorePacked q.to (drop w head) rest r s → n ≡ length (trim_end (take (s.to - q.to) (drop q.to s.out.now)))
      → FieldPacked head rest p (record s { to = q.to + n }) (length name) n
  field-packed f some starts is_name is-value room fits pq qr rs e =
      let line = take len head in
      let more = (gathered (lines (drop w head))).more in
      let text = trim_start (value ++ more) in
      let back = record s { to = q.to + n } in
      let whole = values_both q.to q r s value more (omega arith) qr rs.puts in
      let qs : Puts q s text = subst (λ (t : Bool). Puts q s (stripped t (value ++ more))) (le-ltb q.to q.to (omega arith)) whole in
      let within : q.to ≤ length q.out.now = omega (arith, pq.long) in
      let len_is : n ≡ length (trim_end text) = e ∙ ap (λ (l : Bytes). length (trim_end l)) (part_put q s text within qs) in
      let cut : take n text ≡ trim_end text = ap (λ (k : ℕ). take k text) len_is ∙ take-trim_end text in
      let short : n ≤ length text = omega (arith, ap length cut, length-take n text) in
      let last : trim_end text ≡ trim (after 58 line ++ more) = trim_other (value ++ more) ∙ ap (λ (l : Bytes). trim (l ++ more)) is-value in
      let put-value = subst (Puts q back) (cut ∙ last) (cut_put q s text within qs n short) in
      record {
        first = field line more;
        splits = gathered-first head len w f some starts ∙ ap (λ (l : List Field). field line more ∷ l) rs.fields;
        named = ap length (sym is_name);
        valued = ap length (sym last) ∙ sym len_is;
        puts = subst (λ (l : Bytes). Puts p back (l ++ trim (after 58 line ++ more))) is_name (puts_both p q back name (trim (after 58 line ++ more)) pq put-value);
        shorter = omega (arith, rs.fits, rs.puts.grows, length-drop w head, f.some some);
        fits = omega (arith, rs.fits, qs.grows, qr.grows, length-stripped (ltb q.to q.to) value);
        ends = rs.ends;
      }
