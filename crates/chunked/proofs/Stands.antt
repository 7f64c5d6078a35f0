-- What the bytes taken so far look like where the framing stands, and that each byte keeps it so.
use Rattle.std.proofs.Common.{◌≡◌, ℕ, zero, suc, ◌+◌, ◌*◌, ◌<◌, ◌≤◌, Bool, true, false, not, ◌&&◌, ◌||◌, eqb, ltb, leb, List, [], ◌∷◌, ◌++◌, length, Some, None, Option, sym, refl, ap, ◌∙◌, subst, append_assoc, append-nil, zero-add, arith, length-append, Ok, Err}
use Rattle.std.specs.List.{AllByRecursion}
use Rattle.std.proofs.lemmas.List.{flat_map_more, length_push}
use Rattle.std.proofs.ByRecursion.{All-push}
use Rattle.std.proofs.lemmas.Bool.{eqb-true, and_parts, and_from, and_left, and_right, not_from_false, ltb-true, leb-true}
use Rattle.byte_lines.specs.Classes.{blank, hex}
use Rattle.source.specs.declared.ends.Fault.{Fault}
use Rattle.source.specs.declared.ends.End.{End}
use Rattle.source.specs.declared.ends.End.TheVariants.{Clean, Faulty}
use Rattle.byte_lines.specs.Bytes.{Bytes}
use Rattle.source.specs.Meanings.{fault}
use Rattle.chunked.specs.declared.places.Place.{Place}
use Rattle.chunked.specs.declared.places.Place.TheVariants.{Size, Extension, SizeEnd, Data, DataEnd, Trailer, TrailerEmpty, TrailerText, TrailerEnd}
use Rattle.chunked.specs.Framing.{Step, step, in_size, behind_digits, digit, in_extension, in_data, size_fault, data_fault, chunk, largest}
use Rattle.chunked.specs.Written.{crlf, value_from, unbroken, is_extension, one_line, SizeLine, Says, written_line, Chunk, IsChunk, written_chunk, IsTrailer, Body, IsBody}
use Rattle.chunked.specs.Written.{written_chunks, written_trailer, written, contents}
use Rattle.chunked.proofs.ReadsWritten.{value_cons}

-- whole chunks stand before the size line that starts at `line`, with the data d, and `text` behind them
pub record Behind (line : ℕ) (text w d : Bytes) : Type 0 where
  pub chunks : List Chunk
  pub lawful : AllByRecursion IsChunk chunks
  pub place : line ≡ length (written_chunks chunks)
  pub is : w ≡ written_chunks chunks ++ text
  pub bytes : d ≡ contents chunks

-- digits of a size line
pub record AtSize (line digits value : ℕ) (w d : Bytes) : Type 0 where
  pub text : Bytes
  pub behind : Behind line text w d
  pub count : length text ≡ digits
  pub few : digits ≤ 8
  pub says : value_from 0 text ≡ Some value
  pub small : value ≤ largest

-- a size line's digits and some of its extension
pub record AtExtension (line value : ℕ) (w d : Bytes) : Type 0 where
  pub size : SizeLine
  pub behind : Behind line (size.digits ++ size.extension) w d
  pub says : Says size value
  pub begun : 0 < length size.extension

-- a size line up to its CR
pub record AtSizeEnd (line value : ℕ) (w d : Bytes) : Type 0 where
  pub size : SizeLine
  pub behind : Behind line (size.digits ++ (size.extension ++ (13 ∷ []))) w d
  pub says : Says size value

-- a size line and some of the data that it announces
pub record AtData (left : ℕ) (w d : Bytes) : Type 0 where
  pub line : ℕ
  pub size : SizeLine
  pub content : Bytes
  pub before : Bytes
  pub behind : Behind line (written_line size ++ content) w before
  pub says : Says size (length content + left)
  pub some : 0 < length content + left
  pub bytes : d ≡ before ++ content

-- a chunk's data stand whole before `place`, and `text` behind them
pub record AfterData (place : ℕ) (text w d : Bytes) : Type 0 where
  pub line : ℕ
  pub last : Chunk
  pub before : Bytes
  pub behind : Behind line ((written_line last.line ++ last.content) ++ text) w before
  pub lawful : IsChunk last
  pub bytes : d ≡ before ++ last.content
  pub count : place + length text ≡ length w

-- chunks, the last size line and trailer lines, and `text` behind them
pub record Trailing (text w : Bytes) : Type 0 where
  pub chunks : List Chunk
  pub lawful : AllByRecursion IsChunk chunks
  pub last : SizeLine
  pub says : Says last 0
  pub lines : List Bytes
  pub trailers : AllByRecursion IsTrailer lines
  pub is : w ≡ written_chunks chunks ++ (written_line last ++ (written_trailer lines ++ text))

-- within a trailer line, not behind a CR
pub record AtText (w : Bytes) : Type 0 where
  pub text : Bytes
  pub trailing : Trailing text w
  pub some : 0 < length text
  pub line : one_line text ≡ true
  pub any : (c : ℕ) → one_line (text ++ (c ∷ [])) ≡ true

-- and behind a CR
pub record AtTextEnd (w : Bytes) : Type 0 where
  pub text : Bytes
  pub trailing : Trailing (text ++ (13 ∷ [])) w
  pub some : 0 < length text
  pub line : one_line text ≡ true

-- at a place: the bytes w are taken, and the bytes d are given
abbrev pub Stands : Place → (w d : Bytes) → Type 0
Stands (Size line digits value) w d = AtSize line digits value w d
Stands (Extension line value) w d = AtExtension line value w d
Stands (SizeEnd line value) w d = AtSizeEnd line value w d
Stands (Data left) w d = AtData left w d
Stands (DataEnd place) w d = AfterData place (13 ∷ []) w d
Stands Trailer w d = Trailing [] w
Stands TrailerEmpty w d = Trailing (13 ∷ []) w
Stands TrailerText w d = AtText w
Stands TrailerEnd w d = AtTextEnd w

-- what a fault says of the bytes taken and given
pub record Blamed (f : Fault) (w d : Bytes) : Type 0 where
  pub size : f.number ≡ 21 → (text : Bytes) × Behind f.place text w d
  pub content : f.number ≡ 23 → (text : Bytes) × AfterData f.place text w d

abbrev pub Finished : End → (w d : Bytes) → Type 0
Finished Clean w d = (m : Body) × (IsBody m × (w ≡ written m))
Finished (Faulty f) w d = Blamed f w d

abbrev pub Kept : Step → (w d : Bytes) → Type 0
Kept (Ok q) w d = Stands q w d
Kept (Err x) w d = Finished x w d

-- the bytes given behind b
abbrev pub after : Place → ℕ → Bytes → Bytes
after (Data (suc n)) b d = d ++ (b ∷ [])
after p b d = d

-- more bytes behind -------------------------------------------------------------------------------

pub behind_more : {line : ℕ} {text w d : Bytes} (v : Bytes) → Behind line text w d → Behind line (text ++ v) (w ++ v) d
behind_more {line} {text} {w} {d} v h =
    record {
      chunks = h.chunks;
      lawful = h.lawful;
      place = h.place;
      is = ap (λ (x : Bytes). x ++ v) h.is ∙ append_assoc (written_chunks h.chunks) text v;
      bytes = h.bytes;
    }

pub after_more : {place : ℕ} {text w d : Bytes} (v : Bytes) → AfterData place text w d → AfterData place (text ++ v) (w ++ v) d
after_more {place} {text} {w} {d} v h =
    let front = written_line h.last.line ++ h.last.content in
    record {
      line = h.line;
      last = h.last;
      before = h.before;
      behind = subst (λ (x : Bytes). Behind h.line x (w ++ v) h.before) (append_assoc front text v) (behind_more v h.behind);
      lawful = h.lawful;
      bytes = h.bytes;
      count = omega (arith, h.count, length-append text v, length-append w v);
    }

pub trailing_more : {text w : Bytes} (v : Bytes) → Trailing text w → Trailing (text ++ v) (w ++ v)
trailing_more {text} {w} v h =
    record {
      chunks = h.chunks;
      lawful = h.lawful;
      last = h.last;
      says = h.says;
      lines = h.lines;
      trailers = h.trailers;
      is = ap (λ (x : Bytes). x ++ v) h.is ∙ simp append_assoc;
    }

pub blamed_more : {f : Fault} {w d : Bytes} (v : Bytes) → Blamed f w d → Blamed f (w ++ v) d
blamed_more v h =
    record {
      size = λ e. let x = h.size e in (x.0 ++ v, behind_more v x.1);
      content = λ e. let x = h.content e in (x.0 ++ v, after_more v x.1);
    }

-- the faults --------------------------------------------------------------------------------------

size_blamed : (line : ℕ) (text w d : Bytes) → Behind line text w d → Blamed (fault 21 2 line) w d
size_blamed line text w d h = record { size = λ e. (text, h); content = λ e. absurd (omega arith) }

data_blamed : (place : ℕ) (text w d : Bytes) → AfterData place text w d → Blamed (fault 23 2 place) w d
data_blamed place text w d h = record { size = λ e. absurd (omega arith); content = λ e. (text, h) }

-- size lines --------------------------------------------------------------------------------------

value_more : (v b x : ℕ) (ds : Bytes) → hex b ≡ Some x → value_from v (b ∷ ds) ≡ value_from (v * 16 + x) ds
unfolding value_from
value_more v b x ds h = ap (λ (o : Option ℕ). elim o as (λ _. Option ℕ) [ Some d ↦ value_from (v * 16 + d) ds | None ↦ None ]) h

value_push : (v : ℕ) (ds : Bytes) (n b x : ℕ) → value_from v ds ≡ Some n → hex b ≡ Some x → value_from v (ds ++ (b ∷ [])) ≡ Some (n * 16 + x)
unfolding value_from
value_push v [] n b x h e = let z : v ≡ n = cc in value_more v b x [] e ∙ ap (λ (k : ℕ). Some (k * 16 + x)) z
value_push v (c ∷ ds) n b x h e =
    let y = value_cons v c ds n h in
    value_more v c y.0 (ds ++ (b ∷ [])) y.1.0 ∙ value_push (v * 16 + y.0) ds n b x y.1.1 e

unbroken_push : (x : Bytes) (b : ℕ) → unbroken x ≡ true → eqb b 13 ≡ false → eqb b 10 ≡ false → unbroken (x ++ (b ∷ [])) ≡ true
unfolding unbroken
unbroken_push [] b h cr lf = rw (cr, lf)
unbroken_push (c ∷ x) b h cr lf =
    let parts = and_parts (not (eqb c 13 || eqb c 10)) (unbroken x) h in
    and_from (not (eqb c 13 || eqb c 10)) (unbroken (x ++ (b ∷ []))) parts.0 (unbroken_push x b parts.1 cr lf)

extension_push : (x : Bytes) (b : ℕ) → 0 < length x → is_extension x ≡ true → eqb b 13 ≡ false → eqb b 10 ≡ false → is_extension (x ++ (b ∷ [])) ≡ true
extension_push [] b some h cr lf = absurd (omega arith)
extension_push (c ∷ x) b some h cr lf =
    let parts = and_parts (eqb c 59 || blank c) (unbroken x) h in
    and_from (eqb c 59 || blank c) (unbroken (x ++ (b ∷ []))) parts.0 (unbroken_push x b parts.1 cr lf)

-- where b is known to be c
as_byte : (P : Bytes → Type 0) (front : Bytes) (b c : ℕ) → eqb b c ≡ true → P (front ++ (b ∷ [])) → P (front ++ (c ∷ []))
as_byte P front b c e h = subst (λ (n : ℕ). P (front ++ (n ∷ []))) (eqb-true b c e) h

kept-digit : (line k v b x : ℕ) (w d : Bytes) → hex b ≡ Some x → AtSize line k v w d → Kept (digit line k (v * 16 + x)) (w ++ (b ∷ [])) d
kept-digit line k v b x w d e h = go (ltb k 8 && leb (v * 16 + x) largest) refl
  where
    go : (t : Bool) → (ltb k 8 && leb (v * 16 + x) largest) ≡ t
        → Kept (elim t [ true ↦ Ok (Size line (k + 1) (v * 16 + x)) | false ↦ size_fault line ]) (w ++ (b ∷ [])) d
    go true y =
        let parts = and_parts (ltb k 8) (leb (v * 16 + x) largest) y in
        record {
          text = h.text ++ (b ∷ []);
          behind = behind_more (b ∷ []) h.behind;
          count = omega (arith, length_push h.text b, h.count);
          few = omega (arith, ltb-true k 8 parts.0);
          says = value_push 0 h.text v b x h.says e;
          small = leb-true (v * 16 + x) largest parts.1;
        }
    go false y = size_blamed line (h.text ++ (b ∷ [])) (w ++ (b ∷ [])) d (behind_more (b ∷ []) h.behind)

-- a size line of these digits and that extension
says_of : (line k v : ℕ) (w d x : Bytes) (h : AtSize line (suc k) v w d) → is_extension x ≡ true → Says (record { digits = h.text; extension = x }) v
says_of line k v w d x h e = record { some = omega (arith, h.count); few = omega (arith, h.count, h.few); value = h.says; small = h.small; extends = e }

kept-behind : (line k v b : ℕ) (w d : Bytes) → AtSize line k v w d → Kept (behind_digits line k v b) (w ++ (b ∷ [])) d
unfolding unbroken
kept-behind line zero v b w d h = size_blamed line (h.text ++ (b ∷ [])) (w ++ (b ∷ [])) d (behind_more (b ∷ []) h.behind)
kept-behind line (suc k) v b w d h = go (eqb b 13) refl
  where
    next : Behind line (h.text ++ (b ∷ [])) (w ++ (b ∷ [])) d
    next = behind_more (b ∷ []) h.behind

    extends : (t : Bool) → (eqb b 59 || blank b) ≡ t → Kept (elim t [ true ↦ Ok (Extension line v) | false ↦ size_fault line ]) (w ++ (b ∷ [])) d
    extends true y =
        record {
          size = record { digits = h.text; extension = b ∷ [] };
          behind = next;
          says = says_of line k v w d (b ∷ []) h (and_from (eqb b 59 || blank b) true y refl);
          begun = omega arith;
        }
    extends false y = size_blamed line (h.text ++ (b ∷ [])) (w ++ (b ∷ [])) d next

    go : (t : Bool) → eqb b 13 ≡ t
        → Kept (elim t [
          | true ↦ Ok (SizeEnd line v)
          | false ↦ elim (eqb b 59 || blank b) [ true ↦ Ok (Extension line v) | false ↦ size_fault line ]
        ]) (w ++ (b ∷ [])) d
    go true y =
        record { size = record { digits = h.text; extension = [] }; behind = as_byte (λ x. Behind line x (w ++ (b ∷ [])) d) h.text b 13 y next; says = says_of line k v w d [] h refl }
    go false y = extends (eqb b 59 || blank b) refl

kept_size : (line k v b : ℕ) (w d : Bytes) → AtSize line k v w d → Kept (in_size line k v b (hex b)) (w ++ (b ∷ [])) d
kept_size line k v b w d h = go (hex b) refl
  where
    go : (o : Option ℕ) → hex b ≡ o → Kept (in_size line k v b o) (w ++ (b ∷ [])) d
    go (Some x) e = kept-digit line k v b x w d e h
    go None e = kept-behind line k v b w d h

kept_extension : (line v b : ℕ) (w d : Bytes) → AtExtension line v w d → Kept (in_extension line v b) (w ++ (b ∷ [])) d
kept_extension line v b w d h = go (eqb b 13) refl
  where
    next : Behind line (h.size.digits ++ (h.size.extension ++ (b ∷ []))) (w ++ (b ∷ [])) d
    next = subst (λ (x : Bytes). Behind line x (w ++ (b ∷ [])) d) (append_assoc h.size.digits h.size.extension (b ∷ [])) (behind_more (b ∷ []) h.behind)

    within : (t : Bool) → eqb b 13 ≡ false → eqb b 10 ≡ t → Kept (elim t [ true ↦ size_fault line | false ↦ Ok (Extension line v) ]) (w ++ (b ∷ [])) d
    within true cr y = size_blamed line (h.size.digits ++ (h.size.extension ++ (b ∷ []))) (w ++ (b ∷ [])) d next
    within false cr y =
        record {
          size = record { digits = h.size.digits; extension = h.size.extension ++ (b ∷ []) };
          behind = next;
          says = record {
            some = h.says.some;
            few = h.says.few;
            value = h.says.value;
            small = h.says.small;
            extends = extension_push h.size.extension b h.begun h.says.extends cr y;
          };
          begun = omega (arith, length_push h.size.extension b);
        }

    go : (t : Bool) → eqb b 13 ≡ t
        → Kept (elim t [ true ↦ Ok (SizeEnd line v) | false ↦ elim (eqb b 10) [ true ↦ size_fault line | false ↦ Ok (Extension line v) ] ]) (w ++ (b ∷ [])) d
    go true y =
        record {
          size = h.size;
          behind = as_byte (λ x. Behind line (h.size.digits ++ x) (w ++ (b ∷ [])) d) h.size.extension b 13 y next;
          says = h.says;
        }
    go false y = within (eqb b 10) y refl

-- behind a whole size line
stands-chunk : (line v : ℕ) (size : SizeLine) (w d : Bytes) → Says size v → Behind line (written_line size) w d → Stands (chunk v) w d
stands-chunk line zero size w d says h =
    record {
      chunks = h.chunks;
      lawful = h.lawful;
      last = size;
      says = says;
      lines = [];
      trailers = tt;
      is = h.is ∙ ap (λ (x : Bytes). written_chunks h.chunks ++ x) (sym (append-nil (written_line size)));
    }
stands-chunk line (suc n) size w d says h =
    record {
      line = line;
      size = size;
      content = [];
      before = d;
      behind = subst (λ (x : Bytes). Behind line x w d) (sym (append-nil (written_line size))) h;
      says = subst (λ (k : ℕ). Says size k) (sym (zero-add (suc n))) says;
      some = omega arith;
      bytes = sym (append-nil d);
    }

kept_size_end : (line v b : ℕ) (w d : Bytes) → AtSizeEnd line v w d → Kept (elim (eqb b 10) [ true ↦ Ok (chunk v) | false ↦ size_fault line ]) (w ++ (b ∷ [])) d
kept_size_end line v b w d h = go (eqb b 10) refl
  where
    P : Bytes → Type 0
    P x = Behind line x (w ++ (b ∷ [])) d

    next : P ((h.size.digits ++ (h.size.extension ++ (13 ∷ []))) ++ (b ∷ []))
    next = behind_more (b ∷ []) h.behind

    ends : (h.size.digits ++ (h.size.extension ++ (13 ∷ []))) ++ (10 ∷ []) ≡ written_line h.size
    ends = simp append_assoc

    go : (t : Bool) → eqb b 10 ≡ t → Kept (elim t [ true ↦ Ok (chunk v) | false ↦ size_fault line ]) (w ++ (b ∷ [])) d
    go true y =
        stands-chunk line v h.size (w ++ (b ∷ [])) d h.says
        (subst P ends (as_byte P (h.size.digits ++ (h.size.extension ++ (13 ∷ []))) b 10 y next))
    go false y = size_blamed line ((h.size.digits ++ (h.size.extension ++ (13 ∷ []))) ++ (b ∷ [])) (w ++ (b ∷ [])) d next

-- data --------------------------------------------------------------------------------------------

kept_data : (left at b : ℕ) (w d : Bytes) → at ≡ length w → AtData left w d → Kept (in_data left at b) (w ++ (b ∷ [])) (after (Data left) b d)
kept_data zero at b w d n h = go (eqb b 13) refl
  where
    next : AfterData at (b ∷ []) (w ++ (b ∷ [])) d
    next =
        let all : length h.content + 0 ≡ length h.content = omega arith in
        record {
          line = h.line;
          last = record { line = h.size; content = h.content };
          before = h.before;
          behind = behind_more (b ∷ []) h.behind;
          lawful = record { says = subst (λ (k : ℕ). Says h.size k) all h.says; some = omega (arith, h.some) };
          bytes = h.bytes;
          count = omega (arith, length_push w b);
        }

    go : (t : Bool) → eqb b 13 ≡ t → Kept (elim t [ true ↦ Ok (DataEnd at) | false ↦ data_fault at ]) (w ++ (b ∷ [])) d
    go true y = as_byte (λ x. AfterData at x (w ++ (b ∷ [])) d) [] b 13 y next
    go false y = data_blamed at (b ∷ []) (w ++ (b ∷ [])) d next
kept_data (suc left) at b w d n h =
    let count : length h.content + suc left ≡ length (h.content ++ (b ∷ [])) + left = omega (arith, length_push h.content b) in
    record {
      line = h.line;
      size = h.size;
      content = h.content ++ (b ∷ []);
      before = h.before;
      behind = subst (λ (x : Bytes). Behind h.line x (w ++ (b ∷ [])) h.before) (append_assoc (written_line h.size) h.content (b ∷ []))
          (behind_more (b ∷ []) h.behind);
      says = subst (λ (k : ℕ). Says h.size k) count h.says;
      some = omega (arith, length_push h.content b);
      bytes = ap (λ (x : Bytes). x ++ (b ∷ [])) h.bytes ∙ append_assoc h.before h.content (b ∷ []);
    }

-- one more whole chunk
next_chunk : (place at : ℕ) (w d : Bytes) → at ≡ length w → AfterData place crlf w d → AtSize at 0 0 w d
unfolding value_from
next_chunk place at w d n h =
    let cs = h.behind.chunks in
    let c = h.last in
    let one : written_chunks cs ++ written_chunk c ≡ written_chunks (cs ++ (c ∷ [])) = flat_map_more written_chunk [] cs c in
    let is : w ≡ written_chunks (cs ++ (c ∷ []))
    = h.behind.is ∙ ap (λ (x : Bytes). written_chunks cs ++ x) (append_assoc (written_line c.line) c.content crlf) ∙ one in
    record {
      text = [];
      behind = record {
        chunks = cs ++ (c ∷ []);
        lawful = All-push IsChunk cs c h.behind.lawful h.lawful;
        place = n ∙ ap length is;
        is = is ∙ sym (append-nil (written_chunks (cs ++ (c ∷ []))));
        bytes = h.bytes ∙ ap (λ (x : Bytes). x ++ c.content) h.behind.bytes ∙ flat_map_more (λ (x : Chunk). x.content) [] cs c;
      };
      count = refl;
      few = omega arith;
      says = refl;
      small = omega arith;
    }

kept_data_end : (place at b : ℕ) (w d : Bytes) → at ≡ length w → AfterData place (13 ∷ []) w d
    → Kept (elim (eqb b 10) [ true ↦ Ok (Size (at + 1) 0 0) | false ↦ data_fault place ]) (w ++ (b ∷ [])) d
kept_data_end place at b w d n h = go (eqb b 10) refl
  where
    next : AfterData place (13 ∷ (b ∷ [])) (w ++ (b ∷ [])) d
    next = after_more (b ∷ []) h

    go : (t : Bool) → eqb b 10 ≡ t → Kept (elim t [ true ↦ Ok (Size (at + 1) 0 0) | false ↦ data_fault place ]) (w ++ (b ∷ [])) d
    go true y = next_chunk place (at + 1) (w ++ (b ∷ [])) d (omega (arith, length_push w b)) (as_byte (λ x. AfterData place x (w ++ (b ∷ [])) d) (13 ∷ []) b 10 y next)
    go false y = data_blamed place (13 ∷ (b ∷ [])) (w ++ (b ∷ [])) d next

-- trailer lines -----------------------------------------------------------------------------------

-- a byte that is no LF may follow
line_push : (t : Bytes) (c : ℕ) → one_line t ≡ true → eqb c 10 ≡ false → one_line (t ++ (c ∷ [])) ≡ true
unfolding one_line
line_push [] c h lf = refl
line_push (b ∷ []) c h lf = and_from (not (eqb b 13 && eqb c 10)) true (not_from_false (eqb b 13 && eqb c 10) (and_right (eqb b 13) (eqb c 10) lf)) refl
line_push (b ∷ a ∷ t) c h lf =
    let parts = and_parts (not (eqb b 13 && eqb a 10)) (one_line (a ∷ t)) h in
    and_from (not (eqb b 13 && eqb a 10)) (one_line (a ∷ (t ++ (c ∷ [])))) parts.0 (line_push (a ∷ t) c parts.1 lf)

-- behind a byte that is no CR any byte may follow
line_any : (t : Bytes) (b c : ℕ) → one_line (t ++ (b ∷ [])) ≡ true → eqb b 13 ≡ false → one_line ((t ++ (b ∷ [])) ++ (c ∷ [])) ≡ true
unfolding one_line
line_any [] b c h cr = and_from (not (eqb b 13 && eqb c 10)) true (not_from_false (eqb b 13 && eqb c 10) (and_left (eqb b 13) (eqb c 10) cr)) refl
line_any (a ∷ []) b c h cr =
    let parts = and_parts (not (eqb a 13 && eqb b 10)) true h in
    and_from (not (eqb a 13 && eqb b 10)) (one_line (b ∷ (c ∷ []))) parts.0 (line_any [] b c refl cr)
line_any (a ∷ g ∷ t) b c h cr =
    let parts = and_parts (not (eqb a 13 && eqb g 10)) (one_line (g ∷ (t ++ (b ∷ [])))) h in
    and_from (not (eqb a 13 && eqb g 10)) (one_line (g ∷ ((t ++ (b ∷ [])) ++ (c ∷ [])))) parts.0 (line_any (g ∷ t) b c parts.1 cr)

-- one more whole trailer line
trailing_line : (t w : Bytes) → IsTrailer t → Trailing (t ++ crlf) w → Trailing [] w
trailing_line t w is h =
    let one : written_trailer h.lines ++ (t ++ crlf) ≡ written_trailer (h.lines ++ (t ∷ [])) ++ []
    = flat_map_more (λ (x : Bytes). x ++ crlf) [] h.lines t ∙ sym (append-nil (written_trailer (h.lines ++ (t ∷ [])))) in
    record {
      chunks = h.chunks;
      lawful = h.lawful;
      last = h.last;
      says = h.says;
      lines = h.lines ++ (t ∷ []);
      trailers = All-push IsTrailer h.lines t h.trailers is;
      is = h.is ∙ ap (λ (x : Bytes). written_chunks h.chunks ++ (written_line h.last ++ x)) one;
    }

-- a byte that is no CR, and it may stand there
stands_text : (front w : Bytes) (b : ℕ) → one_line (front ++ (b ∷ [])) ≡ true → eqb b 13 ≡ false → Trailing (front ++ (b ∷ [])) w → AtText w
stands_text front w b line cr h =
    record { text = front ++ (b ∷ []); trailing = h; some = omega (arith, length_push front b); line = line; any = λ c. line_any front b c line cr }

kept_trailer : (b : ℕ) (w d : Bytes) → Trailing [] w → Kept (elim (eqb b 13) [ true ↦ Ok TrailerEmpty | false ↦ Ok TrailerText ]) (w ++ (b ∷ [])) d
unfolding one_line
kept_trailer b w d h = go (eqb b 13) refl
  where
    go : (t : Bool) → eqb b 13 ≡ t → Kept (elim t [ true ↦ Ok TrailerEmpty | false ↦ Ok TrailerText ]) (w ++ (b ∷ [])) d
    go true y = as_byte (λ x. Trailing x (w ++ (b ∷ []))) [] b 13 y (trailing_more (b ∷ []) h)
    go false y = stands_text [] (w ++ (b ∷ [])) b refl y (trailing_more (b ∷ []) h)

kept_text : (b : ℕ) (w d : Bytes) → AtText w → Kept (elim (eqb b 13) [ true ↦ Ok TrailerEnd | false ↦ Ok TrailerText ]) (w ++ (b ∷ [])) d
kept_text b w d h = go (eqb b 13) refl
  where
    go : (t : Bool) → eqb b 13 ≡ t → Kept (elim t [ true ↦ Ok TrailerEnd | false ↦ Ok TrailerText ]) (w ++ (b ∷ [])) d
    go true y = record { text = h.text; trailing = as_byte (λ x. Trailing x (w ++ (b ∷ []))) h.text b 13 y (trailing_more (b ∷ []) h.trailing); some = h.some; line = h.line }
    go false y = stands_text h.text (w ++ (b ∷ [])) b (h.any b) y (trailing_more (b ∷ []) h.trailing)

-- behind a CR, a byte that is no LF
kept-behind_cr : (t : Bytes) (b : ℕ) (w d : Bytes) → one_line t ≡ true → eqb b 10 ≡ false → Trailing (t ++ (13 ∷ [])) w
    → Kept (elim (eqb b 13) [ true ↦ Ok TrailerEnd | false ↦ Ok TrailerText ]) (w ++ (b ∷ [])) d
kept-behind_cr t b w d line lf h = go (eqb b 13) refl
  where
    front : one_line (t ++ (13 ∷ [])) ≡ true
    front = line_push t 13 line refl

    next : Trailing ((t ++ (13 ∷ [])) ++ (b ∷ [])) (w ++ (b ∷ []))
    next = trailing_more (b ∷ []) h

    go : (c : Bool) → eqb b 13 ≡ c → Kept (elim c [ true ↦ Ok TrailerEnd | false ↦ Ok TrailerText ]) (w ++ (b ∷ [])) d
    go true y = record { text = t ++ (13 ∷ []); trailing = as_byte (λ x. Trailing x (w ++ (b ∷ []))) (t ++ (13 ∷ [])) b 13 y next; some = omega (arith, length_push t 13); line = front }
    go false y = stands_text (t ++ (13 ∷ [])) (w ++ (b ∷ [])) b (line_push (t ++ (13 ∷ [])) b front lf) y next

kept_text_end : (b : ℕ) (w d : Bytes) → AtTextEnd w
    → Kept (elim (eqb b 10) [ true ↦ Ok Trailer | false ↦ elim (eqb b 13) [ true ↦ Ok TrailerEnd | false ↦ Ok TrailerText ] ]) (w ++ (b ∷ [])) d
kept_text_end b w d h = go (eqb b 10) refl
  where
    next : Trailing (h.text ++ (13 ∷ (b ∷ []))) (w ++ (b ∷ []))
    next = subst (λ (x : Bytes). Trailing x (w ++ (b ∷ []))) (append_assoc h.text (13 ∷ []) (b ∷ [])) (trailing_more (b ∷ []) h.trailing)

    go : (t : Bool) → eqb b 10 ≡ t
        → Kept (elim t [ true ↦ Ok Trailer | false ↦ elim (eqb b 13) [ true ↦ Ok TrailerEnd | false ↦ Ok TrailerText ] ]) (w ++ (b ∷ [])) d
    go true y =
        let whole : Trailing (h.text ++ crlf) (w ++ (b ∷ [])) = as_byte (λ x. Trailing (h.text ++ x) (w ++ (b ∷ []))) (13 ∷ []) b 10 y next in
        trailing_line h.text (w ++ (b ∷ [])) (record { some = h.some; line = h.line }) whole
    go false y = kept-behind_cr h.text b w d h.line y h.trailing

-- the empty line ends the body
body_of : (w : Bytes) → Trailing crlf w → (m : Body) × (IsBody m × (w ≡ written m))
body_of w h =
    (record { chunks = h.chunks; last = h.last; trailer = h.lines }, (record { chunks = h.lawful; last = h.says; trailer = h.trailers }, h.is))

kept_empty : (b : ℕ) (w d : Bytes) → Trailing (13 ∷ []) w
    → Kept (elim (eqb b 10) [ true ↦ Err Clean | false ↦ elim (eqb b 13) [ true ↦ Ok TrailerEnd | false ↦ Ok TrailerText ] ]) (w ++ (b ∷ [])) d
unfolding one_line
kept_empty b w d h = go (eqb b 10) refl
  where
    go : (t : Bool) → eqb b 10 ≡ t
        → Kept (elim t [ true ↦ Err Clean | false ↦ elim (eqb b 13) [ true ↦ Ok TrailerEnd | false ↦ Ok TrailerText ] ]) (w ++ (b ∷ [])) d
    go true y = body_of (w ++ (b ∷ [])) (as_byte (λ x. Trailing x (w ++ (b ∷ []))) (13 ∷ []) b 10 y (trailing_more (b ∷ []) h))
    go false y = kept-behind_cr [] b w d refl y h

-- each byte keeps what is said of a place, or the framing ends with what is said of that end
pub kept : (p : Place) (at b : ℕ) (w d : Bytes) → at ≡ length w → Stands p w d → Kept (step p at b) (w ++ (b ∷ [])) (after p b d)
kept (Size line digits value) at b w d n h = kept_size line digits value b w d h
kept (Extension line value) at b w d n h = kept_extension line value b w d h
kept (SizeEnd line value) at b w d n h = kept_size_end line value b w d h
kept (Data zero) at b w d n h = kept_data zero at b w d n h
kept (Data (suc left)) at b w d n h = kept_data (suc left) at b w d n h
kept (DataEnd place) at b w d n h = kept_data_end place at b w d n h
kept Trailer at b w d n h = kept_trailer b w d h
kept TrailerEmpty at b w d n h = kept_empty b w d h
kept TrailerText at b w d n h = kept_text b w d h
kept TrailerEnd at b w d n h = kept_text_end b w d h

-- before the first byte
pub stands-first : Stands (Size 0 0 0) [] []
unfolding value_from
stands-first =
    record {
      text = [];
      behind = record { chunks = []; lawful = tt; place = refl; is = refl; bytes = refl };
      count = refl;
      few = omega arith;
      says = refl;
      small = omega arith;
    }
