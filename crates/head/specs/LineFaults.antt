-- The faults of a head's lines: 41, 42 and 43. Assumes nothing.
use Rattle.std.specs.Prelude.{ℕ, ◌+◌, Bool, true, false, ◌&&◌, ◌||◌, List, [], ◌∷◌, nat_lt}
use Rattle.byte_lines.specs.Bytes.{Bytes}
use Rattle.byte_lines.specs.Lines.{Line, width}
use Rattle.byte_lines.specs.Strings.{has}
use Rattle.head.specs.Fields.{is_field, continues}

-- all lines pass, and so many fields stand in them; or the fault of that number stands at that offset in the head
pub data Verdict : Type 0 where
  passes : (fields : ℕ) → Verdict
  faulty : (number offset : ℕ) → Verdict

-- NUL, or a CR or LF that ends no line
abbrev pub unclean : Bytes → Bool
unclean s = has 0 s || (has 13 s || has 10 s)

-- the lines behind `size` bytes and n fields of the head; the first line with a fault decides, and in a line 41, 42, 43 in this order
unfoldable pub judged : (size n : ℕ) → List Line → Verdict
judged size n [] = passes n
judged size n (l ∷ ls) =
    elim (nat_lt 8192 (size + width l)) [
      | true ↦ faulty 41 size
      | false ↦ elim (unclean l.content) [
        | true ↦ faulty 42 size
        | false ↦ elim (is_field l.content) [
          | true ↦ elim (nat_lt n 64) [ true ↦ judged (size + width l) (n + 1) ls | false ↦ faulty 43 size ]
          | false ↦ elim (continues l.content && nat_lt 0 n) [ true ↦ judged (size + width l) n ls | false ↦ faulty 42 size ]
        ]
      ]
    ]
