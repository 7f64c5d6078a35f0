-- What was found of a head. Assumes nothing.
use Rattle.std.specs.Prelude.{◌≡◌, ℕ, ◌+◌, ◌<◌, ◌≤◌, true, false, List, [], length, take, drop, ◌==◌, nat_le, nat_lt}
use Rattle.std.specs.declared.ops.ControlFlow.{ControlFlow}
use Rattle.std.specs.declared.ops.ControlFlow.TheVariants.{Continue, Break}
use Rattle.byte_lines.specs.Bytes.{Bytes}
use Rattle.byte_lines.specs.Lines.{lines}
use Rattle.byte_lines.specs.declared.lines.LineSpan.{LineSpan}
use Rattle.head.specs.LineFaults.{judged}
use Rattle.message.specs.Groups.{Group, role, fits}
use Rattle.message.specs.Heads.{at_line, at_empty, at_end, head}
use Rattle.message.specs.HeadWalks.{Walked, Fails}
use Rattle.levels.specs.Fits.{fit_role, FitsIn, leading}
use Rattle.spans.specs.declared.heads.HeadEnd.{HeadEnd}
use Rattle.spans.specs.declared.heads.HeadEnd.TheVariants.{Line, Empty, End, Long}
use Rattle.spans.specs.declared.heads.HeadSpan.{HeadSpan}

-- how many bytes the span takes, with an empty line
abbrev pub width_by : HeadEnd → ℕ → ℕ
width_by (Line fit) n = n
width_by Empty n = n + 2
width_by End n = n
width_by Long n = n

abbrev pub width : HeadSpan → ℕ
width r = width_by r.end r.len

-- the group of a line that ends a head is one of the first n
abbrev pub depth_by : ℕ → HeadEnd → Type 0
depth_by n (Line fit) = FitsIn n fit
depth_by n Empty = Unit {0}
depth_by n End = Unit {0}
depth_by n Long = Unit {0}

abbrev pub in_depth : ℕ → HeadSpan → Type 0
in_depth n r = depth_by n r.end

-- the head of the text s, at the offset `at`, ends as the answer says: its lines are those of the first `len` bytes, or it has the verdict that these have, a fault
abbrev pub FindsBy : List Group → (at : ℕ) → (s : Bytes) → (len : ℕ) → HeadEnd → Type 0
FindsBy gs at s len (Line fit) =
    (fit_role gs fit ≡ role gs (leading (drop len s))) × (fits (fit_role gs fit) ≡ true)
    × (head gs at (lines s) ≡ record { lines = lines (take len s); stop = at_line; from = at + len; rest = lines (drop len s) })
FindsBy gs at s len Empty = head gs at (lines s) ≡ record { lines = lines (take len s); stop = at_empty; from = at + (len + 2); rest = lines (drop (len + 2) s) }
FindsBy gs at s len End = (len ≡ length s) × (head gs at (lines s) ≡ record { lines = lines s; stop = at_end; from = at + length s; rest = [] })
FindsBy gs at s len Long = (judged 0 0 (head gs at (lines s)).lines ≡ judged 0 0 (lines (take len s))) × Fails (judged 0 0 (lines (take len s)))

abbrev pub Finds : List Group → (at : ℕ) → (s : Bytes) → HeadSpan → Type 0
Finds gs at s r = FindsBy gs at s r.len r.end

-- the same of one line behind k bytes: the head goes on behind it, or ends
abbrev pub line_width : ControlFlow HeadSpan ℕ → ℕ
line_width (Continue n) = n
line_width (Break r) = width r

abbrev pub line_in_depth : ℕ → ControlFlow HeadSpan ℕ → Type 0
line_in_depth n (Continue k) = Unit {0}
line_in_depth n (Break r) = in_depth n r

abbrev pub LineFinds : List Group → (at : ℕ) → (s : Bytes) → (k : ℕ) → ControlFlow HeadSpan ℕ → Type 0
LineFinds gs at s k (Continue n) = (k < n) × (n ≤ 8192) × Walked gs at s n
LineFinds gs at s k (Break r) = Finds gs at s r

-- a line behind k bytes that fits no group, by its span in the first `seen` bytes
abbrev pub Ends : (k seen : ℕ) → LineSpan → ControlFlow HeadSpan ℕ
Ends k seen l =
    elim (l.len == l.width) [
      | true ↦ elim (nat_lt seen 8194) [ true ↦ Break (record { len = seen; end = End }) | false ↦ Break (record { len = seen; end = Long }) ]
      | false ↦ elim (l.len == 0) [
        | true ↦ Break (record { len = k; end = Empty })
        | false ↦ elim (nat_le (k + l.width) 8192) [ true ↦ Continue (k + l.width) | false ↦ Break (record { len = k + l.width; end = Long }) ]
      ]
    ]
