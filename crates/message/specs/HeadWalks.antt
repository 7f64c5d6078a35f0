-- A head that is gone through line by line. Assumes nothing.
use Rattle.std.specs.Prelude.{◌≡◌, ℕ, ◌+◌, ◌≤◌, true, List, ◌∷◌, ◌++◌, length, take, drop}
use Rattle.byte_lines.specs.Bytes.{Bytes}
use Rattle.byte_lines.specs.Lines.{Line, AllEnded, lines}
use Rattle.head.specs.LineFaults.{Verdict, passes, faulty}
use Rattle.message.specs.Groups.{Group}
use Rattle.message.specs.Heads.{Head, head}

-- lines of a head before the rest of it
abbrev pub behind : List Line → Head → Head
behind ls h = record { lines = ls ++ h.lines; stop = h.stop; from = h.from; rest = h.rest }

-- the first k bytes of the text s, which begins at the offset `at`, are whole lines of its head
pub record Walked (gs : List Group) (at : ℕ) (s : Bytes) (k : ℕ) : Type 0 where
  pub within : k ≤ length s
  pub ended : AllEnded (lines (take k s))
  pub same : head gs at (lines s) ≡ behind (lines (take k s)) (head gs (at + k) (lines (drop k s)))

-- the line that stands behind k bytes, with its CRLF
pub record WholeLine (s : Bytes) (k len : ℕ) : Type 0 where
  pub within : k + (len + 2) ≤ length s
  pub counts : length (take len (drop k s)) ≡ len
  pub stays : (q : Bytes) → lines (take (len + 2) (drop k s) ++ q) ≡ record { content = take len (drop k s); ended = true } ∷ lines q

-- the verdict on a head's lines is a fault
abbrev pub Fails : Verdict → Type 0
Fails (passes n) = ⊥
Fails (faulty number offset) = Unit {0}
