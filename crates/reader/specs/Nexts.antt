-- What the steps of next do. Assumes nothing.
use Rattle.std.specs.Prelude.{◌≡◌, ℕ, zero, suc, ◌+◌, List, [], ◌∷◌, ◌++◌, drop, Some, None, Option}
use Rattle.byte_lines.specs.Bytes.{Bytes}
use Rattle.byte_lines.specs.Lines.{Line, lines}
use Rattle.source.specs.declared.ends.End.{End}
use Rattle.source.specs.declared.ends.End.TheVariants.{Clean, Faulty}
use Rattle.source.specs.Meanings.{Meaning as SourceMeaning, fault}
use Rattle.coding.specs.declared.decoder.Coding.{Coding}
use Rattle.coding.specs.Decoding.{Decoded}
use Rattle.coding.specs.Codings.{decoded}
use Rattle.input.specs.Inputs.{Meaning as InputMeaning, meaning as input_meaning}
use Rattle.message.specs.Groups.{Group}
use Rattle.message.specs.Heads.{Stop as HeadStop, at_line, at_empty, at_end}
use Rattle.message.specs.Bodies.{body, body_end, end_in}
use Rattle.message.specs.Entries.{Entry}
use Rattle.message.specs.Rows.{heading, passing, last_entry, row}
use Rattle.levels.specs.declared.levels.Fit.{Fit}
use Rattle.levels.specs.declared.levels.Fit.TheVariants.{Separates, Closes}
use Rattle.levels.specs.Opened.{groups}
use Rattle.spans.specs.declared.heads.HeadEnd.{HeadEnd}
use Rattle.spans.specs.declared.heads.HeadEnd.TheVariants.{Line as EndsAtLine, Empty, End as EndsAtEnd, Long}
use Rattle.calls.specs.ReaderMeaning.{opens}
use Rattle.reader.specs.declared.reader.Stage.{Stage}
use Rattle.reader.specs.declared.reader.Stage.TheVariants.{Head, Body, Between, Line as AtGroupLine, Over}
use Rattle.reader.specs.declared.reader.Reader.{Reader}
use Rattle.reader.specs.Readers.{meaning}
use Rattle.source.specs.declared.sources.Source.{Ghosts}

-- a group is closed next, and no entity opened
abbrev pub Closing : Fit → Type 0
Closing (Separates zero) = ⊥
Closing (Separates (suc i)) = Unit {0}
Closing (Closes i) = Unit {0}

-- it is settled what next tells: an entity, a closing, or the last entry
abbrev pub Standing : Stage → Type 0
Standing Head = Unit {0}
Standing Body = ⊥
Standing Between = ⊥
Standing (AtGroupLine fit at) = Closing fit
Standing (Over last) = Unit {0}

-- the reader stands behind a line of a group, or at the message's end
abbrev pub Passed : Stage → Type 0
Passed Head = ⊥
Passed Body = ⊥
Passed Between = ⊥
Passed (AtGroupLine fit at) = Unit {0}
Passed (Over last) = Unit {0}

-- the input's end, once it is known, as it is met inside so many groups, at the offset `at`
abbrev pub end_by : Option End → (depth at : ℕ) → End
end_by None depth at = Clean
end_by (Some (Faulty f)) depth at = Faulty f
end_by (Some Clean) zero at = Clean
end_by (Some Clean) (suc depth) at = Faulty (fault 32 3 at)

-- the fit of a line where one group more is open inside the others
abbrev pub deeper_of : Fit → Fit
deeper_of (Separates i) = Separates (suc i)
deeper_of (Closes i) = Closes (suc i)

-- the mark with which a line closes the innermost group, and where the reader stands then
abbrev pub closing_by : Fit → (at : ℕ) → ℕ × Stage
closing_by (Separates zero) at = (4, Head)
closing_by (Separates (suc i)) at = (4, AtGroupLine (Separates i) at)
closing_by (Closes zero) at = (0, Between)
closing_by (Closes (suc i)) at = (4, AtGroupLine (Closes i) at)

-- the entry x was told
pub record Tells {S : Type 0} {G : Ghosts S} (source : S → SourceMeaning) (before after : Reader S G) (x : Entry) : Type 0 where
  pub ahead : (meaning source before).ahead ≡ x ∷ (meaning source after).ahead
  pub part : (meaning source after).part ≡ opens x
  pub number : after.number ≡ before.number
  pub delivered : after.delivered ≡ before.delivered

-- the decoded body that begins at the offset `from`, with the lines from there on, inside the groups gs
abbrev pub body_at : Coding → List Group → (from : ℕ) → List Line → End → Decoded
body_at c gs from ls e = decoded c from (body gs ls) (body_end gs from ls e)

-- what ends a head
abbrev pub stop_by : HeadEnd → HeadStop
stop_by (EndsAtLine fit) = at_line
stop_by Empty = at_empty
stop_by EndsAtEnd = at_end
stop_by Long = at_end

-- the row behind a head, by what ends it, where the groups hs open as it ends
abbrev pub behind_head : (e : End) (hs gs : List Group) (n : ℕ) → HeadStop → (from : ℕ) → List Line → List Entry
behind_head e hs gs n at_line from rest = row e gs n (heading hs) from rest
behind_head e hs gs n at_empty from rest = row e (hs ++ gs) n passing from rest
behind_head e hs gs n at_end from rest = last_entry (end_in (hs ++ gs) from e) n from

module _ {S : Type 0} {G : Ghosts S} (source : S → SourceMeaning) where
  -- a leaf's part is open, whose body begins behind the first `width` bytes of the input
  pub record LeafOpens (before after : Reader S G) (width : ℕ) (c : Coding) : Type 0 where
    pub ahead : (i : InputMeaning) → i ≡ input_meaning source before.scan.lines.input
        → (meaning source after).ahead ≡ row i.ending (groups before.scan.lines.levels) (before.entities + 1) passing (i.offset + width) (lines (drop width i.left))
    pub part : (i : InputMeaning) → i ≡ input_meaning source before.scan.lines.input → (d : Decoded)
        → d ≡ body_at c (groups before.scan.lines.levels) (i.offset + width) (lines (drop width i.left)) i.ending
        → (meaning source after).part ≡ Some (record { number = before.entities + 1; left = d.bytes; ending = d.ending })
    pub number : after.number ≡ before.number
    pub delivered : after.delivered ≡ before.delivered

  -- a group is open behind the first `width` bytes of the input, which are its head
  pub record GroupOpens (before after : Reader S G) (width : ℕ) (end : HeadEnd) (boundary : Bytes) : Type 0 where
    pub ahead : (i : InputMeaning) → i ≡ input_meaning source before.scan.lines.input
        → (meaning source after).ahead
        ≡ behind_head i.ending (record { number = before.entities + 1; boundary = boundary } ∷ []) (groups before.scan.lines.levels) (before.entities + 1) (stop_by end)
        (i.offset + width) (lines (drop width i.left))
    pub part : (meaning source after).part ≡ None
    pub number : after.number ≡ before.number
    pub delivered : after.delivered ≡ before.delivered
