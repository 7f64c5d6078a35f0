-- What an input means: the first 16,777,216 bytes of its source, from where it stands. Assumes nothing.
use Rattle.std.specs.Prelude.{◌≡◌, ℕ, ◌+◌, ◌-◌, cond, [], ◌++◌, length, take, drop, Some, None, Option, nat_le}
use Rattle.byte_lines.specs.Bytes.{Bytes}
use Rattle.source.specs.declared.ends.End.{End}
use Rattle.source.specs.declared.ends.End.TheVariants.{Faulty}
use Rattle.source.specs.Meanings.{Meaning as SourceMeaning, fault}
use Rattle.input.specs.declared.window.Input.{Input}
use Rattle.source.specs.declared.sources.Source.{Ghosts}

-- what is left of the input, its end, and the offset of the first byte left
pub record Meaning : Type 0 where
  pub left : Bytes
  pub ending : End
  pub offset : ℕ

-- the source has more bytes than the limit: fault 31 there
abbrev pub overlong : End
overlong = Faulty (fault 31 3 16777216)

-- the end of an input that takes `room` bytes of these: the source's own end if there are no more, else the fault
abbrev pub end_of : (room : ℕ) → Bytes → End → End
end_of room s e = cond (nat_le (length s) room) e overlong

-- the first bytes of a source, none of them passed
abbrev pub first : (room : ℕ) → SourceMeaning → Meaning
first room m = record { left = take room m.coming; ending = end_of room m.coming m.ending; offset = 0 }

-- the first k bytes are passed over
abbrev pub passed : ℕ → Meaning → Meaning
passed k m = record { left = drop k m.left; ending = m.ending; offset = m.offset + k }

-- what is left behind what is shown, while the end is not known and once it is
abbrev pub behind : (room : ℕ) → SourceMeaning → Option End → Bytes
behind room m None = take room m.coming
behind room m (Some e) = []

-- and the end behind that
abbrev pub finish : (room : ℕ) → SourceMeaning → Option End → End
finish room m None = end_of room m.coming m.ending
finish room m (Some e) = e

-- the bytes v are shown, the first has that offset, the source means m behind them, and the end may be known
abbrev pub standing : (v : Bytes) (at : ℕ) (m : SourceMeaning) → Option End → Meaning
standing v at m e = record { left = v ++ behind (16777216 - (at + length v)) m e; ending = finish (16777216 - (at + length v)) m e; offset = at }

-- what the window shows
unfoldable pub shown : {S : Type 0} {G : Ghosts S} → Input S G → Bytes
shown i = take (i.to - i.from) (drop i.from i.window)

-- the input's end, once it is known
unfoldable pub known : {S : Type 0} {G : Ghosts S} → Input S G → Option End
known i = i.end

-- what the input means, by what its source means
unfoldable pub meaning : {S : Type 0} {G : Ghosts S} → (S → SourceMeaning) → Input S G → Meaning
meaning source i = standing (shown i) i.at (source i.source) i.end

-- what is left behind what the window shows
unfoldable pub unseen : {S : Type 0} {G : Ghosts S} → (S → SourceMeaning) → Input S G → Bytes
unseen source i = behind (16777216 - (i.at + length (shown i))) (source i.source) i.end

-- the window shows all that is left, and the end e behind it is known
pub record AllShown {S : Type 0} {G : Ghosts S} (source : S → SourceMeaning) (i : Input S G) (e : End) : Type 0 where
  pub all : (meaning source i).left ≡ shown i
  pub is : (meaning source i).ending ≡ e
  pub told : known i ≡ Some e

-- what the answer to the question for the end says
abbrev pub Knows : {S : Type 0} {G : Ghosts S} → (S → SourceMeaning) → Input S G → Option End → Type 0
Knows source i None = known i ≡ None
Knows source i (Some e) = AllShown source i e

-- the meaning has not changed, and the window shows what it showed, and perhaps more
pub record Kept {S : Type 0} {G : Ghosts S} (source : S → SourceMeaning) (before after : Input S G) : Type 0 where
  pub means : meaning source after ≡ meaning source before
  pub shows : take (length (shown before)) (shown after) ≡ shown before
