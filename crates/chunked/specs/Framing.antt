-- Chunked framing, by what each byte from below does where it stands. Assumes nothing.
use Rattle.std.specs.Prelude.{ℕ, zero, suc, ◌+◌, ◌*◌, Bool, true, false, ◌&&◌, ◌||◌, [], ◌∷◌, Some, None, Option, Ok, Err, Result, ◌==◌, nat_le, nat_lt}
use Rattle.byte_lines.specs.Classes.{blank, hex}
use Rattle.source.specs.declared.ends.End.{End}
use Rattle.source.specs.declared.ends.End.TheVariants.{Clean, Faulty}
use Rattle.byte_lines.specs.Bytes.{Bytes}
use Rattle.source.specs.Meanings.{fault}
use Rattle.chunked.specs.declared.places.Place.{Place}
use Rattle.chunked.specs.declared.places.Place.TheVariants.{Size, Extension, SizeEnd, Data, DataEnd, Trailer, TrailerEmpty, TrailerText, TrailerEnd}

-- the largest size of a chunk, and how many bytes may be taken from below
abbrev pub largest : ℕ
largest = 16777216

abbrev pub limit : ℕ
limit = 33554432

-- what a byte does: the framing goes on at a place, or ends
abbrev pub Step : Type 0
Step = Result Place End

-- 21: something wrong in the size line that starts at `line`
abbrev pub size_fault : (line : ℕ) → Step
size_fault line = Err (Faulty (fault 21 2 line))

-- 23: no CRLF behind the data, at the first byte after it
abbrev pub data_fault : (place : ℕ) → Step
data_fault place = Err (Faulty (fault 23 2 place))

-- one more digit makes the value; a size line has at most 8 digits
abbrev pub digit : (line digits value : ℕ) → Step
digit line digits value = elim (nat_lt digits 8 && nat_le value largest) [ true ↦ Ok (Size line (digits + 1) value) | false ↦ size_fault line ]

-- a byte that is no digit: behind at least one it may begin an extension or the line's CRLF
abbrev pub behind_digits : (line digits value b : ℕ) → Step
behind_digits line zero value b = size_fault line
behind_digits line (suc k) value b =
    elim (b == 13) [
      | true ↦ Ok (SizeEnd line value)
      | false ↦ elim (b == 59 || blank b) [ true ↦ Ok (Extension line value) | false ↦ size_fault line ]
    ]

abbrev pub in_size : (line digits value b : ℕ) → Option ℕ → Step
in_size line digits value b (Some d) = digit line digits (value * 16 + d)
in_size line digits value b None = behind_digits line digits value b

-- an extension holds no CR or LF
abbrev pub in_extension : (line value b : ℕ) → Step
in_extension line value b =
    elim (b == 13) [ true ↦ Ok (SizeEnd line value) | false ↦ elim (b == 10) [ true ↦ size_fault line | false ↦ Ok (Extension line value) ] ]

-- the data of a chunk, or after size 0 the trailer
abbrev pub chunk : (size : ℕ) → Place
chunk zero = Trailer
chunk (suc n) = Data (suc n)

abbrev pub in_data : (left at b : ℕ) → Step
in_data zero at b = elim (b == 13) [ true ↦ Ok (DataEnd at) | false ↦ data_fault at ]
in_data (suc n) at b = Ok (Data n)

-- what the byte b, at the offset `at`, does at a place
abbrev pub step : Place → (at b : ℕ) → Step
step (Size line digits value) at b = in_size line digits value b (hex b)
step (Extension line value) at b = in_extension line value b
step (SizeEnd line value) at b = elim (b == 10) [ true ↦ Ok (chunk value) | false ↦ size_fault line ]
step (Data left) at b = in_data left at b
step (DataEnd place) at b = elim (b == 10) [ true ↦ Ok (Size (at + 1) 0 0) | false ↦ data_fault place ]
step Trailer at b = elim (b == 13) [ true ↦ Ok TrailerEmpty | false ↦ Ok TrailerText ]
step TrailerEmpty at b = elim (b == 10) [ true ↦ Err Clean | false ↦ elim (b == 13) [ true ↦ Ok TrailerEnd | false ↦ Ok TrailerText ] ]
step TrailerText at b = elim (b == 13) [ true ↦ Ok TrailerEnd | false ↦ Ok TrailerText ]
step TrailerEnd at b = elim (b == 10) [ true ↦ Ok Trailer | false ↦ elim (b == 13) [ true ↦ Ok TrailerEnd | false ↦ Ok TrailerText ] ]

-- what framing makes of the bytes below: the bytes to come and their end, how many bytes are taken from below, and those that are left there
pub record Framed : Type 0 where
  pub bytes : Bytes
  pub ending : End
  pub taken : ℕ
  pub left : Bytes

abbrev pub stops : End → (at : ℕ) → Bytes → Framed
stops e at s = record { bytes = []; ending = e; taken = at; left = s }

abbrev pub giving : ℕ → Framed → Framed
giving b f = record { bytes = b ∷ f.bytes; ending = f.ending; taken = f.taken; left = f.left }

-- a byte of a chunk's data
abbrev pub is_data : Place → Bool
is_data (Data (suc n)) = true
is_data p = false

-- is one of those to come, and no other byte is
abbrev pub delivers : Place → ℕ → Framed → Framed
delivers p b f = elim (is_data p) [ true ↦ giving b f | false ↦ f ]

-- 26: one more byte is needed than may be taken
abbrev pub overrun : End
overrun = Faulty (fault 26 2 limit)

-- below has ended although more is needed: 24, or the fault from below as it is
abbrev pub early : (at : ℕ) → End → End
early at Clean = Faulty (fault 24 2 at)
early at (Faulty f) = Faulty f

-- from the offset `at` on, at a place
unfoldable pub framed : Place → (at : ℕ) → Bytes → End → Framed
framed p at [] e = stops (elim (nat_lt at limit) [ true ↦ early at e | false ↦ overrun ]) at []
framed p at (b ∷ s) e =
    elim (nat_lt at limit) [
      | true ↦ elim (step p at b) [ Ok q ↦ delivers p b (framed q (at + 1) s e) | Err x ↦ stops x (at + 1) s ]
      | false ↦ stops overrun at (b ∷ s)
    ]

-- the framing of all that is to come below, and of its end
abbrev pub unframed : Bytes → End → Framed
unframed s e = framed (Size 0 0 0) 0 s e
