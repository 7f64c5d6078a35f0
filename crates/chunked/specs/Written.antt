-- Chunked framing as it is written, and what the framing says of it. Assumes nothing.
use Rattle.std.specs.Prelude.{◌≡◌, ℕ, ◌+◌, ◌*◌, ◌<◌, ◌≤◌, Bool, true, not, ◌&&◌, ◌||◌, List, [], ◌∷◌, ◌++◌, length, take, Some, None, Option, ◌==◌, ◌≢◌}
use Rattle.std.specs.List.{flat_map, AllByRecursion}
use Rattle.byte_lines.specs.Classes.{blank, hex}
use Rattle.source.specs.declared.ends.End.{End}
use Rattle.source.specs.declared.ends.End.TheVariants.{Clean, Faulty}
use Rattle.byte_lines.specs.Bytes.{Bytes}
use Rattle.source.specs.Meanings.{fault}
use Rattle.chunked.specs.Framing.{Framed, unframed, largest, limit}

abbrev pub crlf : Bytes
crlf = 13 ∷ (10 ∷ [])

-- the value of hexadecimal digits behind the value v, or none where a byte is no digit
unfoldable pub value_from : ℕ → Bytes → Option ℕ
value_from v [] = Some v
value_from v (b ∷ bs) = elim (hex b) [ Some d ↦ value_from (v * 16 + d) bs | None ↦ None ]

-- no CR and no LF stands in it
unfoldable pub unbroken : Bytes → Bool
unbroken [] = true
unbroken (b ∷ bs) = not (b == 13 || b == 10) && unbroken bs

-- nothing, or `;` or a blank and then no CR or LF
abbrev pub is_extension : Bytes → Bool
is_extension [] = true
is_extension (b ∷ bs) = (b == 59 || blank b) && unbroken bs

-- no CRLF stands in it
unfoldable pub one_line : Bytes → Bool
one_line [] = true
one_line (b ∷ []) = true
one_line (b ∷ c ∷ cs) = not (b == 13 && c == 10) && one_line (c ∷ cs)

pub record SizeLine : Type 0 where
  pub digits : Bytes
  pub extension : Bytes

-- a size line that says n
pub record Says (l : SizeLine) (n : ℕ) : Type 0 where
  pub some : 0 < length l.digits
  pub few : length l.digits ≤ 8
  pub value : value_from 0 l.digits ≡ Some n
  pub small : n ≤ largest
  pub extends : is_extension l.extension ≡ true

abbrev pub written_line : SizeLine → Bytes
written_line l = l.digits ++ (l.extension ++ crlf)

pub record Chunk : Type 0 where
  pub line : SizeLine
  pub content : Bytes

-- its size line says how many bytes it has, at least one
pub record IsChunk (c : Chunk) : Type 0 where
  pub says : Says c.line (length c.content)
  pub some : 0 < length c.content

abbrev pub written_chunk : Chunk → Bytes
written_chunk c = written_line c.line ++ (c.content ++ crlf)

-- a trailer line: not empty
pub record IsTrailer (t : Bytes) : Type 0 where
  pub some : 0 < length t
  pub line : one_line t ≡ true

-- chunks, a last one of size 0, and trailer lines up to an empty one
pub record Body : Type 0 where
  pub chunks : List Chunk
  pub last : SizeLine
  pub trailer : List Bytes

pub record IsBody (m : Body) : Type 0 where
  pub chunks : AllByRecursion IsChunk m.chunks
  pub last : Says m.last 0
  pub trailer : AllByRecursion IsTrailer m.trailer

abbrev pub written_chunks : List Chunk → Bytes
written_chunks cs = flat_map written_chunk cs

abbrev pub written_trailer : List Bytes → Bytes
written_trailer ts = flat_map (λ (t : Bytes). t ++ crlf) ts

abbrev pub written : Body → Bytes
written m = written_chunks m.chunks ++ (written_line m.last ++ (written_trailer m.trailer ++ crlf))

-- all chunk data, joined
abbrev pub contents : List Chunk → Bytes
contents cs = flat_map (λ (c : Chunk). c.content) cs

abbrev pub complete : Body → (left : Bytes) → Framed
complete m left = record { bytes = contents m.chunks; ending = Clean; taken = length (written m); left = left }

-- a lawful body, whatever stands behind it, gives its data and a clean end, and what stands behind it is left
abbrev pub ReadsWhatIsWritten : Type 0
ReadsWhatIsWritten = (m : Body) → IsBody m → length (written m) ≤ limit → (rest : Bytes) (e : End) → unframed (written m ++ rest) e ≡ complete m rest

-- the end is clean for nothing else
abbrev pub CleanIsWritten : Type 0
CleanIsWritten = (s : Bytes) (e : End) → (unframed s e).ending ≡ Clean → (m : Body) × (IsBody m × ((s ≡ written m ++ (unframed s e).left) × (unframed s e ≡ complete m (unframed s e).left)))

-- no byte before the last one taken offends: cut anywhere before it, the framing has merely ended too early
abbrev pub SoundSoFar : Type 0
SoundSoFar = (s : Bytes) (e : End) (k : ℕ) → k < (unframed s e).taken → (unframed (take k s) Clean).ending ≡ Faulty (fault 24 2 k)

-- and where cut behind it the framing has not merely ended too early, the bytes taken decide, whatever follows: the earliest offending byte does
abbrev pub TakenDecides : Type 0
TakenDecides =
    (s : Bytes) (e : End) → ((unframed (take (unframed s e).taken s) Clean).ending ≢ Faulty (fault 24 2 (unframed s e).taken)) → (t : Bytes) (e' : End)
    → unframed (take (unframed s e).taken s ++ t) e' ≡ record { bytes = (unframed s e).bytes; ending = (unframed s e).ending; taken = (unframed s e).taken; left = t }

-- where below ends clean, 21 has the place of a size line's start: whole chunks stand before it, and their data are the bytes to come
abbrev pub SizeFaultPlace : Type 0
SizeFaultPlace =
    (s : Bytes) (place : ℕ) → (unframed s Clean).ending ≡ Faulty (fault 21 2 place)
    → (cs : List Chunk) × (AllByRecursion IsChunk cs × ((take place s ≡ written_chunks cs) × ((unframed s Clean).bytes ≡ contents cs)))

-- and 23 that of the first byte after a chunk's data
abbrev pub DataFaultPlace : Type 0
DataFaultPlace =
    (s : Bytes) (place : ℕ) → (unframed s Clean).ending ≡ Faulty (fault 23 2 place)
    → (cs : List Chunk) × ((c : Chunk) × (AllByRecursion IsChunk cs × (IsChunk c
    × ((take place s ≡ written_chunks cs ++ (written_line c.line ++ c.content)) × ((unframed s Clean).bytes ≡ contents cs ++ c.content)))))

-- what is taken and what is left are all that was to come
abbrev pub NothingLost : Type 0
NothingLost = (s : Bytes) (e : End) → s ≡ take (unframed s e).taken s ++ (unframed s e).left

pub record FramingLaws : Type 0 where
  pub reads : ReadsWhatIsWritten
  pub clean : CleanIsWritten
  pub sound : SoundSoFar
  pub decides : TakenDecides
  pub size : SizeFaultPlace
  pub content : DataFaultPlace
  pub whole : NothingLost
