-- Parts of byte strings. Assumes nothing.
use Rattle.std.specs.Prelude.{ℕ, Bool, true, false, ◌&&◌, ◌||◌, [], ◌∷◌, map, ◌==◌}
use Rattle.std.specs.Char.{to_ascii_lowercase}
use Rattle.std.specs.Str.{bytes_eq}
use Rattle.byte_lines.specs.Bytes.{Bytes}
use Rattle.byte_lines.specs.Classes.{blank}

-- b stands in s
abbrev pub has : ℕ → Bytes → Bool
has b [] = false
has b (c ∷ cs) = b == c || has b cs

-- each byte of s passes
abbrev pub every : (ℕ → Bool) → Bytes → Bool
every p [] = true
every p (b ∷ bs) = p b && every p bs

-- what stands in s before its first b, and after it
unfoldable pub before : ℕ → Bytes → Bytes
before b [] = []
before b (c ∷ cs) = elim (b == c) [ true ↦ [] | false ↦ c ∷ before b cs ]

unfoldable pub after : ℕ → Bytes → Bytes
after b [] = []
after b (c ∷ cs) = elim (b == c) [ true ↦ cs | false ↦ after b cs ]

-- s without the blanks at its start, at its end, at both
unfoldable pub trim_start : Bytes → Bytes
trim_start [] = []
trim_start (b ∷ bs) = elim (blank b) [ true ↦ trim_start bs | false ↦ b ∷ bs ]

-- a text with b before it, of which a blank is dropped where nothing follows
abbrev pub kept : ℕ → Bytes → Bytes
kept b [] = elim (blank b) [ true ↦ [] | false ↦ b ∷ [] ]
kept b (c ∷ cs) = b ∷ (c ∷ cs)

unfoldable pub trim_end : Bytes → Bytes
trim_end [] = []
trim_end (b ∷ bs) = kept b (trim_end bs)

abbrev pub trim : Bytes → Bytes
trim s = trim_start (trim_end s)

-- s is that word, whatever the case of its letters; the word is in small letters
abbrev pub named : (word : Bytes) → Bytes → Bool
named word s = bytes_eq word (map to_ascii_lowercase s)
