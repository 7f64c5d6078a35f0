-- The meanings of the sources over a slice: a block, and parcels. Assumes nothing.
use Rattle.std.specs.Prelude.{ℕ, zero, suc, min, List, [], ◌∷◌, length, take, drop}
use Rattle.source.specs.declared.block.Block.{Block}
use Rattle.source.specs.declared.parcels.Parcels.{Parcels}
use Rattle.source.specs.declared.ends.End.TheVariants.{Clean}
use Rattle.byte_lines.specs.Bytes.{Bytes, Answer}
use Rattle.source.specs.Meanings.{Meaning, means, gave, ended, pulled}

-- all of a slice, then a clean end
abbrev pub block_meaning : Block → Meaning
block_meaning s = means s.rest.now Clean

-- a pull that gives as much as the buffer holds: the answer, the meaning after it, and the buffer after it
abbrev pub most : Meaning → Bytes → Answer × Meaning × Bytes
most m buffer = pulled (min (length m.coming) (length buffer)) m.coming m.ending buffer

abbrev pub parcels_meaning : Parcels → Meaning
parcels_meaning s = block_meaning s.block

-- a parcel before others; one with no bytes is passed over
abbrev pub before : Bytes → List Bytes → List Bytes
before [] ps = ps
before (b ∷ bs) ps = (b ∷ bs) ∷ ps

-- the parcels into which a list of lengths cuts a slice: a length beyond it is clipped, and bytes after the last length are one more parcel
unfoldable pub cut : List ℕ → Bytes → List Bytes
cut [] s = before s []
cut (n ∷ ns) s = before (take n s) (cut ns (drop n s))

-- the parcels that are left, of which the first may be begun
abbrev pub parcels_left : Parcels → List Bytes
parcels_left s = cut (s.left ∷ s.lengths.now) s.block.rest.now

-- a pull into a buffer of so many bytes gives as much as it can of the first parcel, and no more: the answer, and the parcels left after it
abbrev pub portion : ℕ → List Bytes → Answer × List Bytes
portion zero ps = (gave 0, ps)
portion (suc room) [] = (ended Clean, [])
portion (suc room) (p ∷ ps) = (gave (min (suc room) (length p)), before (drop (suc room) p) ps)
