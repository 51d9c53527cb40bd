-- How a WAD is written (the Unofficial Doom Specs on the WAD file), and which WAD is written.
use Rattle.std.specs.Prelude.{◌≡◌, ◌≤◌, ◌<◌, ◌^◌, Ok, ℕ, ◌+◌, ◌*◌, List, [], ◌∷◌, ◌++◌, length, Some, None, slice_set, slice_index_or, insert, sum_by, codes}
use Rattle.std.specs.List.{flat_map, AllByRecursion}
use Rattle.std.specs.Int.{w32, to_le_bytes}
use Rattle.sight_names.specs.declared.limits.TheConstants.{MOST_LUMPS}
use Rattle.wad_dir.specs.declared.parts.MapSpot.{MapSpot}
use Rattle.wad_dir.specs.Wad.{WadFile, WadLump, wad_magic, wad_of}

-- how many bytes all lumps have
abbrev pub body_len : List WadLump → ℕ
body_len lumps = sum_by (λ (l : WadLump). length l.bytes) lumps

-- the kind, the number of lumps, and where the directory begins
abbrev pub header : WadFile → List ℕ
header w = wad_magic w.kind ++ to_le_bytes w32 (length w.lumps) ++ to_le_bytes w32 (12 + body_len w.lumps)

-- the bytes of all lumps, in order
abbrev pub body : List WadLump → List ℕ
body lumps = flat_map (λ (l : WadLump). l.bytes) lumps

-- the directory of lumps that begin at a place and follow each other without gaps
abbrev pub directory_from : ℕ → List WadLump → List ℕ
directory_from at [] = []
directory_from at (l ∷ ls) = (to_le_bytes w32 at ++ to_le_bytes w32 (length l.bytes) ++ l.name) ++ directory_from (at + length l.bytes) ls

-- a WAD as it is written: the header, the lumps from byte 12 on, the directory
unfoldable pub print : WadFile → List ℕ
print w = header w ++ body w.lumps ++ directory_from 12 w.lumps

-- how long that is, where each name has eight bytes
abbrev pub printed_len : List WadLump → ℕ
printed_len lumps = 12 + body_len lumps + 16 * length lumps

-- a lump with other bytes
abbrev pub with_bytes : WadLump → List ℕ → WadLump
with_bytes l bytes = record { name = l.name; bytes = bytes }

-- a REJECT with these bytes
abbrev pub reject_lump : List ℕ → WadLump
reject_lump table = record { name = codes "REJECT" ++ 0 ∷ 0 ∷ []; bytes = table }

-- the lumps with the map's REJECT replaced, or put right behind its SECTORS
abbrev pub lumps_with_reject : List WadLump → MapSpot → List ℕ → List WadLump
lumps_with_reject lumps spot table = elim spot.reject [
  | Some k ↦ slice_set lumps k (with_bytes (slice_index_or lumps k (reject_lump table)) table)
  | None ↦ insert lumps (spot.sectors + 1) (reject_lump table)
]

-- the WAD in which these bytes are the REJECT of the map at the spot
abbrev pub with_reject : WadFile → MapSpot → List ℕ → WadFile
with_reject w spot table = record { kind = w.kind; lumps = lumps_with_reject w.lumps spot table }

-- ---- laws of the format

-- each name has eight bytes, and the numbers fit
pub record IsPrintable (w : WadFile) : Type 0 where
  pub names : AllByRecursion (λ (l : WadLump). length l.name ≡ 8) w.lumps
  pub few : length w.lumps ≤ MOST_LUMPS
  pub short : printed_len w.lumps < 2 ^ 31

-- what is printed has the length that the formula says
abbrev pub PrintsItsLength : Type 0
PrintsItsLength = (w : WadFile) → AllByRecursion (λ (l : WadLump). length l.name ≡ 8) w.lumps → length (print w) ≡ printed_len w.lumps

-- what is printed is read as the same WAD
abbrev pub ReadsWhatIsPrinted : Type 0
ReadsWhatIsPrinted = (w : WadFile) → IsPrintable w → wad_of (print w) ≡ Ok w
