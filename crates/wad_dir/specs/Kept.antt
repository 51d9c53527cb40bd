-- What stands where in a WAD in which the REJECT of a map was replaced, or put right behind its SECTORS or TEXTMAP.
use Rattle.std.specs.Prelude.{◌≡◌, ◌≢◌, ℕ, ◌+◌, nat_lt, List, length, slice_get, Some, None, Ok, if◌then◌else◌}
use Rattle.wad_dir.specs.declared.parts.MapSpot.{MapSpot}
use Rattle.wad_dir.specs.Map.{spot_of}
use Rattle.wad_dir.specs.Wad.{WadFile, WadLump, names_of_lumps}

-- where the lump of place k stands then
abbrev pub place_then : MapSpot → ℕ → ℕ
place_then spot k = elim spot.reject [ Some r ↦ k | None ↦ if nat_lt spot.sectors k then k + 1 else k ]

-- where the REJECT stands then
abbrev pub reject_then : MapSpot → ℕ
reject_then spot = elim spot.reject [ Some r ↦ r | None ↦ spot.sectors + 1 ]

-- where the map stands then
abbrev pub spot_then : MapSpot → MapSpot
spot_then spot = record { marker = spot.marker; linedefs = place_then spot spot.linedefs; sidedefs = place_then spot spot.sidedefs; vertexes = place_then spot spot.vertexes; sectors = place_then spot spot.sectors; reject = Some (reject_then spot); format = spot.format; text = spot.text }

-- how many lumps there are then
abbrev pub count_then : MapSpot → ℕ → ℕ
count_then spot n = elim spot.reject [ Some r ↦ n | None ↦ n + 1 ]

-- the name finds the map at its place in the new lumps, with the same four lumps and this REJECT, and every other lump stays, in order
pub record IsMapKept (name : List ℕ) (spot : MapSpot) (table : List ℕ) (old new : WadFile) : Type 0 where
  pub found : spot_of (names_of_lumps new) name ≡ Ok (spot_then spot)
  pub linedefs : slice_get new.lumps (spot_then spot).linedefs ≡ slice_get old.lumps spot.linedefs
  pub sidedefs : slice_get new.lumps (spot_then spot).sidedefs ≡ slice_get old.lumps spot.sidedefs
  pub vertexes : slice_get new.lumps (spot_then spot).vertexes ≡ slice_get old.lumps spot.vertexes
  pub sectors : slice_get new.lumps (spot_then spot).sectors ≡ slice_get old.lumps spot.sectors
  pub reject : (l : WadLump) × (slice_get new.lumps (reject_then spot) ≡ Some l) × (l.bytes ≡ table)
  -- each lump but the REJECT has its name and its bytes, and there is no other
  pub others : (k : ℕ) → spot.reject ≢ Some k → slice_get new.lumps (place_then spot k) ≡ slice_get old.lumps k
  pub count : length new.lumps ≡ count_then spot (length old.lumps)
