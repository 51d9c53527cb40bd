-- The lumps with other REJECTs, put together in one pass from the first to the last.
use Rattle.std.specs.Prelude.{◌≡◌, ℕ, ◌+◌, ◌≤◌, ◌<◌, List, [], ◌∷◌, ◌++◌, drop, slice_index_or, slice_range, false, Some, None, Ok, Err}
use Rattle.wad_dir.specs.declared.parts.MapSpot.{MapSpot}
use Rattle.wad_dir.specs.Kept.{reject_then}
use Rattle.wad_dir.specs.Map.{is_run_name, spot_of}
use Rattle.wad_dir.specs.Print.{reject_lump, with_bytes}
use Rattle.wad_dir.specs.Wad.{WadLump}
use Rattle.wad_dir.specs.declared.all_maps.parts.Change.{Change}

-- the place of the first lump behind the REJECT of the map at the spot, or behind its SECTORS where it has none
abbrev pub place_behind_reject : MapSpot → ℕ
place_behind_reject spot = elim spot.reject [ Some r ↦ r + 1 | None ↦ spot.sectors + 1 ]

-- the REJECT of the map at the spot with these bytes
abbrev pub reject_with : List WadLump → MapSpot → List ℕ → WadLump
reject_with lumps spot table = elim spot.reject [ Some r ↦ with_bytes (slice_index_or lumps r (reject_lump table)) table | None ↦ reject_lump table ]

-- the lumps from one place on up to the REJECT of the map at the spot, and this REJECT with these bytes
abbrev pub piece : List WadLump → ℕ → MapSpot → List ℕ → List WadLump
piece lumps done spot table = slice_range lumps done (reject_then spot) ++ reject_with lumps spot table ∷ []

-- the lumps from one place on with the changes made, where the lumps have these names
abbrev pub spliced : List (List ℕ) → List WadLump → ℕ → List Change → List WadLump
spliced names lumps done [] = drop done lumps
spliced names lumps done (c ∷ cs) = elim (spot_of names c.name) [
  | Ok spot ↦ piece lumps done spot c.table ++ spliced names lumps (place_behind_reject spot) cs
  | Err fault ↦ spliced names lumps done cs
]

-- the map of the change begins at a place or behind it, its REJECT lies behind its marker and among so many lumps, and its
-- name isn't that of a map's lump
pub record IsChangeBehind (names : List (List ℕ)) (len done : ℕ) (c : Change) : Type 0 where
  pub spot : MapSpot
  pub found : spot_of names c.name ≡ Ok spot
  pub begins : done ≤ spot.marker
  pub inside : spot.marker < reject_then spot
  pub ends : place_behind_reject spot ≤ len
  pub other : is_run_name c.name ≡ false

-- each map begins behind the REJECT of the one before it
abbrev pub AreSpaced : List (List ℕ) → ℕ → ℕ → List Change → Type 0
AreSpaced names len done [] = done ≤ len
AreSpaced names len done (c ∷ cs) = (h : IsChangeBehind names len done c) × AreSpaced names len (place_behind_reject h.spot) cs
