-- The maps of a WAD that are asked for, and what finding them can end with.
use Rattle.std.specs.Prelude.{ℕ, List, Option, Result, Ok, IsSome, ⊤}
use Rattle.shelf_io.specs.Shelf.{Files}
use Rattle.wad_dir.specs.Wad.{WadFile, names_of_lumps}
use Rattle.map_answers.specs.declared.sight_status.status.Status.{Status}
use Rattle.map_answers.specs.declared.sight_status.status.Status.TheVariants as status
use Rattle.map_answers.specs.SightStatus.Answer.{◌>>=◌}
use Rattle.sight_run.specs.All.{maps_in, wad_in}

-- a WAD, and the names of those of its maps that are asked for, in the order of their entries
pub record AskedMaps : Type 0 where
  pub wad : WadFile
  pub maps : List (List ℕ)

-- the maps of the WAD in the file of this name, all or those of some names, or the first check that fails
unfoldable pub asked_in : List ℕ → Option (List (List ℕ)) → Files → Result AskedMaps Status
asked_in wad only files = do
  w ← wad_in wad files
  maps ← maps_in (names_of_lumps w) only
  Ok (record { wad = w; maps = maps })

-- the first name that is none of a map's, or want of memory
abbrev pub IsOfNames : Option (List (List ℕ)) → Status → Type 0
IsOfNames only (status.NoMap fault) = IsSome only
IsOfNames only (status.Memory _) = ⊤
IsOfNames only other = ⊥
