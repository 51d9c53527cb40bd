-- The WAD in the bytes of a file, and the map of a name in it.
use Rattle.std.specs.Prelude.{◌≡◌, ℕ, Bool, true, false, List, [], Option, Some, None, Result, Ok, Err, slice_index_or}
use Rattle.sight_names.specs.declared.faults.WadFault.{WadFault}
use Rattle.sight_names.specs.declared.faults.WadFault.TheVariants as wad
use Rattle.sight_names.specs.declared.faults.MapFault.{MapFault}
use Rattle.sight_names.specs.declared.faults.LumpFault.{LumpFault}
use Rattle.sight_names.specs.declared.faults.LumpFault.TheVariants as lump
use Rattle.sight_names.specs.declared.names.Reading.{Reading}
use Rattle.sight_names.specs.Map.{Map}
use Rattle.udmf_map.specs.declared.faults.TextFault.{TextFault}
use Rattle.udmf_map.specs.declared.faults.TextFault.TheVariants as text
use Rattle.udmf_map.specs.Lumps.{LumpBytes, lumps_of_text}
use Rattle.sight_names.specs.Lumps.{map_of_lumps, lump_fault}
use Rattle.wad_dir.specs.declared.parts.MapSpot.{MapSpot}
use Rattle.wad_dir.specs.Wad.{WadFile, names_of_lumps, wad_of}
use Rattle.wad_dir.specs.Map.{spot_of}
use Rattle.map_answers.specs.declared.sight_status.status.Bound.TheVariants as bound
use Rattle.map_answers.specs.declared.sight_status.status.Status.{Status}
use Rattle.map_answers.specs.declared.sight_status.status.Status.TheVariants as status
use Rattle.map_answers.specs.SightStatus.Answer.{◌>>=◌, Answer}

-- the WAD of a file, where the map's lumps stand in it, and the map
pub record LocatedMap : Type 0 where
  pub wad : WadFile
  pub spot : MapSpot
  pub map : Map

-- the status of each fault

abbrev pub of_wad : Result WadFile WadFault → Result WadFile Status
of_wad (Ok file) = Ok file
of_wad (Err wad.TooManyLumps) = Err (status.Limit bound.Lumps)
of_wad (Err (wad.Memory _)) = Err (status.Memory tt)
of_wad (Err fault) = Err (status.NotWad fault)

abbrev pub of_spot : Result MapSpot MapFault → Result MapSpot Status
of_spot (Ok spot) = Ok spot
of_spot (Err fault) = Err (status.NoMap fault)

abbrev pub of_lumps : Option LumpFault → Map → Result Map Status
of_lumps None map = Ok map
of_lumps (Some (lump.TooManySectors count)) map = Err (status.Limit bound.Sectors)
of_lumps (Some (lump.TooManyLines count)) map = Err (status.Limit bound.Lines)
of_lumps (Some (lump.TooManyPoints count)) map = Err (status.Limit bound.Points)
of_lumps (Some (lump.Memory _)) map = Err (status.Memory tt)
of_lumps (Some fault) map = Err (status.BadLump fault)

-- the bytes of a lump, none where there is no such lump
abbrev pub lump_at : WadFile → ℕ → List ℕ
lump_at file k = (slice_index_or file.lumps k (record { name = []; bytes = [] })).bytes

-- the map that four lumps spell in a format, or the first check by these limits that fails
abbrev pub of_four_lumps : Reading → List ℕ → List ℕ → List ℕ → List ℕ → Result Map Status
of_four_lumps reading linedefs sidedefs vertexes sectors =
    of_lumps (lump_fault reading linedefs sidedefs vertexes sectors) (map_of_lumps reading.format linedefs sidedefs vertexes sectors)

abbrev pub of_text : Result LumpBytes TextFault → Result LumpBytes Status
of_text (Ok lumps) = Ok lumps
of_text (Err (text.TooManyVertices count)) = Err (status.Limit bound.Vertices)
of_text (Err (text.TooManySides count)) = Err (status.Limit bound.Sides)
of_text (Err (text.Memory _)) = Err (status.Memory tt)
of_text (Err fault) = Err (status.BadText fault)

-- the map that a text of UDMF spells, by the four lumps that it stands for, or its first fault, or the first check of these that fails
abbrev pub of_text_lump : Reading → List ℕ → Result Map Status
of_text_lump reading bytes = do
  lumps ← of_text (lumps_of_text bytes)
  of_four_lumps reading lumps.linedefs lumps.sidedefs lumps.vertexes lumps.sectors

-- the map that a text spells, which stands for all four, or that four lumps spell
abbrev pub spelled_map : Bool → Reading → List ℕ → List ℕ → List ℕ → List ℕ → Result Map Status
spelled_map true reading linedefs sidedefs vertexes sectors = of_text_lump reading linedefs
spelled_map false reading linedefs sidedefs vertexes sectors = of_four_lumps reading linedefs sidedefs vertexes sectors

-- how the map at this spot is read by these limits: in the format that the spot tells
abbrev pub reading_at : Bool → MapSpot → Reading
reading_at large spot = record { format = spot.format; large = large }

-- the map at this spot, by the larger limits or by the usual ones
abbrev pub map_at : Bool → WadFile → MapSpot → Result Map Status
map_at large file spot =
    spelled_map spot.text (reading_at large spot) (lump_at file spot.linedefs) (lump_at file spot.sidedefs) (lump_at file spot.vertexes) (lump_at file spot.sectors)

-- the map of this name in a WAD, or the first check that fails
unfoldable pub map_named : Bool → WadFile → List ℕ → Result Map Status
map_named large file name = do
  spot ← of_spot (spot_of (names_of_lumps file) name)
  map_at large file spot

-- the map of this name in the bytes of a file, or the first check that fails
unfoldable pub found_in : Bool → List ℕ → List ℕ → Result LocatedMap Status
found_in large name bytes = do
  file ← of_wad (wad_of bytes)
  spot ← of_spot (spot_of (names_of_lumps file) name)
  map ← map_at large file spot
  Ok (record { wad = file; spot = spot; map = map })

-- an answer to the map that was found, or the refusal where none was
abbrev pub OnFound : Result LocatedMap Status → (LocatedMap → Result Answer Status → Type 0) → Result Answer Status → Type 0
OnFound (Ok found) Called answer = Called found answer
OnFound (Err refusal) Called answer = answer ≡ Err refusal
