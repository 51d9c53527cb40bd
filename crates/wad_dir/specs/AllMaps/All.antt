-- A WAD with another REJECT for each of some of its maps.
use Rattle.std.specs.Prelude.{◌≡◌, ℕ, List, [], ◌∷◌, map, slice_get, Some, Ok, Err, ◌⊎◌, ⊤}
use Rattle.std.specs.List.{AllByRecursion}
use Rattle.wad_dir.specs.declared.parts.MapSpot.{MapSpot}
use Rattle.wad_dir.specs.Map.{spot_of}
use Rattle.wad_dir.specs.Print.{with_reject}
use Rattle.wad_dir.specs.Wad.{WadFile, WadLump, names_of_lumps}
use Rattle.wad_dir.specs.declared.all_maps.parts.Change.{Change}
use Rattle.wad_dir.specs.AllMaps.Maps.{maps_in_names}

-- the WAD in which these bytes are the REJECT of the map that the name finds, and the same WAD where it finds none
abbrev pub with_change : WadFile → Change → WadFile
with_change w c = elim (spot_of (names_of_lumps w) c.name) [ Ok spot ↦ with_reject w spot c.table | Err fault ↦ w ]

-- the WAD with all changes, each made in what those before it left
abbrev pub with_all : WadFile → List Change → WadFile
with_all w [] = w
with_all w (c ∷ cs) = with_all (with_change w c) cs

-- the names that are changed
abbrev pub names_changed : List Change → List (List ℕ)
names_changed changes = map (λ (c : Change). c.name) changes

-- the second names are some of the first ones, in their order
abbrev pub HasInOrder : List (List ℕ) → List (List ℕ) → Type 0
HasInOrder [] [] = ⊤
HasInOrder [] (n ∷ ns) = ⊥
HasInOrder (m ∷ ms) [] = ⊤
HasInOrder (m ∷ ms) (n ∷ ns) = ((n ≡ m) × HasInOrder ms ns) ⊎ HasInOrder ms (n ∷ ns)

-- the new WAD is the old one with each change made at the map of its name, in what the changes before it left
abbrev pub IsAll : WadFile → List Change → WadFile → Type 0
IsAll old [] new = new ≡ old
IsAll old (c ∷ cs) new = (spot : MapSpot) × (spot_of (names_of_lumps old) c.name ≡ Ok spot) × IsAll (with_reject old spot c.table) cs new

-- the name finds a map that has a REJECT, and its bytes are these
pub record HasReject (w : WadFile) (name table : List ℕ) : Type 0 where
  pub spot : MapSpot
  pub found : spot_of (names_of_lumps w) name ≡ Ok spot
  pub place : ℕ
  pub reject : spot.reject ≡ Some place
  pub lump : WadLump
  pub there : slice_get w.lumps place ≡ Some lump
  pub bytes : lump.bytes ≡ table

-- ---- laws

-- Where the names are some of the WAD's maps, in order, each of them is found, so no change is lost.
abbrev pub EachChangeIsMade : Type 0
EachChangeIsMade = (w : WadFile) (changes : List Change) → HasInOrder (maps_in_names (names_of_lumps w)) (names_changed changes) → IsAll w changes (with_all w changes)

-- And in what comes of it each of them has the table of its change as its REJECT.
abbrev pub EachTableIsThere : Type 0
EachTableIsThere = (w : WadFile) (changes : List Change) → HasInOrder (maps_in_names (names_of_lumps w)) (names_changed changes) → AllByRecursion (λ (c : Change). HasReject (with_all w changes) c.name c.table) changes
