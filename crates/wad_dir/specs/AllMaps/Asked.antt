-- The maps of a WAD that are asked for by their names.
use Rattle.std.specs.Prelude.{◌≡◌, ℕ, List, [], ◌∷◌, filter, Option, Some, None, Result, Ok, Err, IsTrue, if◌then◌else◌}
use Rattle.std.specs.List.{AllByRecursion}
use Rattle.sight_names.specs.declared.faults.MapFault.{MapFault}
use Rattle.sight_names.specs.declared.faults.MapFault.TheVariants as fault
use Rattle.wad_dir.specs.Map.{has_name, spot_of}
use Rattle.wad_dir.specs.AllMaps.Maps.{is_map_name, maps_in_names}

-- why a name is none of a map's: it finds no map, or it is one that no map can have
abbrev pub fault_of_name : List (List ℕ) → List ℕ → Option MapFault
fault_of_name names name = elim (spot_of names name) [ Ok spot ↦ if is_map_name name then None else Some fault.NoMarker | Err why ↦ Some why ]

-- the fault of the first of some names that has one
abbrev pub first_fault : List (List ℕ) → List (List ℕ) → Option MapFault
first_fault names [] = None
first_fault names (name ∷ more) = elim (fault_of_name names name) [ None ↦ first_fault names more | Some why ↦ Some why ]

-- the maps that have one of some names, in the order of their entries, or all maps where no names are given; or the fault of
-- the first of these names that has one
abbrev pub asked_maps_of : List (List ℕ) → Option (List (List ℕ)) → Result (List (List ℕ)) MapFault
asked_maps_of names None = Ok (maps_in_names names)
asked_maps_of names (Some only) = elim (first_fault names only) [ None ↦ Ok (filter (λ name. has_name name only) (maps_in_names names)) | Some why ↦ Err why ]

-- ---- a law

-- Each name that is given is that of one of these maps, so none is lost.
abbrev pub EachAskedIsThere : Type 0
EachAskedIsThere = (names only maps : List (List ℕ)) → asked_maps_of names (Some only) ≡ Ok maps → AllByRecursion (λ (name : List ℕ). IsTrue (has_name name maps)) only
