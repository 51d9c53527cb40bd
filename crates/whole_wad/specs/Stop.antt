-- The map whose refusal stops all.
use Rattle.std.specs.Prelude.{◌≡◌, ℕ, Bool, List, [], ◌∷◌, Option, Some, None, Result}
use Rattle.sight_names.specs.declared.names.Method.{Method}
use Rattle.wad_dir.specs.Wad.{WadFile}
use Rattle.wad_dir.specs.AllMaps.Names.{name_before_nul}
use Rattle.refused_maps.specs.declared.Refused.{Refused}
use Rattle.map_answers.specs.declared.sight_status.status.Status.{Status}
use Rattle.map_answers.specs.Input.{map_named}
use Rattle.whole_wad.specs.declared.tables.MapTable.{MapTable}
use Rattle.whole_wad.specs.Outcomes.{stop_of_all}
use Rattle.whole_wad.specs.Tables.{Gets}

-- this refusal stops all, or none does and that of a later map is meant
abbrev pub IsThisOr : Option Status → Status → Type 0 → Type 0
IsThisOr (Some stop) refusal Later = refusal ≡ stop
IsThisOr None refusal Later = Later

-- the first of the maps of these names whose refusal stops all is refused so
abbrev pub StopsAt : WadFile → Bool → Method → Refused → Status → List (List ℕ) → Type 0
StopsAt w large by choice refusal [] = ⊥
StopsAt w large by choice refusal (name ∷ names) =
    (made : Result MapTable Status) × Gets (map_named large w (name_before_nul name)) by made × IsThisOr (stop_of_all choice made) refusal (StopsAt w large by choice refusal names)
