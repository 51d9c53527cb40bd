-- What comes of maps of a WAD.
use Rattle.std.specs.Prelude.{◌≡◌, ℕ, Bool, List, map, filter_map, Option, Some, None, Result, Ok, Err}
use Rattle.std.specs.List.{AllByRecursion}
use Rattle.sight_names.specs.declared.names.Method.{Method}
use Rattle.wad_dir.specs.Wad.{WadFile}
use Rattle.wad_dir.specs.declared.all_maps.parts.Change.{Change}
use Rattle.reject_bits.specs.Parts.{TableParts}
use Rattle.refused_maps.specs.declared.Refused.{Refused}
use Rattle.refused_maps.specs.declared.Refused.TheVariants as refused
use Rattle.map_answers.specs.declared.sight_status.status.Status.{Status}
use Rattle.map_answers.specs.Input.{map_named}
use Rattle.whole_wad.specs.declared.fate.Fate.{Fate}
use Rattle.whole_wad.specs.declared.fate.Fate.TheVariants as fate
use Rattle.whole_wad.specs.declared.outcomes.MapOutcome.{MapOutcome}
use Rattle.whole_wad.specs.declared.tables.MapTable.{MapTable}
use Rattle.wad_dir.specs.AllMaps.Names.{name_before_nul}
use Rattle.whole_wad.specs.Rejects.{fate_of, reject_named}
use Rattle.whole_wad.specs.Tables.{Gets}

-- What comes of a map by its name: what it gets by this method is its table exactly where it is within the limits, the larger ones or the
-- usual ones, and sound, or the first check that fails; and what becomes of its REJECT by what is chosen for refused maps.
pub record ComesOf (w : WadFile) (large : Bool) (by : Method) (choice : Refused) (outcome : MapOutcome) : Type 0 where
  pub gets : Gets (map_named large w (name_before_nul outcome.name)) by outcome.made
  pub fate : outcome.fate ≡ fate_of choice (map_named large w (name_before_nul outcome.name)) (reject_named w (name_before_nul outcome.name)) outcome.made

-- the refusal, where it stops all
abbrev pub stop_of_all : Refused → Result MapTable Status → Option Status
stop_of_all refused.Stop (Err refusal) = Some refusal
stop_of_all choice made = None

-- there is one outcome for each map of these names, in order, and none stops all
pub record AreOutcomes (w : WadFile) (large : Bool) (names : List (List ℕ)) (by : Method) (choice : Refused) (outcomes : List MapOutcome) : Type 0 where
  pub each : map (λ (o : MapOutcome). o.name) outcomes ≡ names
  pub comes : AllByRecursion (ComesOf w large by choice) outcomes
  pub goes_on : AllByRecursion (λ (o : MapOutcome). stop_of_all choice o.made ≡ None) outcomes

abbrev pub change_by : List ℕ → Result MapTable Status → Fate → Option Change
change_by name (Ok made) fate = Some (record { name = name; table = made.table.bytes })
change_by name (Err refusal) (fate.Cleared table) = Some (record { name = name; table = table.bytes })
change_by name (Err refusal) other = None

abbrev pub table_in : Result MapTable Status → Option MapTable
table_in (Ok made) = Some made
table_in (Err refusal) = None

abbrev pub refusal_in : Result MapTable Status → Option Status
refusal_in (Ok made) = None
refusal_in (Err refusal) = Some refusal

abbrev pub clear_in : Result MapTable Status → Fate → Option TableParts
clear_in (Err refusal) (fate.Cleared table) = Some table
clear_in made fate = None

-- another REJECT for each map that got a table, or a clear one
abbrev pub changes_of : List MapOutcome → List Change
changes_of outcomes = filter_map (λ (o : MapOutcome). change_by o.name o.made o.fate) outcomes

-- the tables that were built
abbrev pub tables_of : List MapOutcome → List MapTable
tables_of outcomes = filter_map (λ (o : MapOutcome). table_in o.made) outcomes

-- why the other maps got none
abbrev pub refusals_of : List MapOutcome → List Status
refusals_of outcomes = filter_map (λ (o : MapOutcome). refusal_in o.made) outcomes

-- the clear ones that some of these got
abbrev pub clears_of : List MapOutcome → List TableParts
clears_of outcomes = filter_map (λ (o : MapOutcome). clear_in o.made o.fate) outcomes

-- There is one such list: what comes of these maps of a WAD by one method and one choice is one.
abbrev pub OutcomesAreOne : Type 0
OutcomesAreOne = (w : WadFile) (large : Bool) (names : List (List ℕ)) (by : Method) (choice : Refused) (one other : List MapOutcome)
    → AreOutcomes w large names by choice one → AreOutcomes w large names by choice other → one ≡ other
