-- The WAD with the tables of maps of these names.
use Rattle.std.specs.Prelude.{◌≡◌, ℕ, Bool, List, length, Result, Ok, Err, ⊤, string_bytes}
use Rattle.sight_names.specs.declared.faults.RewriteFault.{RewriteFault}
use Rattle.sight_names.specs.declared.faults.RewriteFault.TheVariants as rewrite
use Rattle.sight_names.specs.declared.names.Method.{Method}
use Rattle.wad_dir.specs.Wad.{WadFile}
use Rattle.wad_dir.specs.WadRewrite.Rewrite.{printed}
use Rattle.wad_dir.specs.AllMaps.All.{with_all}
use Rattle.refused_maps.specs.declared.Refused.{Refused}
use Rattle.row_spelling.specs.declared.Spelling.{Spelling}
use Rattle.whole_wad.specs.declared.outcomes.MapOutcome.{MapOutcome}
use Rattle.whole_wad.specs.declared.whole.Maps.{Maps}
use Rattle.whole_wad.specs.declared.whole.Told.{Told}
use Rattle.whole_wad.specs.declared.whole.Told.TheVariants as told
use Rattle.whole_wad.specs.declared.whole.Unmade.{Unmade}
use Rattle.whole_wad.specs.declared.whole.Unmade.TheVariants as unmade
use Rattle.whole_wad.specs.declared.whole.WholeWad.{WholeWad}
use Rattle.whole_wad.specs.Outcomes.{AreOutcomes, changes_of, clears_of, refusals_of, tables_of}
use Rattle.whole_wad.specs.Report.{outcomes_report}
use Rattle.whole_wad.specs.Stop.{StopsAt}

-- what is written of the WAD in which each map that gets a table, or a clear one, has it as its REJECT, or why it isn't
abbrev pub written_of : WadFile → List MapOutcome → Result (List ℕ) RewriteFault
written_of w outcomes = printed (with_all w (changes_of outcomes))

-- the bytes, the report and the counts are those of what came of some maps
pub record ShowsOutcomes (w : WadFile) (outcomes : List MapOutcome) (report : List ℕ) (whole : WholeWad) : Type 0 where
  pub bytes : written_of w outcomes ≡ Ok whole.bytes.items
  pub report_is : string_bytes whole.report ≡ report
  pub maps : whole.maps ≡ length outcomes
  pub built : whole.built ≡ length (tables_of outcomes)
  pub refused : whole.refused ≡ length (refusals_of outcomes)
  pub cleared : whole.cleared ≡ length (clears_of outcomes)

-- .. and such a WAD is written, or why it isn't, unless memory ran out
abbrev pub WritesOutcomes : WadFile → List MapOutcome → List ℕ → Result WholeWad RewriteFault → Type 0
WritesOutcomes w outcomes report (Ok whole) = ShowsOutcomes w outcomes report whole
WritesOutcomes w outcomes report (Err (rewrite.Memory _)) = ⊤
WritesOutcomes w outcomes report (Err fault) = written_of w outcomes ≡ Err fault

-- the report on what comes of the maps
pub record TellsAllMaps (w : WadFile) (large : Bool) (names : List (List ℕ)) (by : Method) (choice : Refused) (spelled : Spelling) (maps : Maps) : Type 0 where
  pub are : AreOutcomes w large names by choice maps.outcomes.items
  pub report : string_bytes maps.report ≡ outcomes_report spelled maps.outcomes.items

-- .. or the first refusal, where that stops all
abbrev pub TellsWhole : WadFile → Bool → List (List ℕ) → Method → Refused → Spelling → Told → Type 0
TellsWhole w large names by choice spelled (told.All maps) = TellsAllMaps w large names by choice spelled maps
TellsWhole w large names by choice spelled (told.Stopped refusal) = StopsAt w large by choice refusal names

-- the bytes, the report and the counts are those of what comes of the maps
pub record ShowsWhole (w : WadFile) (large : Bool) (names : List (List ℕ)) (by : Method) (choice : Refused) (spelled : Spelling) (whole : WholeWad) : Type 0 where
  pub outcomes : List MapOutcome
  pub are : AreOutcomes w large names by choice outcomes
  pub shows : ShowsOutcomes w outcomes (outcomes_report spelled outcomes) whole

-- the WAD with all tables is above a limit
pub record IsAboveLimit (w : WadFile) (large : Bool) (names : List (List ℕ)) (by : Method) (choice : Refused) (fault : RewriteFault) : Type 0 where
  pub outcomes : List MapOutcome
  pub are : AreOutcomes w large names by choice outcomes
  pub limit : written_of w outcomes ≡ Err fault

-- what is made of the WAD, or the first refusal where that stops all, unless memory ran out
abbrev pub MakesWhole : WadFile → Bool → List (List ℕ) → Method → Refused → Spelling → Result WholeWad Unmade → Type 0
MakesWhole w large names by choice spelled (Ok whole) = ShowsWhole w large names by choice spelled whole
MakesWhole w large names by choice spelled (Err (unmade.Stopped refusal)) = StopsAt w large by choice refusal names
MakesWhole w large names by choice spelled (Err (unmade.Unwritten (rewrite.Memory _))) = ⊤
MakesWhole w large names by choice spelled (Err (unmade.Unwritten fault)) = IsAboveLimit w large names by choice fault
