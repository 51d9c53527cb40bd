-- What the order `all` makes of a WAD.
use Rattle.std.specs.Prelude.{◌≡◌, ◌⊎◌, ℕ, Bool, true, List, [], ◌∷◌, ◌++◌, Option, Result, Ok, Err, codes, length}
use Rattle.std.specs.Fmt.{decimal}
use Rattle.sight_names.specs.declared.limits.TheConstants.{MOST_BYTES}
use Rattle.sight_names.specs.declared.faults.MapFault.{MapFault}
use Rattle.sight_names.specs.declared.faults.RewriteFault.TheVariants as rewrite
use Rattle.sight_names.specs.declared.names.Method.{Method}
use Rattle.order_words.specs.declared.order.ReportFile.{ReportFile}
use Rattle.refused_maps.specs.declared.Refused.{Refused}
use Rattle.refused_maps.specs.declared.Refused.TheVariants as refused
use Rattle.shelf_io.specs.Shelf.{Files, content_of}
use Rattle.wad_dir.specs.Wad.{WadFile, names_of_lumps, wad_of}
use Rattle.wad_dir.specs.AllMaps.Asked.{asked_maps_of}
use Rattle.map_answers.specs.declared.sight_status.status.Bound.TheVariants as bound
use Rattle.map_answers.specs.declared.sight_status.status.Role.{Role}
use Rattle.map_answers.specs.declared.sight_status.status.Role.TheVariants as role
use Rattle.map_answers.specs.declared.sight_status.status.Status.{Status}
use Rattle.map_answers.specs.declared.sight_status.status.Status.TheVariants as status
use Rattle.map_answers.specs.SightStatus.Answer.{Answer, Written, ◌>>=◌}
use Rattle.map_answers.specs.Input.{of_wad}
use Rattle.whole_wad.specs.declared.outcomes.MapOutcome.{MapOutcome}
use Rattle.whole_wad.specs.declared.whole.Unmade.{Unmade}
use Rattle.whole_wad.specs.declared.whole.Unmade.TheVariants as unmade
use Rattle.whole_wad.specs.Outcomes.{AreOutcomes, clears_of, refusals_of, tables_of}
use Rattle.whole_wad.specs.Report.{outcomes_report}
use Rattle.whole_wad.specs.Stop.{StopsAt}
use Rattle.whole_wad.specs.Whole.{IsAboveLimit, written_of}
use Rattle.sight_run.specs.Build.{report_behind, report_roles, wad_output}
use Rattle.sight_run.specs.Reading.{of_fetch}
use Rattle.sight_run.specs.Words.{file_in, spelling_in}

-- the WAD in the file of this name, or the first check that fails
unfoldable pub wad_in : List ℕ → Files → Result WadFile Status
wad_in wad files = do
  bytes ← of_fetch (content_of (files wad) MOST_BYTES)
  of_wad (wad_of bytes)

abbrev pub of_asked : Result (List (List ℕ)) MapFault → Result (List (List ℕ)) Status
of_asked (Ok maps) = Ok maps
of_asked (Err fault) = Err (status.NoMap fault)

-- the maps that are to be built, among entries of these names: all of them, or those that some names are given for; or the refusal
-- of the first such name that is none's
abbrev pub maps_in : List (List ℕ) → Option (List (List ℕ)) → Result (List (List ℕ)) Status
maps_in names only = of_asked (asked_maps_of names only)

-- an answer to what was read, or the refusal where nothing was
abbrev pub OnRead : {V : Type 0} → Result V Status → (V → Result Answer Status → Type 0) → Result Answer Status → Type 0
OnRead (Ok read) Called answer = Called read answer
OnRead (Err refusal) Called answer = answer ≡ Err refusal

-- how many got a clear table, where that is asked for
abbrev pub cleared_words : Refused → ℕ → List ℕ
cleared_words refused.Clear cleared = codes " cleared " ++ decimal cleared
cleared_words other cleared = []

-- how many maps were to be built, how many of them were built and refused, and how many of these got a clear table
abbrev pub build_tally_line : Refused → ℕ → ℕ → ℕ → ℕ → List ℕ
build_tally_line choice maps built refused cleared = codes "all maps " ++ decimal maps ++ codes " built " ++ decimal built ++ codes " refused " ++ decimal refused ++ cleared_words choice cleared ++ codes "\n"

-- the line of what comes of maps
abbrev pub tally_of_outcomes : Refused → List MapOutcome → List ℕ
tally_of_outcomes choice outcomes = build_tally_line choice (length outcomes) (length (tables_of outcomes)) (length (refusals_of outcomes)) (length (clears_of outcomes))

-- the WAD is stored first, then the report where it is asked for
abbrev pub all_writes : List ℕ → List ℕ → Option (List ℕ) → List ℕ → List Written
all_writes out bytes reported report = report_behind reported report (wad_output out bytes ∷ [])

-- the roles of these outputs
abbrev pub all_roles : Option (List ℕ) → List Role
all_roles reported = role.Wad ∷ report_roles reported

-- A map gets its table exactly where it is within the limits that are asked for and sound, and else is refused by the first check that fails.
-- OUT is the WAD with these tables, and with clear ones where those are chosen for refused maps that were read. The report says of each map its
-- counts or its refusal, and the line counts them.
pub record ShowsAll (out : List ℕ) (reported : Option ReportFile) (large : Bool) (maps : List (List ℕ)) (method : Method) (choice : Refused) (w : WadFile) (answer : Answer) : Type 0 where
  pub outcomes : List MapOutcome
  pub are : AreOutcomes w large maps method choice outcomes
  pub bytes : List ℕ
  pub made : written_of w outcomes ≡ Ok bytes
  pub is : answer ≡ record { writes = all_writes out bytes (file_in reported) (outcomes_report (spelling_in reported) outcomes); line = tally_of_outcomes choice outcomes; right = true }

-- the WAD with all tables is above a limit
abbrev pub IsTooMuch : WadFile → Bool → List (List ℕ) → Method → Refused → Status → Type 0
IsTooMuch w large maps method choice (status.Limit bound.Lumps) = IsAboveLimit w large maps method choice rewrite.TooManyLumps
IsTooMuch w large maps method choice (status.Limit bound.OutputBytes) = IsAboveLimit w large maps method choice rewrite.TooLong
IsTooMuch w large maps method choice other = ⊥

-- the status of a WAD of which nothing is made
abbrev pub of_unmade : Unmade → Status
of_unmade (unmade.Stopped refusal) = refusal
of_unmade (unmade.Unwritten rewrite.TooManyLumps) = status.Limit bound.Lumps
of_unmade (unmade.Unwritten rewrite.TooLong) = status.Limit bound.OutputBytes
of_unmade (unmade.Unwritten (rewrite.Memory _)) = status.Memory tt

-- the first refusal, where that stops all, or such a limit
abbrev pub IsUnmade : WadFile → Bool → List (List ℕ) → Method → Refused → Status → Type 0
IsUnmade w large maps method choice refusal = StopsAt w large method choice refusal maps ⊎ IsTooMuch w large maps method choice refusal

-- the answer that is called for where these maps are to be built
abbrev pub MapsCall : List ℕ → Option ReportFile → Bool → List (List ℕ) → Method → Refused → WadFile → Result Answer Status → Type 0
MapsCall out reported large maps method choice w (Ok answer) = ShowsAll out reported large maps method choice w answer
MapsCall out reported large maps method choice w (Err refusal) = IsUnmade w large maps method choice refusal

-- The answer that `all` calls for. Where names are given, the maps of these names alone are built; all other lumps stay.
abbrev pub AllCalls : List ℕ → Bool → Option (List (List ℕ)) → Option ReportFile → Method → Refused → WadFile → Result Answer Status → Type 0
AllCalls out large only reported method choice w answer = OnRead (maps_in (names_of_lumps w) only) (λ maps. MapsCall out reported large maps method choice w) answer
