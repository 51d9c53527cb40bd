-- The headline, over words and files alone: what the REJECT that `check` accepts, and those that `build` and `all` write, tell of sight.
use Rattle.std.specs.Prelude.{◌≡◌, ◌⊎◌, ◌↔◌, ◌<◌, ℕ, List, [], ◌++◌, map, false, Option, Some, Ok, IfErr, IfOk, IfSome, IsOk, codes}
use Rattle.std.specs.List.{AllByRecursion}
use Rattle.std.specs.Option.{option_map}
use Rattle.sight_names.specs.declared.names.Ask.TheVariants.{Enough, Full}
use Rattle.sight_names.specs.declared.names.Budget.{Budget}
use Rattle.sight_names.specs.declared.names.Method.{Method}
use Rattle.sight_names.specs.declared.names.Method.TheVariants as how
use Rattle.sight_names.specs.declared.names.Pair.{Pair}
use Rattle.sight_names.specs.Enough.{IsBudgetOf}
use Rattle.sight_names.specs.Groups.{HasClosedFaces, IsListedByGroups}
use Rattle.sight_names.specs.Map.{Map}
use Rattle.sight_names.specs.Sees.{Sees}
use Rattle.sight_names.specs.Table.{IsTable, Rejected}
use Rattle.shelf_io.specs.Shelf.{Files, ShelfState}
use Rattle.wad_dir.specs.AllMaps.Names.{name_before_nul}
use Rattle.wad_dir.specs.Map.{same_name}
use Rattle.wad_dir.specs.Wad.{WadFile, names_of_lumps}
use Rattle.cert_format.specs.declared.cert_groups.cert.AnyCert.TheVariants.{One, Two}
use Rattle.certificates.specs.declared.certificate.Certificate.{Certificate}
use Rattle.certificates.specs.declared.certificate.Certificate.TheVariants.{Listing, Exact}
use Rattle.certificates.specs.Reading.{certificate_at}
use Rattle.group_job.specs.Sectors.{AreListed}
use Rattle.refused_maps.specs.declared.Refused.{Refused}
use Rattle.refused_maps.specs.declared.Refused.TheVariants as refused
use Rattle.refused_maps.specs.Stops.{Stops}
use Rattle.row_spelling.specs.declared.Spelling.{Spelling}
use Rattle.order_words.specs.declared.order.Order.TheVariants as order
use Rattle.order_words.specs.declared.order.ReportFile.{ReportFile}
use Rattle.order_words.specs.declared.order.Source.{Source}
use Rattle.order_words.specs.Words.{wad_source}
use Rattle.map_answers.specs.declared.sight_status.status.Status.TheVariants as status
use Rattle.map_answers.specs.declared.counts.Counts.{Counts}
use Rattle.map_answers.specs.Input.{LocatedMap}
use Rattle.whole_wad.specs.declared.outcomes.MapOutcome.{MapOutcome}
use Rattle.whole_wad.specs.declared.tables.MapTable.{MapTable}
use Rattle.whole_wad.specs.Built.{ask_of}
use Rattle.whole_wad.specs.Rejects.{clear_table}
use Rattle.whole_wad.specs.Report.{outcomes_report}
use Rattle.whole_wad.specs.Sizes.{sizes_of_map}
use Rattle.sight_run.specs.All.{maps_in, tally_of_outcomes, wad_in}
use Rattle.sight_run.specs.Build.{build_line}
use Rattle.sight_run.specs.Check.{reject_bytes}
use Rattle.sight_run.specs.Heard.{ListenersHeard}
use Rattle.run_laws.specs.Laws.{HasTableLength, KeepsLumps, Sinks}
use Rattle.sight_run.specs.Reading.{found_of}
use Rattle.sight_run.specs.Run.{RunEnds}
use Rattle.sight_run.specs.Words.{asked_of}

-- ---- what is said of a table

-- The bytes are a table of the map's sectors. Two sectors whose bit is set don't see each other, and two whose bit is clear do, unless
-- they are listed.
pub record IsRightTable (m : Map) (table : List ℕ) (IsListed : ℕ → ℕ → Type 0) : Type 0 where
  pub long : IsTable m.sectors table
  pub blind : (a b : ℕ) → a < m.sectors → b < m.sectors → Rejected m.sectors table a b → ¬ Sees m a b
  pub seen : (a b : ℕ) → a < m.sectors → b < m.sectors → ¬ Rejected m.sectors table a b → ¬ IsListed a b → Sees m a b

-- ---- of which runs

-- A run of these words over these files ended with Done, as `run` promises of it, and left those files.
pub record WasDone (words : List (List ℕ)) (files stand : Files) : Type 0 where
  pub heard : ListenersHeard
  pub before : ShelfState
  pub after : ShelfState
  pub sink : Sinks
  pub ends : RunEnds words files heard before after sink.old sink.new status.Done
  pub left : after.files ≡ Some stand

-- ---- `check`

-- the pairs that a certificate lists: one of version 3 lists none
abbrev pub listed_of : Certificate → List Pair
listed_of (Listing (One c)) = c.listed
listed_of (Listing (Two c sizes)) = c.listed
listed_of (Exact c) = []

-- The name finds a map in the WAD, and FILE spells a certificate of that map. The map's REJECT is right, but for the pairs that the
-- certificate lists.
pub record HasRightReject (wad : Source) (name cert : List ℕ) (files : Files) : Type 0 where
  pub found : LocatedMap
  pub is_found : found_of wad name files ≡ Ok found
  pub bytes : List ℕ
  pub stands : files cert ≡ Some bytes
  pub given : Certificate
  pub spelled : certificate_at (sizes_of_map found.map) bytes ≡ Ok given
  pub right : IsRightTable found.map (reject_bytes found) (AreListed (listed_of given))

-- so it is where a `check` was done, in either spelling
abbrev pub CheckedIsRight : Type 0
CheckedIsRight = (words : List (List ℕ)) (wad : Source) (name cert : List ℕ) (spelled : Spelling) (files stand : Files)
    → asked_of words ≡ Ok (order.Check wad name cert spelled) → WasDone words files stand → HasRightReject wad name cert files

-- ---- `build`

-- The name finds a map in the WAD, and by the same limits the same map in the WAD that stands under OUT. There its REJECT
-- is right, but for the pairs whose groups are listed by this method: within its budget, or none where every pair is decided.
pub record LeavesRightReject (wad : Source) (name out : List ℕ) (method : Method) (files stand : Files) : Type 0 where
  pub found : LocatedMap
  pub is_found : found_of wad name files ≡ Ok found
  pub new : LocatedMap
  pub is_new : found_of (wad_source wad.large out) name stand ≡ Ok new
  pub same : new.map ≡ found.map
  pub allowed : Budget
  pub is_allowed : IsBudgetOf found.map (ask_of method) allowed
  pub right : IsRightTable found.map (reject_bytes new) (IsListedByGroups found.map allowed)
  -- the bit of a listed pair is clear
  pub clear : (a b : ℕ) → a < found.map.sectors → b < found.map.sectors → IsListedByGroups found.map allowed a b → ¬ Rejected found.map.sectors (reject_bytes new) a b
  -- where every pair is decided, with a budget that is enough, and without any, no pair is listed: a bit is set exactly where the two
  -- don't see each other
  pub exact : (ask_of method ≡ Enough) ⊎ (ask_of method ≡ Full) → (a b : ℕ) → ¬ IsListedByGroups found.map allowed a b

-- so it is where a `build` was done, by how many workers ever. The map isn't called REJECT
abbrev pub BuiltIsRight : Type 0
BuiltIsRight = (words : List (List ℕ)) (wad : Source) (name out : List ℕ) (cert report : Option (List ℕ)) (workers : ℕ) (method : Method) (files stand : Files)
    → asked_of words ≡ Ok (order.Build wad name out cert report workers method) → same_name (codes "REJECT") name ≡ false
    → WasDone words files stand → LeavesRightReject wad name out method files stand

-- The name finds a map in the WAD, and by the same limits the same map in the WAD that stands under OUT. There a bit of its REJECT is set
-- exactly where the two sectors don't see each other.
pub record LeavesExactTable (wad : Source) (name out : List ℕ) (files stand : Files) : Type 0 where
  pub found : LocatedMap
  pub is_found : found_of wad name files ≡ Ok found
  pub new : LocatedMap
  pub is_new : found_of (wad_source wad.large out) name stand ≡ Ok new
  pub same : new.map ≡ found.map
  pub long : IsTable found.map.sectors (reject_bytes new)
  pub bits : (a b : ℕ) → a < found.map.sectors → b < found.map.sectors → Rejected found.map.sectors (reject_bytes new) a b ↔ ¬ Sees found.map a b
  pub seen : (a b : ℕ) → a < found.map.sectors → b < found.map.sectors → ¬ Rejected found.map.sectors (reject_bytes new) a b → Sees found.map a b

-- .. and the line of the build counts no listed pair
pub record LeavesExactReject (wad : Source) (name out : List ℕ) (files stand : Files) (sink : Sinks) : Type 0 where
  pub table : LeavesExactTable wad name out files stand
  pub counts : Counts
  pub none_listed : counts.listed ≡ 0
  pub said : sink.new.held ≡ option_map (λ held. held ++ build_line name counts) sink.old.held

-- So it is where a `build` that decides every pair was done. That a `check` of its certificate then says yes, with the same counts, is told
-- of the builds by each method
abbrev pub ExactIsRight : Type 0
ExactIsRight = (words : List (List ℕ)) (wad : Source) (name out : List ℕ) (cert report : Option (List ℕ)) (workers : ℕ) (files stand : Files)
    → asked_of words ≡ Ok (order.Build wad name out cert report workers how.Exact) → same_name (codes "REJECT") name ≡ false
    → (done : WasDone words files stand) → LeavesExactReject wad name out files stand done.sink

-- .. and all other lumps of the WAD under OUT are as they were
abbrev pub BuildLeavesLumps : Type 0
BuildLeavesLumps = (words : List (List ℕ)) (wad : Source) (name out : List ℕ) (cert report : Option (List ℕ)) (workers : ℕ) (method : Method) (files stand : Files)
    → asked_of words ≡ Ok (order.Build wad name out cert report workers method) → same_name (codes "REJECT") name ≡ false
    → WasDone words files stand → KeepsLumps wad name out files stand HasTableLength

-- ---- two builds

-- the two sinks got one line
abbrev pub GotOneLine : Sinks → Sinks → Type 0
GotOneLine one other = (line : List ℕ) × (one.new.held ≡ option_map (λ held. held ++ line) one.old.held) × (other.new.held ≡ option_map (λ held. held ++ line) other.old.held)

-- Two builds of one map by one method, by how many workers ever, leave the same bytes under OUT and put the same line. Certificates
-- and reports may be asked for or not.
abbrev pub BuildsLeaveOneWad : Type 0
BuildsLeaveOneWad = (words others : List (List ℕ)) (wad : Source) (name out : List ℕ) (cert report other_cert other_report : Option (List ℕ)) (workers other_workers : ℕ) (method : Method) (files stand other_stand : Files)
    → asked_of words ≡ Ok (order.Build wad name out cert report workers method) → asked_of others ≡ Ok (order.Build wad name out other_cert other_report other_workers method)
    → (one : WasDone words files stand) (other : WasDone others files other_stand) → (stand out ≡ other_stand out) × GotOneLine one.sink other.sink

-- ---- `all`

-- the name finds a map in the WAD, and its faces are closed
abbrev pub IsSoundIn : Source → List ℕ → Files → Type 0
IsSoundIn wad name files = (found : LocatedMap) × (found_of wad name files ≡ Ok found) × HasClosedFaces found.map

-- The name finds the same map in the WAD that stands under OUT, and no bit of its REJECT there is set. It has as many bytes as the map's sectors
-- ask.
pub record LeavesClearReject (wad : Source) (name out : List ℕ) (stand : Files) (m : Map) : Type 0 where
  pub new : LocatedMap
  pub is_new : found_of (wad_source wad.large out) name stand ≡ Ok new
  pub same : new.map ≡ m
  pub clear : reject_bytes new ≡ clear_table m.sectors

-- There is one outcome for each map that was to be built, in order: a table where its faces are closed, and else a refusal. The line counts
-- them, the report, where it is asked for, has a line for each, and of each that has a table this holds. Where clear tables are chosen for
-- refused maps, each of them that its name finds in the WAD has one; where a refusal stops all, none is refused.
pub record LeavesRejects (wad : Source) (out : List ℕ) (only : Option (List (List ℕ))) (report : Option ReportFile) (choice : Refused) (files stand : Files) (sink : Sinks) (IsRight : List ℕ → MapTable → Type 0) : Type 0 where
  pub w : WadFile
  pub was : wad_in wad.file files ≡ Ok w
  pub maps : List (List ℕ)
  pub asked : maps_in (names_of_lumps w) only ≡ Ok maps
  pub outcomes : List MapOutcome
  pub each : map (λ (o : MapOutcome). o.name) outcomes ≡ maps
  pub said : sink.new.held ≡ option_map (λ held. held ++ tally_of_outcomes choice outcomes) sink.old.held
  pub reported : IfSome report (λ r. stand r.file ≡ Some (outcomes_report r.spelling outcomes))
  pub built : AllByRecursion (λ (o : MapOutcome). IsOk o.made ↔ IsSoundIn wad (name_before_nul o.name) files) outcomes
  pub right : AllByRecursion (λ (o : MapOutcome). IfOk o.made (IsRight (name_before_nul o.name))) outcomes
  pub cleared : choice ≡ refused.Clear → AllByRecursion (λ (o : MapOutcome). IfErr o.made (λ refusal. (found : LocatedMap) → found_of wad (name_before_nul o.name) files ≡ Ok found → LeavesClearReject wad (name_before_nul o.name) out stand found.map)) outcomes
  pub unstopped : Stops choice → AllByRecursion (λ (o : MapOutcome). IsOk o.made) outcomes

-- Where `all` was done, the REJECT under OUT of each map that was built is as a `build` of it by the same method leaves it.
abbrev pub AllIsRight : Type 0
AllIsRight = (words : List (List ℕ)) (wad : Source) (out : List ℕ) (only : Option (List (List ℕ))) (report : Option ReportFile) (workers : ℕ) (method : Method) (choice : Refused) (files stand : Files)
    → asked_of words ≡ Ok (order.All wad out only report workers method choice)
    → (done : WasDone words files stand) → LeavesRejects wad out only report choice files stand done.sink (λ name made. LeavesRightReject wad name out method files stand)

-- Where it decides every pair, a bit of each such REJECT is set exactly where the two sectors don't see each other, and none is listed.
abbrev pub AllIsExact : Type 0
AllIsExact = (words : List (List ℕ)) (wad : Source) (out : List ℕ) (only : Option (List (List ℕ))) (report : Option ReportFile) (workers : ℕ) (choice : Refused) (files stand : Files)
    → asked_of words ≡ Ok (order.All wad out only report workers how.Exact choice)
    → (done : WasDone words files stand) → LeavesRejects wad out only report choice files stand done.sink (λ name made. LeavesExactTable wad name out files stand × (made.listed ≡ []))
