-- What holds of the orders together: the answer of `check` to what `build` wrote, what written WADs keep, and how runs end where nothing failed.
use Rattle.std.specs.Prelude.{◌≡◌, ◌⊎◌, ◌≤◌, ◌<◌, ◌^◌, ℕ, Bool, false, List, ◌++◌, length, Contains, Option, Some, None, Result, Ok, Err, codes, ⊤}
use Rattle.std.specs.List.{AllByRecursion}
use Rattle.std.specs.Option.{option_map}
use Rattle.std.specs.Str.{bytes_eq}
use Rattle.sight_names.specs.declared.names.Ask.{Ask}
use Rattle.sight_names.specs.declared.names.Method.{Method}
use Rattle.sight_names.specs.declared.names.Pair.{Pair}
use Rattle.sight_names.specs.Groups.{HasClosedFaces}
use Rattle.sight_names.specs.Map.{Map}
use Rattle.sight_names.specs.Table.{IsTable}
use Rattle.shelf_io.specs.Shelf.{Files, ShelfState}
use Rattle.shelf_io.specs.Sink.{SinkState}
use Rattle.wad_dir.specs.Map.{same_name}
use Rattle.wad_dir.specs.Wad.{WadFile, names_of_lumps, wad_of}
use Rattle.wad_dir.specs.WadRewrite.Again.{IsReadAgain}
use Rattle.wad_dir.specs.declared.all_maps.parts.Change.{Change}
use Rattle.wad_dir.specs.AllMaps.All.{HasReject, IsAll}
use Rattle.wad_dir.specs.AllMaps.Names.{name_before_nul}
use Rattle.wad_dir.specs.AllMaps.Spliced.{spliced}
use Rattle.refused_maps.specs.declared.Refused.{Refused}
use Rattle.order_words.specs.declared.order.Order.TheVariants as order
use Rattle.order_words.specs.declared.order.ReportFile.{ReportFile}
use Rattle.order_words.specs.declared.order.Source.{Source}
use Rattle.order_words.specs.declared.order.View.{View}
use Rattle.order_words.specs.declared.order.View.TheVariants as view
use Rattle.order_words.specs.Words.{wad_source}
use Rattle.cert_checker.specs.declared.verdict.Totals.{Totals}
use Rattle.map_answers.specs.declared.counts.Counts.{Counts}
use Rattle.map_answers.specs.declared.sight_status.status.Bound.TheVariants as bound
use Rattle.map_answers.specs.declared.sight_status.status.Flaw.{Flaw}
use Rattle.map_answers.specs.declared.sight_status.status.Role.TheVariants as role
use Rattle.map_answers.specs.declared.sight_status.status.Status.{Status}
use Rattle.map_answers.specs.declared.sight_status.status.Status.TheVariants as status
use Rattle.map_answers.specs.declared.sight_status.status.Why.TheVariants as why
use Rattle.map_answers.specs.SightStatus.Answer.{Answer, only_line}
use Rattle.whole_wad.specs.declared.building.Built.{Built}
use Rattle.whole_wad.specs.declared.outcomes.MapOutcome.{MapOutcome}
use Rattle.whole_wad.specs.declared.tables.MapTable.{MapTable}
use Rattle.whole_wad.specs.Built.{IsBuiltOf}
use Rattle.whole_wad.specs.Outcomes.{AreOutcomes, changes_of}
use Rattle.whole_wad.specs.Tables.{IsFlawOf}
use Rattle.sight_run.specs.All.{IsUnmade, maps_in, wad_in}
use Rattle.sight_run.specs.Build.{ShowsLimit, build_line}
use Rattle.row_spelling.specs.declared.Spelling.{Spelling}
use Rattle.sight_run.specs.Check.{IsTableOfBytes, reject_bytes, yes_row}
use Rattle.map_answers.specs.Groups.{IsMapWithGroups, MapGroups}
use Rattle.map_answers.specs.Input.{LocatedMap, map_named}
use Rattle.map_picture.specs.Bytes.{svg_of}
use Rattle.map_picture.specs.Picture.{NamedParts, heat_picture, marked_picture, plan_picture, row_picture}
use Rattle.pair_answer.specs.declared.answer.PairAnswer.{PairAnswer}
use Rattle.pair_answer.specs.Answer.{IsAnswerFor, IsMissing}
use Rattle.draw_answers.specs.Drawn.{Drawing}
use Rattle.fault_marks.specs.declared.marks.FaultMarks.{FaultMarks}
use Rattle.draw_answers.specs.Faults.{AreMarksOf, IsAuditFaultOf}
use Rattle.draw_answers.specs.Heat.{seen_by}
use Rattle.draw_answers.specs.Pair.{ShowsPair}
use Rattle.reject_bits.specs.Parts.{TableParts}
use Rattle.sight_run.specs.Heard.{ListenersHeard}
use Rattle.sight_run.specs.Reading.{found_of}
use Rattle.sight_run.specs.Draw.{named_in}
use Rattle.sight_run.specs.Obeys.{IsAnswer}
use Rattle.sight_run.specs.Run.{NothingRose, RunEnds, StatusCause, put_outputs}
use Rattle.sight_run.specs.Words.{asked_of}
use Rattle.sight_run.specs.Zero.{with_table}
use Rattle.whole_wad.specs.Rejects.{clear_table}

-- the words ask for a build of this map into OUT with its certificate in FILE, and the others for the check of just these by the same limits, told in this spelling
pub record AskBoth (build check : List (List ℕ)) (name out cert : List ℕ) (spelled : Spelling) : Type 0 where
  pub wad : Source
  pub report : Option (List ℕ)
  pub workers : ℕ
  pub method : Method
  pub built : asked_of build ≡ Ok (order.Build wad name out (Some cert) report workers method)
  pub checked : asked_of check ≡ Ok (order.Check (wad_source wad.large out) name cert spelled)
  -- the map isn't called REJECT
  pub other : same_name (codes "REJECT") name ≡ false

-- some files have under these two names what others have
pub record HaveBoth (files others : Files) (out cert : List ℕ) : Type 0 where
  pub at_out : others out ≡ files out
  pub at_cert : others cert ≡ files cert

-- a file has no more bytes than a list in memory can have
abbrev pub IsFileShort : Files → List ℕ → Type 0
IsFileShort files name = (bytes : List ℕ) → files name ≡ Some bytes → length bytes ≤ 9223372036854775807

-- the totals that these counts are
abbrev pub totals_of : Counts → Totals
totals_of counts = record { set = counts.set; clear = counts.clear; listed = counts.listed }

-- the one answer to the check is yes in this spelling, with the counts of the build's line
pub record SaysYes (check : List (List ℕ)) (name : List ℕ) (spelled : Spelling) (others : Files) (answer : Answer) : Type 0 where
  pub counts : Counts
  pub built : answer.line ≡ build_line name counts
  pub only : (heard : ListenersHeard) (given : Result Answer Status) → IsAnswer check others heard given → given ≡ Ok (only_line (yes_row spelled counts.sectors (totals_of counts)))

-- Where a build is answered, the one answer to the check of what it wrote is yes, with the same counts.
abbrev pub BuiltIsChecked : Type 0
BuiltIsChecked = (build check : List (List ℕ)) (name out cert : List ℕ) (spelled : Spelling) (files others : Files) (heard : ListenersHeard) (answer : Answer)
    → AskBoth build check name out cert spelled → IsAnswer build files heard (Ok answer)
    → HaveBoth (put_outputs files answer.writes) others out cert → IsFileShort others cert
    → SaysYes check name spelled others answer

-- The check ends with Done and the line of a yes with these counts. Want of memory and faults of reading or of the text can come too.
abbrev pub ChecksYes : Spelling → Counts → SinkState → SinkState → Status → Type 0
ChecksYes spelled counts old new status.Done = new.held ≡ option_map (λ held. held ++ yes_row spelled counts.sectors (totals_of counts)) old.held
ChecksYes spelled counts old new (status.Memory _) = ⊤
ChecksYes spelled counts old new (status.ReadFault role) = ⊤
ChecksYes spelled counts old new (status.WriteFault role.Text) = ⊤
ChecksYes spelled counts old new other = ⊥

-- what a sink held and holds
pub record Sinks : Type 0 where
  pub old : SinkState
  pub new : SinkState

-- the line of the build has these counts, and so has that of the check
pub record EndWithYes (name : List ℕ) (spelled : Spelling) (building checking : Sinks) (s : Status) : Type 0 where
  pub counts : Counts
  pub built : building.new.held ≡ option_map (λ held. held ++ build_line name counts) building.old.held
  pub checked : ChecksYes spelled counts checking.old checking.new s

-- Where a run of `build` ends with Done, a run of `check` on what stands in its two files then ends with Done.
abbrev pub BuiltRunIsChecked : Type 0
BuiltRunIsChecked = (build check : List (List ℕ)) (name out cert : List ℕ) (spelled : Spelling) (files stand others : Files) (heard unheard : ListenersHeard) (before after first last : ShelfState) (building checking : Sinks) (s : Status)
    → AskBoth build check name out cert spelled → RunEnds build files heard before after building.old building.new status.Done
    → after.files ≡ Some stand → HaveBoth stand others out cert → IsFileShort others cert
    → RunEnds check others unheard first last checking.old checking.new s → EndWithYes name spelled building checking s

-- ---- what a written WAD keeps

-- under OUT stands a WAD which is read as the one in which the map was found, with such a REJECT for it, and with all other lumps
pub record KeepsLumps (wad : Source) (name out : List ℕ) (files stand : Files) (IsRight : Map → List ℕ → Type 0) : Type 0 where
  pub found : LocatedMap
  pub was : found_of wad name files ≡ Ok found
  pub table : List ℕ
  pub is_right : IsRight found.map table
  pub bytes : List ℕ
  pub stands : stand out ≡ Some bytes
  pub again : IsReadAgain found.wad name found.spot table bytes

abbrev pub IsClearTable : Map → List ℕ → Type 0
IsClearTable m table = table ≡ clear_table m.sectors

abbrev pub HasTableLength : Map → List ℕ → Type 0
HasTableLength m table = IsTable m.sectors table

-- Where `zero` is answered, OUT holds the WAD with a clear REJECT and all other lumps as they were. The map isn't called REJECT.
abbrev pub ZeroKeepsLumps : Type 0
ZeroKeepsLumps = (words : List (List ℕ)) (wad : Source) (name out : List ℕ) (files : Files) (heard : ListenersHeard) (answer : Answer)
    → asked_of words ≡ Ok (order.Zero wad name out) → same_name (codes "REJECT") name ≡ false → IsAnswer words files heard (Ok answer)
    → KeepsLumps wad name out files (put_outputs files answer.writes) IsClearTable

-- where `build` is answered, it holds the WAD with a table of the map's sectors and all other lumps as they were
abbrev pub BuildKeepsLumps : Type 0
BuildKeepsLumps = (words : List (List ℕ)) (wad : Source) (name out : List ℕ) (asked report : Option (List ℕ)) (workers : ℕ) (method : Method) (files : Files) (heard : ListenersHeard) (answer : Answer)
    → asked_of words ≡ Ok (order.Build wad name out asked report workers method) → same_name (codes "REJECT") name ≡ false → IsAnswer words files heard (Ok answer)
    → KeepsLumps wad name out files (put_outputs files answer.writes) HasTableLength

-- ---- what `draw` writes

-- under OUT stands a picture, and under each other name what stood there
pub record LeavesPicture (out : List ℕ) (files stand : Files) (IsPicture : List ℕ → Type 0) : Type 0 where
  pub bytes : List ℕ
  pub is_picture : IsPicture bytes
  pub stands : stand out ≡ Some bytes
  pub others : (name : List ℕ) → bytes_eq out name ≡ false → stand name ≡ files name

-- the plan with the faces of the groups
pub record ShowsPlan (name : NamedParts) (m : Map) (bytes : List ℕ) : Type 0 where
  pub groups : MapGroups
  pub over : IsMapWithGroups m groups
  pub is : bytes ≡ svg_of m (plan_picture name m groups.groups groups.triangles groups.labels)

-- the plan alone, with what this flaw calls for marked
pub record ShowsMarked (name : NamedParts) (m : Map) (which : Flaw) (bytes : List ℕ) : Type 0 where
  pub marks : FaultMarks
  pub are : AreMarksOf m which marks
  pub is : bytes ≡ svg_of m (marked_picture name m marks.left_out marks.lines marks.faults marks.arrows)

abbrev pub ShowsFault : NamedParts → Map → List ℕ → Option Flaw → Type 0
ShowsFault name m bytes (Some which) = ShowsMarked name m which bytes
ShowsFault name m bytes None = ShowsPlan name m bytes

-- the first fault of the map, if it has one
pub record ShowsFirstFault (name : NamedParts) (m : Map) (bytes : List ℕ) : Type 0 where
  pub fault : Option Flaw
  pub first : IsAuditFaultOf m fault
  pub is : ShowsFault name m bytes fault

-- the faces of the groups, by the row of sector a in a table that the bytes of the map's own REJECT spell
pub record ShowsRow (name : NamedParts) (found : LocatedMap) (a : ℕ) (bytes : List ℕ) : Type 0 where
  pub within : a < found.map.sectors
  pub table : TableParts
  pub spelled : IsTableOfBytes found.map.sectors (reject_bytes found) table
  pub groups : MapGroups
  pub over : IsMapWithGroups found.map groups
  pub is : bytes ≡ svg_of found.map (row_picture name found.map groups.groups groups.triangles groups.labels table a)

-- .. by how much each sector may see by such a table
pub record ShowsHeat (name : NamedParts) (found : LocatedMap) (bytes : List ℕ) : Type 0 where
  pub table : TableParts
  pub spelled : IsTableOfBytes found.map.sectors (reject_bytes found) table
  pub groups : MapGroups
  pub over : IsMapWithGroups found.map groups
  pub is : bytes ≡ svg_of found.map (heat_picture name found.map groups.groups groups.triangles groups.labels (seen_by table groups.groups))

-- what an answer for the pair calls for
pub record ShowsAnswer (name : NamedParts) (m : Map) (pair : Pair) (ask : Ask) (bytes : List ℕ) : Type 0 where
  pub given : PairAnswer
  pub is_answer : IsAnswerFor m ask pair given
  pub groups : MapGroups
  pub over : IsMapWithGroups m groups
  pub shown : Drawing
  pub shows : ShowsPair name m pair groups ask given shown
  pub is : bytes ≡ shown.bytes

abbrev pub ShowsView : NamedParts → LocatedMap → View → List ℕ → Type 0
ShowsView name found view.Plan bytes = ShowsPlan name found.map bytes
ShowsView name found view.Faults bytes = ShowsFirstFault name found.map bytes
ShowsView name found (view.Row a) bytes = ShowsRow name found a bytes
ShowsView name found view.Heat bytes = ShowsHeat name found bytes
ShowsView name found (view.Pair pair ask) bytes = ShowsAnswer name found.map pair ask bytes

-- The name finds a map in the WAD, and the bytes are those of its picture in this view, which tells lengths in map units by the unit of
-- the map's own text.
pub record IsPictureOf (wad : Source) (name : List ℕ) (view : View) (files : Files) (bytes : List ℕ) : Type 0 where
  pub found : LocatedMap
  pub was : found_of wad name files ≡ Ok found
  pub shows : ShowsView (named_in found name) found view bytes

-- Where `draw` is answered, OUT holds the picture that it asks for, and all other files are as they were.
abbrev pub DrawLeavesPicture : Type 0
DrawLeavesPicture = (words : List (List ℕ)) (wad : Source) (name out : List ℕ) (asked : View) (files : Files) (heard : ListenersHeard) (answer : Answer)
    → asked_of words ≡ Ok (order.Draw wad name out asked) → IsAnswer words files heard (Ok answer)
    → LeavesPicture out files (put_outputs files answer.writes) (IsPictureOf wad name asked files)

-- ---- what `all` writes

-- what was built, without its certificate
abbrev pub table_built : Built → MapTable
table_built built = record { table = built.table; listed = built.listed }

-- What `all` makes of a map is what `build` makes of it by the same method: the same table, byte for byte, and the same list, or the same flaw.
pub record AreMadeAlike (found : LocatedMap) (name : List ℕ) (method : Method) (outcomes : List MapOutcome) : Type 0 where
  pub tables : (o : MapOutcome) → Contains outcomes o → name_before_nul o.name ≡ name → (built : Built) → IsBuiltOf found.map method built → o.made ≡ Ok (table_built built)
  pub flaws : (o : MapOutcome) → Contains outcomes o → name_before_nul o.name ≡ name → (refusal : Status) → IsFlawOf found.map refusal → o.made ≡ Err refusal

abbrev pub AllIsAsBuild : Type 0
AllIsAsBuild = (wad : Source) (name : List ℕ) (files : Files) (w : WadFile) (found : LocatedMap) (maps : List (List ℕ)) (method : Method) (choice : Refused) (outcomes : List MapOutcome)
    → wad_in wad.file files ≡ Ok w → found_of wad name files ≡ Ok found → AreOutcomes w wad.large maps method choice outcomes → AreMadeAlike found name method outcomes

-- a table has the length that the sectors of its map ask
abbrev pub HasLengthOf : Result Map Status → Result MapTable Status → Type 0
HasLengthOf (Ok m) (Ok made) = IsTable m.sectors made.table.bytes
HasLengthOf said other = ⊤

-- Under OUT stands a WAD that is read as the one of the file in which each map that was to be built and got a table, or a clear one, has it as its REJECT,
-- and in which all other lumps are as they were, in order.
pub record KeepsAllLumps (wad : Source) (out : List ℕ) (only : Option (List (List ℕ))) (method : Method) (choice : Refused) (files stand : Files) : Type 0 where
  pub w : WadFile
  pub was : wad_in wad.file files ≡ Ok w
  pub maps : List (List ℕ)
  pub asked : maps_in (names_of_lumps w) only ≡ Ok maps
  pub outcomes : List MapOutcome
  pub are : AreOutcomes w wad.large maps method choice outcomes
  pub lengths : AllByRecursion (λ (o : MapOutcome). HasLengthOf (map_named wad.large w (name_before_nul o.name)) o.made) outcomes
  pub bytes : List ℕ
  pub stands : stand out ≡ Some bytes
  pub short : length bytes < 2 ^ 31
  pub new : WadFile
  pub read : wad_of bytes ≡ Ok new
  -- each table is put in at the map that its name finds in what those before it left, and the name finds it there at the end
  pub made : IsAll w (changes_of outcomes) new
  pub tables : AllByRecursion (λ (c : Change). HasReject new c.name c.table) (changes_of outcomes)
  -- what lies before, between and behind these REJECTs is what it was
  pub lumps : new.lumps ≡ spliced (names_of_lumps w) w.lumps 0 (changes_of outcomes)

-- Where `all` is answered, OUT holds such a WAD.
abbrev pub AllKeepsLumps : Type 0
AllKeepsLumps = (words : List (List ℕ)) (wad : Source) (out : List ℕ) (only : Option (List (List ℕ))) (report : Option ReportFile) (workers : ℕ) (method : Method) (choice : Refused) (files : Files) (heard : ListenersHeard) (answer : Answer)
    → asked_of words ≡ Ok (order.All wad out only report workers method choice) → IsAnswer words files heard (Ok answer)
    → KeepsAllLumps wad out only method choice files (put_outputs files answer.writes)

-- ---- where nothing failed

-- how a run went: the files, the shelf, the sink and the listeners before and after it, and its status
pub record Went : Type 0 where
  pub files : Files
  pub heard : ListenersHeard
  pub before : ShelfState
  pub after : ShelfState
  pub sink : Sinks
  pub status : Status

-- as `run` promises, and no count of faults rose
pub record WentWell (words : List (List ℕ)) (went : Went) : Type 0 where
  pub ends : RunEnds words went.files went.heard went.before went.after went.sink.old went.sink.new went.status
  pub cause : StatusCause went.before went.after went.sink.old went.sink.new went.status
  pub quiet : NothingRose went.before went.after went.sink.old went.sink.new

-- it is done, unless memory ran out, or the WAD with the table is above that limit
abbrev pub EndsBuild : Method → LocatedMap → Status → Type 0
EndsBuild method found status.Done = ⊤
EndsBuild method found (status.Memory _) = ⊤
EndsBuild method found (status.Limit bound) = ShowsLimit method found bound
EndsBuild method found other = ⊥

-- A build of a map that the audit accepts ends so.
abbrev pub BuildIsDone : Type 0
BuildIsDone = (words : List (List ℕ)) (wad : Source) (name out : List ℕ) (asked report : Option (List ℕ)) (workers : ℕ) (method : Method) (went : Went) (found : LocatedMap)
    → asked_of words ≡ Ok (order.Build wad name out asked report workers method) → found_of wad name went.files ≡ Ok found → HasClosedFaces found.map
    → WentWell words went → EndsBuild method found went.status

-- the WAD with a clear REJECT for the map, as `zero` writes it, is within the limits; so is the one with any other table of its sectors
pub record HasRoom (found : LocatedMap) : Type 0 where
  pub bytes : List ℕ
  pub clear : with_table found (clear_table found.map.sectors) ≡ Ok bytes

-- Where there is room it ends with Done, or for want of memory.
abbrev pub BuildWithRoomIsDone : Type 0
BuildWithRoomIsDone = (words : List (List ℕ)) (wad : Source) (name out : List ℕ) (asked report : Option (List ℕ)) (workers : ℕ) (method : Method) (went : Went) (found : LocatedMap)
    → asked_of words ≡ Ok (order.Build wad name out asked report workers method) → found_of wad name went.files ≡ Ok found → HasClosedFaces found.map → HasRoom found
    → WentWell words went → (went.status ≡ status.Done) ⊎ (went.status ≡ status.Memory tt)

-- it is done, unless memory ran out, or the first refusal stops all, or the WAD with all tables is above that limit
abbrev pub EndsAll : Bool → List (List ℕ) → Method → Refused → WadFile → Status → Type 0
EndsAll large maps method choice w status.Done = ⊤
EndsAll large maps method choice w (status.Memory _) = ⊤
EndsAll large maps method choice w refusal = IsUnmade w large maps method choice refusal

-- `all` of a WAD that is read ends so, where each name that is given is that of a map. Without names there is nothing to be found.
abbrev pub AllIsDone : Type 0
AllIsDone = (words : List (List ℕ)) (wad : Source) (out : List ℕ) (only : Option (List (List ℕ))) (report : Option ReportFile) (workers : ℕ) (method : Method) (choice : Refused) (went : Went) (w : WadFile) (maps : List (List ℕ))
    → asked_of words ≡ Ok (order.All wad out only report workers method choice) → wad_in wad.file went.files ≡ Ok w → maps_in (names_of_lumps w) only ≡ Ok maps
    → WentWell words went → EndsAll wad.large maps method choice w went.status

-- it is done, unless memory ran out or one of the two is no sector of the map
abbrev pub EndsPair : Map → Pair → Status → Type 0
EndsPair m pair status.Done = ⊤
EndsPair m pair (status.Memory _) = ⊤
EndsPair m pair (status.No (why.NoSector k)) = IsMissing m pair k
EndsPair m pair other = ⊥

-- A `why` of a map that the audit accepts ends so.
abbrev pub WhyIsDone : Type 0
WhyIsDone = (words : List (List ℕ)) (wad : Source) (name : List ℕ) (pair : Pair) (ask : Ask) (went : Went) (found : LocatedMap)
    → asked_of words ≡ Ok (order.Why wad name pair ask) → found_of wad name went.files ≡ Ok found → HasClosedFaces found.map
    → WentWell words went → EndsPair found.map pair went.status

-- So does a `draw` of a pair.
abbrev pub DrawnPairIsDone : Type 0
DrawnPairIsDone = (words : List (List ℕ)) (wad : Source) (name out : List ℕ) (pair : Pair) (ask : Ask) (went : Went) (found : LocatedMap)
    → asked_of words ≡ Ok (order.Draw wad name out (view.Pair pair ask)) → found_of wad name went.files ≡ Ok found → HasClosedFaces found.map
    → WentWell words went → EndsPair found.map pair went.status
