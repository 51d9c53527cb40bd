-- What the order `build` makes of a map that was found.
use Rattle.std.specs.Prelude.{◌≡◌, ℕ, true, List, [], ◌∷◌, ◌++◌, Option, Some, None, Result, Ok, Err, codes, length, slice_get, ⊤}
use Rattle.sight_names.specs.declared.names.Method.{Method}
use Rattle.sight_names.specs.Groups.{HasClosedFaces}
use Rattle.sight_names.specs.Sound.{LinesMeetAtEnds}
use Rattle.map_audit.specs.Audit.{IsLineFault}
use Rattle.listeners.specs.declared.finding.Finding.{Finding}
use Rattle.listeners.specs.Findings.{AreFindingsOfMap}
use Rattle.listeners.specs.Listening.{ListenerState, clears_in, lists_in, sets_in}
use Rattle.listeners.specs.Told.{AreFindingsTold, AreToldInTurn, texts}
use Rattle.reject_bits.specs.Parts.{TableParts}
use Rattle.certificates.specs.declared.certificate.Certificate.{Certificate}
use Rattle.certificates.specs.Grammar.{Spells, spelling}
use Rattle.map_answers.specs.declared.counts.Counts.{Counts}
use Rattle.map_answers.specs.declared.sight_status.status.Bound.{Bound}
use Rattle.map_answers.specs.declared.sight_status.status.Bound.TheVariants as bound
use Rattle.map_answers.specs.declared.sight_status.status.Flaw.TheVariants as flaw
use Rattle.map_answers.specs.declared.sight_status.status.Role.{Role}
use Rattle.map_answers.specs.declared.sight_status.status.Role.TheVariants as role
use Rattle.map_answers.specs.declared.sight_status.status.Status.{Status}
use Rattle.map_answers.specs.declared.sight_status.status.Status.TheVariants as status
use Rattle.map_answers.specs.SightStatus.Answer.{Answer, Written}
use Rattle.map_answers.specs.Counts.{counts_with, counts_words}
use Rattle.map_answers.specs.Input.{LocatedMap}
use Rattle.sight_run.specs.Heard.{ListenersHeard}
use Rattle.whole_wad.specs.declared.building.Built.{Built}
use Rattle.whole_wad.specs.Built.{IsBuiltOf}
use Rattle.whole_wad.specs.Sizes.{sizes_of_map}
use Rattle.map_answers.specs.Sound.{HasOpenSide}
use Rattle.sight_run.specs.Zero.{with_table}

-- ---- what is stored and said

abbrev pub wad_output : List ℕ → List ℕ → Written
wad_output name bytes = record { role = role.Wad; name = name; bytes = bytes }

abbrev pub cert_output : List ℕ → List ℕ → Written
cert_output name bytes = record { role = role.Cert; name = name; bytes = bytes }

-- the WAD is stored first, then the certificate where it is asked for
abbrev pub build_writes : List ℕ → List ℕ → Option (List ℕ) → List ℕ → List Written
build_writes out bytes None spelled = wad_output out bytes ∷ []
build_writes out bytes (Some name) spelled = wad_output out bytes ∷ cert_output name spelled ∷ []

-- the roles of these outputs
abbrev pub build_roles : Option (List ℕ) → List Role
build_roles None = role.Wad ∷ []
build_roles (Some name) = role.Wad ∷ role.Cert ∷ []

abbrev pub build_line : List ℕ → Counts → List ℕ
build_line name counts = codes "built " ++ name ++ counts_words counts ++ codes "\n"

-- how many of the findings are set, clear and listed
abbrev pub finding_counts : ℕ → List Finding → Counts
finding_counts sectors findings = record { sectors = sectors; set = sets_in findings; clear = clears_in findings; listed = lists_in findings }

abbrev pub report_output : List ℕ → List ℕ → Written
report_output name bytes = record { role = role.Report; name = name; bytes = bytes }

-- the report, where it is asked for
abbrev pub report_writes : Option (List ℕ) → List ℕ → List Written
report_writes None report = []
report_writes (Some name) report = report_output name report ∷ []

abbrev pub report_roles : Option (List ℕ) → List Role
report_roles None = []
report_roles (Some name) = role.Report ∷ []

abbrev pub report_names : Option (List ℕ) → List (List ℕ)
report_names None = []
report_names (Some name) = name ∷ []

-- these outputs, and behind them the report where it is asked for
abbrev pub report_behind : Option (List ℕ) → List ℕ → List Written → List Written
report_behind None report ws = ws
report_behind (Some name) report ws = ws ++ report_output name report ∷ []

-- an answer, with the report where it is asked for
abbrev pub with_report : Option (List ℕ) → List ℕ → Result Answer Status → Result Answer Status
with_report reported report (Ok answer) = Ok (record { writes = report_behind reported report answer.writes; line = answer.line; right = answer.right })
with_report reported report (Err refusal) = Err refusal

-- The file's WAD with the table that was built, the certificate and the report where they are asked for, and a line with the counts of
-- the table and of the list. The listeners heard the findings of the map by this method in turn, each that has a quota up to its last
-- set pair; the report is the texts of those that ended, and then of those that are left.
pub record ShowsBuild (name out : List ℕ) (asked reported : Option (List ℕ)) (method : Method) (found : LocatedMap) (heard : ListenersHeard) (answer : Answer) : Type 0 where
  pub built : Built
  pub is_built : IsBuiltOf found.map method built
  pub bytes : List ℕ
  pub made : with_table found built.table.bytes ≡ Ok bytes
  pub spelled : List ℕ
  pub spells : Spells (sizes_of_map found.map) spelled built.cert
  pub findings : List Finding
  pub are_findings : AreFindingsOfMap found.map is_built.decided.budget findings
  pub ended : List ListenerState
  pub in_turn : AreToldInTurn findings heard.before heard.after ended
  -- the line counts them
  pub counted : counts_with built.table (length built.listed) ≡ finding_counts found.map.sectors findings
  pub report : List ℕ
  pub report_is : report ≡ texts ended ++ texts heard.after
  pub told : AreFindingsTold findings heard.before heard.after report
  pub is : answer ≡ record { writes = report_behind reported report (build_writes out bytes asked spelled); line = build_line name (counts_with built.table (length built.listed)); right = true }

-- the WAD with the table that was built is above a limit
pub record ShowsLimit (method : Method) (found : LocatedMap) (bound : Bound) : Type 0 where
  pub built : Built
  pub is_built : IsBuiltOf found.map method built
  pub limit : with_table found built.table.bytes ≡ Err (status.Limit bound)

-- a refusal that comes once a map is found
abbrev pub IsOfBuildReply : Status → Type 0
IsOfBuildReply (status.BadMap flaw) = ⊤
IsOfBuildReply (status.Limit bound.Lumps) = ⊤
IsOfBuildReply (status.Limit bound.OutputBytes) = ⊤
IsOfBuildReply (status.Memory _) = ⊤
IsOfBuildReply other = ⊥

-- no map is found, or it isn't sound: a build ends before anything is built
abbrev pub IsUnbuildable : Result LocatedMap Status → Type 0
IsUnbuildable (Err refusal) = ⊤
IsUnbuildable (Ok found) = ¬ HasClosedFaces found.map

-- The answer that `build` calls for. Where the map isn't sound it is the refusal of its audit.
abbrev pub BuildCalls : List ℕ → List ℕ → Option (List ℕ) → Option (List ℕ) → Method → ListenersHeard → LocatedMap → Result Answer Status → Type 0
BuildCalls name out asked reported method heard found (Ok answer) = ShowsBuild name out asked reported method found heard answer
BuildCalls name out asked reported method heard found (Err (status.BadMap (flaw.Line fault))) = IsLineFault found.map fault
BuildCalls name out asked reported method heard found (Err (status.BadMap (flaw.Open side))) = LinesMeetAtEnds found.map × HasOpenSide found.map side
BuildCalls name out asked reported method heard found (Err (status.Limit bound)) = ShowsLimit method found bound
BuildCalls name out asked reported method heard found (Err other) = ⊥

-- ---- parts of it

-- what is made of a table, its list and its certificate before any listener is told: all but the report
pub record ShowsMade (name out : List ℕ) (asked : Option (List ℕ)) (found : LocatedMap) (table : TableParts) (listed : ℕ) (cert : Certificate) (answer : Answer) : Type 0 where
  pub bytes : List ℕ
  pub made : with_table found table.bytes ≡ Ok bytes
  pub is : answer ≡ record { writes = build_writes out bytes asked (spelling cert); line = build_line name (counts_with table listed); right = true }

-- .. or why it isn't
abbrev pub BuildMakes : List ℕ → List ℕ → Option (List ℕ) → LocatedMap → TableParts → ℕ → Certificate → Result Answer Status → Type 0
BuildMakes name out asked found table listed cert (Ok answer) = ShowsMade name out asked found table listed cert answer
BuildMakes name out asked found table listed cert (Err (status.Limit bound)) = with_table found table.bytes ≡ Err (status.Limit bound)
BuildMakes name out asked found table listed cert (Err (status.Memory _)) = ⊤
BuildMakes name out asked found table listed cert (Err other) = ⊥

-- ---- what all builds of a map have in common

-- All that `build` answers of a map by a method says one line, and writes one WAD, byte for byte.
pub record SayOneThing (one other : Answer) : Type 0 where
  pub line : one.line ≡ other.line
  pub wad : slice_get one.writes 0 ≡ slice_get other.writes 0

abbrev pub BuildsSayOneThing : Type 0
BuildsSayOneThing = (name out : List ℕ) (asked reported : Option (List ℕ)) (method : Method) (found : LocatedMap) (heard others : ListenersHeard) (one other : Answer)
    → BuildCalls name out asked reported method heard found (Ok one) → BuildCalls name out asked reported method others found (Ok other) → SayOneThing one other
