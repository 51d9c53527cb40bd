-- Laws of what is drawn.
use Rattle.std.specs.Prelude.{◌≡◌, ℕ, ◌⊎◌, List, [], ◌∷◌, Option, Some, IfSome, Ok, Contains, slice_get}
use Rattle.sight_names.specs.declared.names.Ask.{Ask}
use Rattle.sight_names.specs.declared.names.Budget.{Budget}
use Rattle.sight_names.specs.declared.names.Pair.{Pair}
use Rattle.sight_names.specs.declared.names.Triangle.{Triangle}
use Rattle.sight_names.specs.Groups.{IsInGroup}
use Rattle.sight_names.specs.Map.{Map, map_of}
use Rattle.sight_names.specs.Mesh.{label_of}
use Rattle.sight_names.specs.Path.{InSector, MissesSolid}
use Rattle.sight_names.specs.Plan.{IsPlan, PlanParts}
use Rattle.sight_names.specs.Point.{OnSegment, Point}
use Rattle.sight_names.specs.Sees.{Sees}
use Rattle.reject_bits.specs.Parts.{TableParts}
use Rattle.sight_lift.specs.Lift.{InClosedTriangle}
use Rattle.map_answers.specs.declared.sight_status.status.Flaw.{Flaw}
use Rattle.map_answers.specs.declared.sight_status.status.Role.TheVariants as role
use Rattle.map_answers.specs.SightStatus.Answer.{Answer}
use Rattle.group_job.specs.declared.build.GroupBuilt.{GroupBuilt}
use Rattle.group_job.specs.Built.{DecidesByGroups}
use Rattle.map_picture.specs.Bytes.{svg_of}
use Rattle.map_picture.specs.Picture.{NamedParts, Element, most_of}
use Rattle.map_picture.specs.Laws.{ShowsArrows, ShowsFaces, ShowsFaults, ShowsLines, ShowsMarks, TellsHeat, TellsRow}
use Rattle.map_answers.specs.Groups.{IsMapWithGroups, MapGroups}
use Rattle.pair_answer.specs.Laws.{IsSaidByBuild, AnswerTellsSight}
use Rattle.pair_answer.specs.declared.entered_triangles.entered.Entered.{Entered}
use Rattle.fault_marks.specs.declared.marks.FaultMarks.{FaultMarks}
use Rattle.draw_answers.specs.Faults.{AreMarksOf, DrawFaultsCalls, IsAuditFaultOf}
use Rattle.draw_answers.specs.Heat.{DrawHeatCalls, most_seen, seen_by}
use Rattle.draw_answers.specs.Pair.{DrawPairCalls, DrawsPair, IsEnteredOver}
use Rattle.draw_answers.specs.Plan.{DrawPlanCalls}
use Rattle.draw_answers.specs.Row.{DrawRowCalls}

-- ---- plans, faults and rows

-- the picture is the one file that the answer writes, and it shows the lines of the map
pub record WritesPicture (out : List ℕ) (m : Map) (answer : Answer) (picture : List Element) : Type 0 where
  pub writes : answer.writes ≡ record { role = role.Picture; name = out; bytes = svg_of m picture } ∷ []
  pub lines : ShowsLines m picture

abbrev pub PlansShowLines : Type 0
PlansShowLines = (name : NamedParts) (out : List ℕ) (m : Map) (answer : Answer) → DrawPlanCalls name out m (Ok answer) → (picture : List Element) × WritesPicture out m answer picture

-- the lines and the points that the flaw calls for are marked, and no other, and arrows lead just where it calls for them
pub record TellsMarks (places : ℕ) (m : Map) (which : Flaw) (picture : List Element) : Type 0 where
  pub marks : FaultMarks
  pub are : AreMarksOf m which marks
  pub lines : ShowsMarks marks.lines picture
  pub rings : ShowsFaults places marks.faults picture
  pub arrows : ShowsArrows places marks.arrows picture

-- .. and, if the map has a fault, those that the first one calls for
pub record MarksFault (places : ℕ) (out : List ℕ) (m : Map) (answer : Answer) : Type 0 where
  pub fault : Option Flaw
  pub first : IsAuditFaultOf m fault
  pub picture : List Element
  pub writes : WritesPicture out m answer picture
  pub marks : IfSome fault (λ which. TellsMarks places m which picture)

abbrev pub FaultsAreMarked : Type 0
FaultsAreMarked = (name : NamedParts) (out : List ℕ) (m : Map) (answer : Answer) → DrawFaultsCalls name out m (Ok answer) → MarksFault name.places out m answer

-- .. and its faces tell what the row of sector a has of their groups
pub record TellsTable (out : List ℕ) (m : Map) (t : TableParts) (a : ℕ) (answer : Answer) : Type 0 where
  pub picture : List Element
  pub writes : WritesPicture out m answer picture
  pub groups : MapGroups
  pub over : IsMapWithGroups m groups
  pub faces : ShowsFaces groups.groups groups.triangles groups.labels (TellsRow t a) picture

abbrev pub RowsTellTables : Type 0
RowsTellTables = (name : NamedParts) (out : List ℕ) (m : Map) (t : TableParts) (a : ℕ) (answer : Answer) → DrawRowCalls name out t a m (Ok answer) → TellsTable out m t a answer

-- .. and its faces are painted by the most that one of their sectors may see by the table
pub record TellsHeatOf (out : List ℕ) (m : Map) (t : TableParts) (answer : Answer) : Type 0 where
  pub picture : List Element
  pub writes : WritesPicture out m answer picture
  pub groups : MapGroups
  pub over : IsMapWithGroups m groups
  pub faces : ShowsFaces groups.groups groups.triangles groups.labels (TellsHeat (most_seen t) (most_of (seen_by t groups.groups))) picture

abbrev pub HeatTellsTables : Type 0
HeatTellsTables = (name : NamedParts) (out : List ℕ) (m : Map) (t : TableParts) (answer : Answer) → DrawHeatCalls name out t m (Ok answer) → TellsHeatOf out m t answer

-- ---- pairs

-- The picture is of an answer that is what a build says of the pair, and that tells whether the two sectors see each other.
pub record IsDrawnAs (name : NamedParts) (out : List ℕ) (m : Map) (ask : Ask) (pair : Pair) (b : GroupBuilt) (answer : Answer) : Type 0 where
  pub groups : MapGroups
  pub over : IsMapWithGroups m groups
  pub drawn : DrawsPair name out m ask pair groups answer
  pub built : IsSaidByBuild b pair drawn.given
  pub sight : AnswerTellsSight m pair drawn.given

abbrev pub PairsAreOfBuilds : Type 0
PairsAreOfBuilds = (p : PlanParts) (name : NamedParts) (out : List ℕ) (ask : Ask) (pair : Pair) (b : GroupBuilt) (answer : Answer) → IsPlan p → DecidesByGroups (map_of p) ask b
    → DrawPairCalls name out ask pair (map_of p) (Ok answer) → IsDrawnAs name out (map_of p) ask pair b answer

-- ---- what is entered

-- the point is in a closed triangle whose group contains the sector
pub record InFaceOf (m : Map) (g : MapGroups) (a : ℕ) (q : Point) : Type 0 where
  pub f : ℕ
  pub contains : IsInGroup g.groups a f
  pub k : ℕ
  pub t : Triangle
  pub is : slice_get g.triangles k ≡ Some t
  pub label : label_of g.labels k ≡ Some f
  pub closed : InClosedTriangle m t q

-- .. or in a closed triangle that is entered
pub record InEntered (m : Map) (g : MapGroups) (e : Entered) (q : Point) : Type 0 where
  pub k : ℕ
  pub t : Triangle
  pub entered : Contains e.triangles.items k
  pub is : slice_get g.triangles k ≡ Some t
  pub closed : InClosedTriangle m t q

-- each point s of a segment from a point q of the sector that misses all solid lines is in one of these
abbrev pub BlindIsClosed : Type 0
BlindIsClosed = (p : PlanParts) (g : MapGroups) (budget : Budget) (a : ℕ) (e : Entered) (q r s : Point) → IsPlan p → IsMapWithGroups (map_of p) g → IsEnteredOver g budget a e
    → InSector (map_of p) q a → MissesSolid (map_of p) q r → OnSegment q r s → InFaceOf (map_of p) g a s ⊎ InEntered (map_of p) g e s

-- no triangle that is entered has a group with sector b, if sector a doesn't see it
abbrev pub UnseenIsNotShown : Type 0
UnseenIsNotShown = (p : PlanParts) (g : MapGroups) (budget : Budget) (a b : ℕ) (e : Entered) → IsPlan p → IsMapWithGroups (map_of p) g → IsEnteredOver g budget a e → ¬ Sees (map_of p) a b
    → (k f : ℕ) → Contains e.triangles.items k → IsInGroup g.groups b f → ¬ (label_of g.labels k ≡ Some f)
