-- What the audit of a map that four lumps spell tells C.
use Rattle.std.specs.Prelude.{◌≡◌, ◌↔◌, ◌⊎◌, ℕ, List, [], ◌++◌, Option, Some, None, Result, Ok, Err, Contains, length, map, ⊤}
use Rattle.sight_names.specs.declared.names.Side.{Side}
use Rattle.sight_names.specs.declared.names.Triangle.{Triangle}
use Rattle.sight_names.specs.Groups.{HasClosedFaces}
use Rattle.sight_names.specs.Map.{Map, map_of}
use Rattle.sight_names.specs.Mesh.{IsMeshOf}
use Rattle.sight_names.specs.Plan.{IsPlan, PlanParts}
use Rattle.sight_names.specs.Sound.{LinesMeetAtEnds}
use Rattle.map_faults.specs.declared.clashes.LinePair.{LinePair}
use Rattle.map_faults.specs.declared.gaps.Gap.{Gap}
use Rattle.map_faults.specs.declared.loose_ends.LooseEnd.{LooseEnd}
use Rattle.map_faults.specs.declared.tears.Tear.{Tear}
use Rattle.map_faults.specs.Clashes.{AreFirstClashes, IsClash}
use Rattle.map_faults.specs.Gaps.{AreHullGaps}
use Rattle.map_faults.specs.LooseEnds.{AreLooseEnds}
use Rattle.map_faults.specs.OpenSides.{AreOpenSides}
use Rattle.map_faults.specs.Tears.{AreTears}
use Rattle.map_answers.specs.declared.sight_status.status.Status.{Status}
use Rattle.map_answers.specs.declared.sight_status.status.Status.TheVariants as status
use Rattle.doomsight_c.specs.declared.fault.DoomsightFault.{DoomsightFault}
use Rattle.doomsight_c.specs.declared.flaw.DoomsightFlaw.{DoomsightFlaw}
use Rattle.doomsight_c.specs.declared.flaw.DoomsightFlawCounts.{DoomsightFlawCounts}
use Rattle.doomsight_c.specs.Faults.{fault_view}
use Rattle.doomsight_c.specs.Flaws.{PutsFront, TellEach, TellsClash, gap_view, loose_view, side_view, tear_view}
use Rattle.doomsight_c.specs.Lines.{status_in}

-- what is at fault between the lines, over the mesh of a map whose lines meet at ends
pub record AreOfFaces (p : PlanParts) (sides : List Side) (tears : List Tear) (gaps : List Gap) : Type 0 where
  pub triangles : List Triangle
  pub mesh : IsMeshOf (map_of p) triangles
  pub are_open : AreOpenSides (map_of p) sides
  pub are_torn : AreTears p triangles tears
  pub are_gaps : AreHullGaps (map_of p) triangles gaps

-- where lines clash, nothing is looked for between them
abbrev pub AreBetween : PlanParts → List Side → List Tear → List Gap → Type 0
AreBetween p sides tears gaps = (LinesMeetAtEnds (map_of p) × AreOfFaces p sides tears gaps) ⊎ ((¬ LinesMeetAtEnds (map_of p)) × (sides ≡ []) × (tears ≡ []) × (gaps ≡ []))

-- these tell of the lines that clash
pub record TellsClashes (p : PlanParts) (clashes : List LinePair) (before after : List DoomsightFlaw) : Type 0 where
  pub flaws : List DoomsightFlaw
  pub tell : TellEach (TellsClash p) clashes flaws
  pub are : after ≡ before ++ flaws

-- they tell of all that was found, kind after kind
pub record TellsAllFlaws (p : PlanParts) (clashes : List LinePair) (loose : List LooseEnd) (sides : List Side) (tears : List Tear) (gaps : List Gap) (all : List DoomsightFlaw) : Type 0 where
  pub first : List DoomsightFlaw
  pub clash : TellsClashes p clashes [] first
  pub are : all ≡ (((first ++ map (loose_view p) loose) ++ map (side_view p) sides) ++ map (tear_view p) tears) ++ map (gap_view p) gaps

abbrev pub counts_of : ℕ → ℕ → ℕ → ℕ → ℕ → ℕ → DoomsightFlawCounts
counts_of clashes loose sides tears gaps listed = record { clashes = clashes; loose_ends = loose; open_sides = sides; tears = tears; gaps = gaps; listed = listed }

-- just all faults of a map in their order, but for clashes behind the first thousand, which are counted alone; and how many there are
pub record IsAuditOf (p : PlanParts) (all : List DoomsightFlaw) (counts : DoomsightFlawCounts) : Type 0 where
  pub clashes : List LinePair
  pub are_clashes : AreFirstClashes (map_of p) clashes counts.clashes
  pub loose : List LooseEnd
  pub are_loose : AreLooseEnds p loose
  pub sides : List Side
  pub tears : List Tear
  pub gaps : List Gap
  pub between : AreBetween p sides tears gaps
  pub told : TellsAllFlaws p clashes loose sides tears gaps all
  pub counted : counts ≡ counts_of counts.clashes (length loose) (length sides) (length tears) (length gaps) (length all)
  -- the map has a table exactly where no lines clash and no side is open
  pub sound : ((counts.clashes ≡ 0) × (counts.open_sides ≡ 0)) ↔ HasClosedFaces (map_of p)

-- the audit of the map that was read: its counts, and as many of its faults as there is room for
pub record IsAudited (read : Result Map Status) (before after : List DoomsightFlaw) (counts : DoomsightFlawCounts) : Type 0 where
  pub plan : PlanParts
  pub is_plan : IsPlan plan
  pub is_read : read ≡ Ok (map_of plan)
  pub all : List DoomsightFlaw
  pub audit : IsAuditOf plan all counts
  pub put : PutsFront all before after

-- the lumps call for this refusal: they are no map. Else memory ran out
abbrev pub RefusesReading : Result Map Status → Status → Type 0
RefusesReading (Ok m) (status.Memory _) = ⊤
RefusesReading (Ok m) s = ⊥
RefusesReading (Err r) (status.Memory _) = ⊤
RefusesReading (Err r) s = s ≡ r

pub record IsUnaudited (read : Result Map Status) (fault : DoomsightFault) : Type 0 where
  pub refusal : Status
  pub is : fault ≡ fault_view refusal
  pub told : status_in fault ≡ refusal
  pub called : RefusesReading read refusal

-- why there is no audit: a number of the call is out of order, or else what the lumps call for
abbrev pub IsNotAudited : Option DoomsightFault → Result Map Status → DoomsightFault → Type 0
IsNotAudited (Some wrong) read fault = fault ≡ wrong
IsNotAudited None read fault = IsUnaudited read fault

-- ---- parts of it

-- each of these pairs clashes
abbrev pub AreClashing : PlanParts → List LinePair → Type 0
AreClashing p pairs = (pair : LinePair) → Contains pairs pair → IsClash (map_of p) pair

-- the audit of the map that was read
pub record IsAuditFor (read : Result Map Status) (all : List DoomsightFlaw) (counts : DoomsightFlawCounts) : Type 0 where
  pub plan : PlanParts
  pub is_plan : IsPlan plan
  pub is_read : read ≡ Ok (map_of plan)
  pub audit : IsAuditOf plan all counts
