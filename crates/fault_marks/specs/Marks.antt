-- What is marked of a map that is refused: its clashes, or where lines don't clash its open faces.
use Rattle.std.specs.Prelude.{◌≡◌, ℕ, ◌-◌, List, [], ◌∷◌, ◌++◌, flat_map, length, map, slice_get, ⊤}
use Rattle.sight_names.specs.declared.faults.LineFault.{LineFault}
use Rattle.sight_names.specs.declared.names.Side.{Side}
use Rattle.sight_names.specs.declared.names.Triangle.{Triangle}
use Rattle.sight_names.specs.Map.{Map, map_of}
use Rattle.sight_names.specs.Mesh.{IsMeshOf}
use Rattle.sight_names.specs.Plan.{IsPlan, PlanParts}
use Rattle.map_audit.specs.Audit.{IsLineFaultOf}
use Rattle.map_faults.specs.declared.clashes.LinePair.{LinePair}
use Rattle.map_faults.specs.declared.loose_ends.LooseEnd.{LooseEnd}
use Rattle.map_faults.specs.declared.tears.Tear.{Tear}
use Rattle.map_faults.specs.Clashes.{AreFirstClashes, AreNumbersInOrder}
use Rattle.map_faults.specs.Corners.{AreCornersOf}
use Rattle.map_faults.specs.LooseEnds.{AreLooseEnds}
use Rattle.map_faults.specs.OpenSides.{AreOpenSides}
use Rattle.map_picture.specs.declared.faults.FaultAt.{FaultAt}
use Rattle.map_picture.specs.declared.faults.PointFault.TheVariants as point
use Rattle.fault_marks.specs.declared.marks.FaultMarks.{FaultMarks}
use Rattle.fault_marks.specs.Arrows.{AreTornWith}

-- ---- lines that clash

-- the two lines of each pair
abbrev pub lines_of_pairs : List LinePair → List ℕ
lines_of_pairs ps = flat_map (λ (p : LinePair). p.i ∷ p.j ∷ []) ps

-- how the lines of the pair clash, and where they meet, if they aren't parallel
pub record IsClashAt (m : Map) (p : LinePair) (a : FaultAt) : Type 0 where
  pub fault : LineFault
  pub is : IsLineFaultOf m p.i p.j fault
  pub told : a.fault ≡ point.Clash fault
  pub at : AreCornersOf m p.i p.j a.at

-- one for each pair
abbrev pub AreClashesAt : Map → List LinePair → List FaultAt → Type 0
AreClashesAt m [] [] = ⊤
AreClashesAt m [] (a ∷ faults) = ⊥
AreClashesAt m (p ∷ ps) [] = ⊥
AreClashesAt m (p ∷ ps) (a ∷ faults) = IsClashAt m p a × AreClashesAt m ps faults

-- the lines of the first clashes are marked, in order and each once, and a ring is round each point where two of them meet
pub record AreOfClashes (m : Map) (x : FaultMarks) : Type 0 where
  pub first : List LinePair
  pub count : ℕ
  pub are : AreFirstClashes m first count
  pub left_out : x.left_out ≡ count - length first
  pub lines : AreNumbersInOrder (lines_of_pairs first) x.lines
  pub faults : AreClashesAt m first x.faults
  pub arrows : x.arrows ≡ []

-- ---- open faces

abbrev pub torn_at : PlanParts → ℕ → FaultAt
torn_at p k = record { fault = point.Torn; at = slice_get p.points k }

abbrev pub loose_at : PlanParts → LooseEnd → FaultAt
loose_at p e = record { fault = point.Loose e.line; at = slice_get p.points e.point }

-- the torn corners, and behind them the loose ends
abbrev pub faults_of : PlanParts → List ℕ → List LooseEnd → List FaultAt
faults_of p corners ends = map (torn_at p) corners ++ map (loose_at p) ends

-- The lines of the open sides are marked, in order and each once. Rings are round the points of torn corners over the mesh of the map,
-- and round all points at which just one line ends. Arrows lead round the torn corners from sides that name a sector.
pub record AreOfOpenFaces (m : Map) (x : FaultMarks) : Type 0 where
  pub p : PlanParts
  pub plan : IsPlan p
  pub stands : map_of p ≡ m
  pub sides : List Side
  pub against : AreOpenSides m sides
  pub lines : AreNumbersInOrder (map (λ (s : Side). s.line) sides) x.lines
  pub triangles : List Triangle
  pub mesh : IsMeshOf m triangles
  pub tears : List Tear
  pub torn : AreTornWith p triangles tears x.arrows
  pub corners : List ℕ
  pub points : AreNumbersInOrder (map (λ (t : Tear). t.point) tears) corners
  pub ends : List LooseEnd
  pub loose : AreLooseEnds p ends
  pub faults : x.faults ≡ faults_of p corners ends
  pub left_out : x.left_out ≡ 0
