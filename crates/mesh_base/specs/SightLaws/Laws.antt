-- What holds of the definitions, whatever the map. Each is the contract of a function of this crate.
use Rattle.std.specs.Prelude.{◌≡◌, ℕ, ◌↔◌, List, Some, not}
use Rattle.sight_names.specs.declared.names.Side.{Side}
use Rattle.sight_names.specs.declared.names.Ray.{Ray}
use Rattle.sight_names.specs.declared.names.Triangle.{Triangle}
use Rattle.sight_names.specs.Point.{Point}
use Rattle.sight_names.specs.Plan.{PlanParts, IsPlan}
use Rattle.sight_names.specs.Map.{Map, MapLine, line_at, IsMap, Names, map_of}
use Rattle.sight_names.specs.Path.{Touches, MissesSolid}
use Rattle.sight_names.specs.Sound.{LinesMeetAtEnds}
use Rattle.sight_names.specs.Sees.{Sees}
use Rattle.sight_names.specs.Ray.{SplitsLine, NotBehind, IsCrossing, IsSightRay}
use Rattle.sight_names.specs.Points.{Edge}
use Rattle.sight_names.specs.Greedy.{IsGreedy}
use Rattle.sight_names.specs.Mesh.{IsMeshOf}

-- all of a sight ray but the range of its numbers and the names of its sides: it leaves first, arrives on last, crosses
-- last's line not before first's, and no solid line has a point between the crossings
pub record IsOpenRay (m : Map) (r : Ray) : Type 0 where
  pub first : MapLine
  pub is_first : line_at m r.first.line ≡ Some first
  pub last : MapLine
  pub is_last : line_at m r.last.line ≡ Some last
  pub leaves : SplitsLine r first (not r.first.left)
  pub arrives : SplitsLine r last r.last.left
  pub start : Point
  pub stop : Point
  pub starts : IsCrossing r first start
  pub stops : IsCrossing r last stop
  pub forward : NotBehind r start stop
  pub clear : MissesSolid m start stop

-- p touches the side s, q touches the side t, and the segment between them misses every solid line
pub record AreInSight (m : Map) (s t : Side) : Type 0 where
  pub p : Point
  pub q : Point
  pub from : Touches m p s
  pub to : Touches m q t
  pub clear : MissesSolid m p q

-- what a plan stands for is a map
abbrev pub PlanIsMap : Type 0
PlanIsMap = (p : PlanParts) → IsPlan p → IsMap (map_of p)

abbrev pub SightIsSymmetric : Type 0
SightIsSymmetric = (m : Map) (a b : ℕ) → Sees m a b → Sees m b a

-- a sector sees itself exactly where a side of a line names it
abbrev pub NamedSeesItself : Type 0
NamedSeesItself = (m : Map) (a : ℕ) → IsMap m → LinesMeetAtEnds m → (Sees m a a ↔ ((s : Side) × Names m s a))

-- some point touches a side of a line
abbrev pub SideIsTouched : Type 0
SideIsTouched = (m : Map) (s : Side) (l : MapLine) → IsMap m → LinesMeetAtEnds m → line_at m s.line ≡ Some l → (p : Point) × Touches m p s

-- an open ray, with numbers of any size, joins a point that touches its first side with one that touches its last
abbrev pub OpenRayJoinsSides : Type 0
OpenRayJoinsSides = (m : Map) (r : Ray) → IsMap m → LinesMeetAtEnds m → IsOpenRay m r → AreInSight m r.first r.last

-- so the sectors that the sides name see each other
abbrev pub OpenRaySees : Type 0
OpenRaySees = (m : Map) (r : Ray) (a b : ℕ) → IsMap m → LinesMeetAtEnds m → IsOpenRay m r → Names m r.first a → Names m r.last b → Sees m a b

-- the same of a sight ray
abbrev pub SightRayJoinsSides : Type 0
SightRayJoinsSides = (m : Map) (r : Ray) (a b : ℕ) → IsMap m → LinesMeetAtEnds m → IsSightRay m r a b → AreInSight m r.first r.last

abbrev pub SightRaySees : Type 0
SightRaySees = (m : Map) (r : Ray) (a b : ℕ) → IsMap m → LinesMeetAtEnds m → IsSightRay m r a b → Sees m a b

-- only one list is greedy
abbrev pub OneGreedyList : Type 0
OneGreedyList = (m : Map) (kept other : List Edge) → IsGreedy m kept → IsGreedy m other → kept ≡ other

-- only one list of triangles is the map's mesh
abbrev pub OneMesh : Type 0
OneMesh = (m : Map) (ts us : List Triangle) → IsMeshOf m ts → IsMeshOf m us → ts ≡ us
