-- What stands in a ray's way first, from the crossing with its first side to that with its last; and that this is what a walk along it tells.
use Rattle.std.specs.Prelude.{◌≡◌, ℕ, ◌<◌, ◌≤◌, ◌⊎◌, List, Option, Some, length, slice_get, Contains, IsTrue}
use Rattle.sight_names.specs.declared.names.Ray.{Ray}
use Rattle.sight_names.specs.declared.names.Triangle.{Triangle}
use Rattle.sight_names.specs.declared.faults.TraceFault.{TraceFault}
use Rattle.sight_names.specs.declared.faults.TraceFault.TheVariants.{BadRay, HitsSolid, HitsPoint, Memory}
use Rattle.sight_names.specs.Point.{Point, SamePoint, OnSegment, InsideSegment, point_of}
use Rattle.sight_names.specs.Map.{Map, MapLine, line_at, IsMap}
use Rattle.sight_names.specs.Path.{OnLine}
use Rattle.sight_names.specs.Points.{points_of, place}
use Rattle.sight_names.specs.Mesh.{IsGoodMesh}
use Rattle.sight_names.specs.Ray.{NotBehind, IsSightRay}
use Rattle.sight_lift.specs.Lift.{InClosedTriangle}
use Rattle.sight_ray.specs.RayFault.{HasCrossings}
use Rattle.sight_names.specs.Sequence.{Portal}
use Rattle.sight_ray.specs.RayTrace.Trace.{HasLabelledTriangle, HasThirdPoint, IsTrace, IsBadRay, IsPortalOpen, MeetsWall, MeetsPoint, Walked}

-- z is a point of a solid line, or a point of the map
abbrev pub IsInTheWay : Map → Point → Type 0
IsInTheWay m z = ((i : ℕ) × (l : MapLine) × (line_at m i ≡ Some l) × IsTrue l.solid × OnLine l z)
    ⊎ ((k : ℕ) × (k < length (points_of m)) × SamePoint z (point_of (place m k)))

-- x is a point of the ray's stretch, and nothing is in the way before it
pub record ComesFirst (m : Map) (r : Ray) (x : Point) : Type 0 where
  pub start : Point
  pub stop : Point
  pub crossings : HasCrossings m r start stop
  pub forward : NotBehind r start stop
  pub on_stretch : OnSegment start stop x
  pub first : (z : Point) → OnSegment start stop z → IsInTheWay m z → NotBehind r x z

-- the ray is a sight ray, and no point of the map is on its stretch
abbrev pub IsRayClear : Map → Ray → Type 0
IsRayClear m r = (a b : ℕ) × (h : IsSightRay m r a b) × ((z : Point) → OnSegment h.start h.stop z → IsInTheWay m z → ⊥)

-- a point strictly inside this solid line is the first thing in the ray's way
abbrev pub IsFirstWall : Map → Ray → ℕ → Type 0
IsFirstWall m r number = (x : Point) × (l : MapLine) × (line_at m number ≡ Some l) × IsTrue l.solid × InsideSegment (point_of l.first) (point_of l.second) x × ComesFirst m r x

-- what a fault of the walk tells of the ray
abbrev pub IsFirstTraceFault : Map → Ray → TraceFault → Type 0
IsFirstTraceFault m r (BadRay fault) = IsBadRay m r fault
IsFirstTraceFault m r (HitsSolid number) = IsFirstWall m r number
IsFirstTraceFault m r (HitsPoint k) = ComesFirst m r (point_of (place m k))
IsFirstTraceFault m r (Memory _) = Unit {0}

-- a ray that is traced to its end is clear
abbrev pub TracedIsClear : Type 0
TracedIsClear = (m : Map) (ts : List Triangle) (ls : List (Option ℕ)) (r : Ray) (ks : List ℕ) → IsMap m → IsGoodMesh m ts ls → IsTrace m ts r ks → IsRayClear m r

-- the wall that a traced ray meets is the first thing in its way
abbrev pub WallComesFirst : Type 0
WallComesFirst = (m : Map) (ts : List Triangle) (ls : List (Option ℕ)) (r : Ray) (number : ℕ) → IsMap m → IsGoodMesh m ts ls → MeetsWall m ts r number → IsFirstWall m r number

-- so is the point that it meets
abbrev pub PointComesFirst : Type 0
PointComesFirst = (m : Map) (ts : List Triangle) (ls : List (Option ℕ)) (r : Ray) (k : ℕ) → IsMap m → IsGoodMesh m ts ls → MeetsPoint m ts r k → ComesFirst m r (point_of (place m k))

-- a traced ray enters no triangle twice, and is never lost: behind a portal that is no solid line there is a labelled
-- triangle whose third point is one of the map
abbrev pub WalkGoesOn : Type 0
WalkGoesOn = (m : Map) (ts : List Triangle) (ls : List (Option ℕ)) (r : Ray) (q : Portal) (ks : List ℕ) → IsMap m → IsGoodMesh m ts ls → Walked m ts r q ks
    → (length ks ≤ length ts) × (IsPortalOpen m q → HasLabelledTriangle ts ls q × HasThirdPoint m ts q)

-- each point of the stretch is in one of the triangles that a trace names, or on an edge of it
abbrev pub TraceCovers : Type 0
TraceCovers = (m : Map) (ts : List Triangle) (ls : List (Option ℕ)) (r : Ray) (ks : List ℕ) → IsMap m → IsGoodMesh m ts ls → IsTrace m ts r ks
    → (start stop : Point) × HasCrossings m r start stop × NotBehind r start stop × ((z : Point) → OnSegment start stop z → (k : ℕ) × Contains ks k × (t : Triangle) × (slice_get ts k ≡ Some t) × InClosedTriangle m t z)
