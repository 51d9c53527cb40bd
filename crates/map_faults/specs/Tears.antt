-- Torn corners: round a point from a side that names a sector to a side that names none, or out of the hull.
use Rattle.std.specs.Prelude.{◌≡◌, ℕ, ◌<◌, ◌⊎◌, List, [], ◌∷◌, ◌++◌, Option, Some, None, true, false, length, slice_get, Contains}
use Rattle.sight_names.specs.declared.names.Side.{Side}
use Rattle.sight_names.specs.declared.names.Triangle.{Triangle}
use Rattle.sight_names.specs.declared.plan.Line.{Line}
use Rattle.sight_names.specs.Plan.{PlanParts}
use Rattle.sight_names.specs.Map.{Map, map_of, Names}
use Rattle.sight_names.specs.Order.{Ascends}
use Rattle.sight_names.specs.Points.{Edge, reverse_of}
use Rattle.sight_names.specs.Mesh.{triangle_at}
use Rattle.sight_names.specs.Sequence.{apex}
use Rattle.mesh_shape.specs.Faults.{IsSideBefore}
use Rattle.mesh_shape.specs.HalfEdges.Numbers.{edge}
use Rattle.mesh_shape.specs.HalfEdges.Kinds.{edge_at, portal_on}
use Rattle.map_faults.specs.declared.tears.Tear.{Tear}
use Rattle.map_faults.specs.EdgeSides.{AreEdgeSides, side_by}

-- the directed edge is a line, or no triangle is behind it
abbrev pub IsBorder : List Triangle → List (Option Side) → Edge → Type 0
IsBorder ts ss e = ((s : Side) × (side_by ts ss e ≡ Some s)) ⊎ (triangle_at ts (reverse_of e) ≡ None)

-- one who turns round the point, in the triangle at the edge that comes from x, crosses the edges to these points, which are
-- no borders, and comes to the border that goes on to w
abbrev pub TurnsRound : List Triangle → List (Option Side) → ℕ → ℕ → List ℕ → ℕ → Type 0
TurnsRound ts ss point x [] w = (apex ts (portal_on (edge x point)) ≡ Some w) × IsBorder ts ss (edge point w)
TurnsRound ts ss point x (y ∷ ys) w = (apex ts (portal_on (edge x point)) ≡ Some y) × (¬ IsBorder ts ss (edge point y)) × TurnsRound ts ss point y ys w

-- and crosses fewer of them than there are triangles
abbrev pub IsTurnWithin : List Triangle → List (Option Side) → ℕ → ℕ → List ℕ → ℕ → Type 0
IsTurnWithin ts ss point x ys w = TurnsRound ts ss point x ys w × (length ys < length ts)

-- the side names a sector
abbrev pub DoesName : Map → Option Side → Type 0
DoesName m None = ⊥
DoesName m (Some s) = (a : ℕ) × Names m s a

-- just one of the two names a sector
abbrev pub DoDiffer : Map → Option Side → Option Side → Type 0
DoDiffer m s t = (DoesName m s × ¬ DoesName m t) ⊎ ((¬ DoesName m s) × DoesName m t)

-- round its point one turns from the side's edge to another border, and just one of the two names a sector
pub record IsTorn (m : Map) (ts : List Triangle) (ss : List (Option Side)) (t : Tear) : Type 0 where
  pub way : List ℕ
  pub turn : IsTurnWithin ts ss t.point t.from way t.to
  pub differ : DoDiffer m (Some t.side) (side_by ts ss (edge t.point t.to))

-- the edge of a tear is that of a side of a line
pub record IsTear (p : PlanParts) (ts : List Triangle) (ss : List (Option Side)) (t : Tear) : Type 0 where
  pub line : Line
  pub is : slice_get p.lines t.side.line ≡ Some (Some line)
  pub along : edge_at line t.side.left ≡ edge t.from t.point
  pub torn : IsTorn (map_of p) ts ss t

abbrev pub IsTearBefore : Tear → Tear → Type 0
IsTearBefore t u = IsSideBefore t.side u.side

-- just the torn corners at sides of which D holds, in the order of these
pub record AreTearsOf (D : Side → Type 0) (p : PlanParts) (ts : List Triangle) (ss : List (Option Side)) (tears : List Tear) : Type 0 where
  pub each : (t : Tear) → Contains tears t → IsTear p ts ss t
  pub all : (t : Tear) → D t.side → IsTear p ts ss t → Contains tears t
  pub among : (t : Tear) → Contains tears t → D t.side
  pub ascend : Ascends IsTearBefore tears

-- just all, in order
abbrev pub AreTearsBy : PlanParts → List Triangle → List (Option Side) → List Tear → Type 0
AreTearsBy p ts ss tears = AreTearsOf (λ s. Unit {0}) p ts ss tears

-- by what the sides of the edges are
abbrev pub AreTears : PlanParts → List Triangle → List Tear → Type 0
AreTears p ts tears = (ss : List (Option Side)) × AreEdgeSides (map_of p) ts ss × AreTearsBy p ts ss tears

-- ---- side after side

-- the corner at the end of this edge is added behind the others, if it is torn
abbrev pub AddsTear : Map → List Triangle → List (Option Side) → Side → ℕ → ℕ → List Tear → List Tear → Type 0
AddsTear m ts ss side from point old new = ((to : ℕ) × IsTorn m ts ss (record { side = side; from = from; point = point; to = to }) × (new ≡ old ++ record { side = side; from = from; point = point; to = to } ∷ []))
    ⊎ (((to : ℕ) → ¬ IsTorn m ts ss (record { side = side; from = from; point = point; to = to })) × (new ≡ old))

pub record AddsTears (m : Map) (ts : List Triangle) (ss : List (Option Side)) (i : ℕ) (l : Line) (old new : List Tear) : Type 0 where
  pub middle : List Tear
  pub right : AddsTear m ts ss (record { line = i; left = false }) l.b l.a old middle
  pub left : AddsTear m ts ss (record { line = i; left = true }) l.a l.b middle new
