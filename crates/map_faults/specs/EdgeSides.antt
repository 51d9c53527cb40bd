-- Which sides of lines the directed edges of triangles are.
use Rattle.std.specs.Prelude.{◌≡◌, ◌≢◌, ℕ, ◌*◌, List, Option, Some, None, true, false, length, slice_get, option_and_then, option_map}
use Rattle.sight_names.specs.declared.names.Side.{Side}
use Rattle.sight_names.specs.declared.names.Triangle.{Triangle}
use Rattle.sight_names.specs.declared.plan.Line.{Line}
use Rattle.sight_names.specs.Map.{Map, MapLine, line_at}
use Rattle.sight_names.specs.Points.{Edge}
use Rattle.sight_names.specs.Mesh.{IsLineEdge, side_edge}
use Rattle.mesh_shape.specs.HalfEdges.Numbers.{half_edge_number}
use Rattle.mesh_shape.specs.HalfEdges.Kinds.{edge_at}

-- no line is the edge, either way round; or it is the edge at this side
abbrev pub IsSideOfEdge : Map → Edge → Option Side → Type 0
IsSideOfEdge m e None = ¬ IsLineEdge m e
IsSideOfEdge m e (Some s) = (l : MapLine) × (line_at m s.line ≡ Some l) × (side_edge m l s.left ≡ e)

-- for each directed edge of a triangle, by its number
pub record AreEdgeSides (m : Map) (ts : List Triangle) (ss : List (Option Side)) : Type 0 where
  pub len : length ss ≡ length ts * 3
  pub each : (e : Edge) (i : ℕ) → half_edge_number ts e ≡ Some i → (o : Option Side) × (slice_get ss i ≡ Some o) × IsSideOfEdge m e o

-- the side at the edge's number
abbrev pub side_by : List Triangle → List (Option Side) → Edge → Option Side
side_by ts ss e = option_and_then (λ i. option_and_then (λ (o : Option Side). o) (slice_get ss i)) (half_edge_number ts e)

-- ---- line after line

-- the side stands at the number, where there is one, and the others stay
pub record PutsSide (number : Option ℕ) (side : Side) (old new : List (Option Side)) : Type 0 where
  pub len : length new ≡ length old
  pub here : (i : ℕ) → number ≡ Some i → slice_get new i ≡ option_map (λ (o : Option Side). Some side) (slice_get old i)
  pub others : (i : ℕ) → number ≢ Some i → slice_get new i ≡ slice_get old i

pub record PutsLineSides (ts : List Triangle) (k : ℕ) (l : Line) (old new : List (Option Side)) : Type 0 where
  pub middle : List (Option Side)
  pub left : PutsSide (half_edge_number ts (edge_at l true)) (record { line = k; left = true }) old middle
  pub right : PutsSide (half_edge_number ts (edge_at l false)) (record { line = k; left = false }) middle new

abbrev pub PutsRecordSides : List Triangle → ℕ → Option Line → List (Option Side) → List (Option Side) → Type 0
PutsRecordSides ts k None old new = new ≡ old
PutsRecordSides ts k (Some l) old new = PutsLineSides ts k l old new
