-- The mesh of a map fills its hull: where a kept segment has a point of the map strictly on one side, a triangle lies there.
use Rattle.std.specs.Prelude.{◌≡◌, ℕ, ◌<◌, List, Some, length, slice_get, pos, ◌<ℤ◌}
use Rattle.sight_names.specs.declared.names.Triangle.{Triangle}
use Rattle.sight_names.specs.Point.{point_of, turn_at}
use Rattle.sight_names.specs.Map.{Map}
use Rattle.sight_names.specs.Points.{Edge, points_of, place, reverse_of}
use Rattle.sight_names.specs.Mesh.{HasEdge, IsSegmentKept, IsLineEdge}

-- some point of the map is strictly on the left of the edge
abbrev pub HasLeft : Map → Edge → Type 0
HasLeft m e = (k : ℕ) × (k < length (points_of m)) × (pos 0 <ℤ turn_at (place m e.from) (place m e.to) (point_of (place m k)))

-- some triangle of the list has this directed edge
abbrev pub HasTriangle : List Triangle → Edge → Type 0
HasTriangle ts e = (k : ℕ) × (t : Triangle) × (slice_get ts k ≡ Some t) × HasEdge t e

-- each kept segment, in each of its two directions, has a triangle where the map has a point strictly on its left
abbrev pub FillsHull : Map → List Edge → List Triangle → Type 0
FillsHull m kept ts = (e : Edge) → IsSegmentKept kept e.from e.to → HasLeft m e → HasTriangle ts e

-- so have each line and each edge of a triangle, in each of the two directions
pub record FillsSides (m : Map) (ts : List Triangle) : Type 0 where
  pub lines : (e : Edge) → IsLineEdge m e → HasLeft m e → HasTriangle ts e
  pub beyond : (k : ℕ) (t : Triangle) (e : Edge) → slice_get ts k ≡ Some t → HasEdge t e → HasLeft m (reverse_of e) → HasTriangle ts (reverse_of e)
