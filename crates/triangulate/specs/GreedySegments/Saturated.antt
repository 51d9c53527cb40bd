-- Segments that leave no room for a further one beside them.
use Rattle.std.specs.Prelude.{ℕ, ◌<◌, ◌⊎◌, List, length, ℤ, pos, ◌<ℤ◌, ◌≤ℤ◌}
use Rattle.sight_names.specs.declared.names.Pt.{Pt}
use Rattle.sight_names.specs.Map.{Map}
use Rattle.sight_names.specs.Points.{points_of, place}
use Rattle.geom_exact.specs.Formulas.{turn_of}
use Rattle.triangulate.specs.declared.incident_segments.segments.Segment.{Segment}
use Rattle.triangulate.specs.declared.greedy_segments.saturated.Heights.{Heights}
use Rattle.triangulate.specs.IncidentSegments.Neighbours.{IsNeighbour}

-- the point's y is in the range
abbrev pub IsBetweenHeights : Pt → Heights → Type 0
IsBetweenHeights p h = (h.low ≤ℤ p.y) × (p.y ≤ℤ h.high)

abbrev pub turn_between : Map → ℕ → ℕ → ℕ → ℤ
turn_between m a b c = turn_of (place m a) (place m b) (place m c)

-- the corners stand counterclockwise, and no point of the map is strictly inside
pub record IsEmptyTriangle (m : Map) (a b c : ℕ) : Type 0 where
  pub turn : pos 0 <ℤ turn_between m a b c
  pub empty : (k : ℕ) → k < length (points_of m) → ¬ ((pos 0 <ℤ turn_between m a b k) × (pos 0 <ℤ turn_between m b c k) × (pos 0 <ℤ turn_between m c a k))

-- segments make an empty triangle on the left of the way from a to b
abbrev pub HasTriangleLeft : Map → List Segment → ℕ → ℕ → Type 0
HasTriangleLeft m segs a b = (c : ℕ) × IsNeighbour segs a c × IsNeighbour segs b c × IsEmptyTriangle m a b c

-- a neighbour of a is strictly on the right of the way from a to b
abbrev pub HasNeighbourRight : Map → List Segment → ℕ → ℕ → Type 0
HasNeighbourRight m segs a b = (c : ℕ) × IsNeighbour segs a c × (turn_between m a b c <ℤ pos 0)

-- no point of the map is strictly on the left of the way from a to b
abbrev pub HasNoneLeft : Map → ℕ → ℕ → Type 0
HasNoneLeft m a b = (k : ℕ) → k < length (points_of m) → turn_between m a b k ≤ℤ pos 0

-- on the left of the segment from a to b is an empty triangle, or no point at all
abbrev pub HasFaceLeft : Map → List Segment → ℕ → ℕ → Type 0
HasFaceLeft m segs a b = HasTriangleLeft m segs a b ⊎ HasNoneLeft m a b

-- on its right is a neighbour of a, or no point at all
abbrev pub HasFaceRight : Map → List Segment → ℕ → ℕ → Type 0
HasFaceRight m segs a b = HasNeighbourRight m segs a b ⊎ HasNoneLeft m b a
