-- The triangles on the left of the segments, each found at its least point.
use Rattle.std.specs.Prelude.{◌≡◌, ℕ, ◌<◌, ◌⊎◌, List, [], ◌∷◌, ◌++◌, Some, None, slice_get, Contains}
use Rattle.sight_names.specs.declared.names.Triangle.{Triangle}
use Rattle.sight_names.specs.Map.{Map}
use Rattle.sight_names.specs.Mesh.{IsAbove}
use Rattle.triangulate.specs.declared.incident_segments.segments.Segment.{Segment}
use Rattle.triangulate.specs.IncidentSegments.Neighbours.{IsNeighbour}
use Rattle.triangulate.specs.IncidentSegments.Next.{IsFirstLeft, IsNextLeft}

-- from its least point, a neighbour to the second point, and the first neighbour on the left of it to the third
pub record IsLeftTriangle (m : Map) (segs : List Segment) (t : Triangle) : Type 0 where
  pub least : t.p < t.q
  pub least_too : t.p < t.r
  pub neighbour : IsNeighbour segs t.p t.q
  pub first : IsFirstLeft m segs t.p t.q t.r

-- the list has the triangle with some first neighbour on the left of the way from a to b, if there is one and a is its least point
abbrev pub HasLeftTriangle : Map → List Segment → List Triangle → ℕ → ℕ → Type 0
HasLeftTriangle m segs ts a b = ¬ (a < b)
    ⊎ IsNextLeft m segs a b None
    ⊎ ((c : ℕ) × IsFirstLeft m segs a b c × (a < b → a < c → Contains ts (record { p = a; q = b; r = c })))

-- on both sides of the segment
abbrev pub HasBothSides : Map → List Segment → List Triangle → Segment → Type 0
HasBothSides m segs ts s = HasLeftTriangle m segs ts s.from s.to × HasLeftTriangle m segs ts s.to s.from

-- just that triangle was added at the end
abbrev pub IsLeftAdded : Map → List Segment → ℕ → ℕ → List Triangle → List Triangle → Type 0
IsLeftAdded m segs a b old new = ((new ≡ old) × ¬ (a < b))
    ⊎ ((new ≡ old) × IsNextLeft m segs a b None)
    ⊎ ((c : ℕ) × IsFirstLeft m segs a b c × (((a < b) × (a < c) × (new ≡ old ++ (record { p = a; q = b; r = c }) ∷ [])) ⊎ ((new ≡ old) × ¬ ((a < b) × (a < c)))))

-- all triangles on the left of the segments, and no others
pub record AreLeftTriangles (m : Map) (segs : List Segment) (ts : List Triangle) : Type 0 where
  pub each : (t : Triangle) → Contains ts t → IsLeftTriangle m segs t
  pub all : (k : ℕ) (s : Segment) → slice_get segs k ≡ Some s → HasBothSides m segs ts s

-- the same triangles, each once, in ascending order
pub record AreTrianglesSorted (found left : List Triangle) : Type 0 where
  pub ascend : (i j : ℕ) (t u : Triangle) → i < j → slice_get left i ≡ Some t → slice_get left j ≡ Some u → IsAbove t u
  pub from_found : (t : Triangle) → Contains left t → Contains found t
  pub has_found : (t : Triangle) → Contains found t → Contains left t
