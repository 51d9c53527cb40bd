-- The neighbours of a point: the other ends of the segments there.
use Rattle.std.specs.Prelude.{◌≡◌, ℕ, ◌<◌, List, length, slice_index_or, true}
use Rattle.triangulate.specs.declared.incident_segments.segments.Segment.{Segment}
use Rattle.triangulate.specs.IncidentSegments.Incident.{has_end, other_end}

-- a segment joins u and v
abbrev pub IsNeighbour : List Segment → ℕ → ℕ → Type 0
IsNeighbour segs u v = (k : ℕ) × (k < length segs) × ((d : Segment) → has_end u (slice_index_or segs k d) ≡ true) × ((d : Segment) → v ≡ other_end u (slice_index_or segs k d))
