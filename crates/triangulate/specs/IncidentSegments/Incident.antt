-- The kept segments with the chain of segments at each point, from the latest back.
use Rattle.std.specs.Prelude.{◌≡◌, ◌≢◌, ℕ, ◌+◌, ◌<◌, ◌≤◌, List, length, slice_index_or, Bool, true, false, ◌==◌, ◌||◌, if◌then◌else◌}
use Rattle.triangulate.specs.declared.incident_segments.segments.Segment.{Segment}
use Rattle.triangulate.specs.declared.incident_segments.incident.Links.{Links}

-- how many points there are, and the kept segments
pub record IncidentParts : Type 0 where
  pub points : ℕ
  pub segments : List Segment

-- the point is an end of the segment
abbrev pub has_end : ℕ → Segment → Bool
has_end u s = s.from == u || s.to == u

-- the end that isn't u
abbrev pub other_end : ℕ → Segment → ℕ
other_end u s = if s.from == u then s.to else s.from

-- one past the last of the first i segments that has the end u, or 0 where none has
pub record IsLastAt (segments : List Segment) (u i j : ℕ) : Type 0 where
  pub within : j ≤ i
  pub none : (k : ℕ) → k < i → j ≤ k → (d : Segment) → has_end u (slice_index_or segments k d) ≡ false
  pub here : (k : ℕ) → k + 1 ≡ j → (d : Segment) → has_end u (slice_index_or segments k d) ≡ true

-- the segments at the ends of segment k that were kept before it
pub record IsLinked (segments : List Segment) (k : ℕ) (s : Segment) (l : Links) : Type 0 where
  pub from : IsLastAt segments s.from k l.from
  pub to : IsLastAt segments s.to k l.to

-- a segment between two different points
pub record IsSegment (points : ℕ) (s : Segment) : Type 0 where
  pub from : s.from < points
  pub to : s.to < points
  pub differ : s.from ≢ s.to

abbrev pub AreSegments : ℕ → List Segment → Type 0
AreSegments points segments = (k : ℕ) → k < length segments → (d : Segment) → IsSegment points (slice_index_or segments k d)

pub record AreIncident (points : ℕ) (segments : List Segment) (last : List ℕ) (links : List Links) : Type 0 where
  pub each : AreSegments points segments
  pub each_point : length last ≡ points
  pub each_segment : length links ≡ length segments
  pub last_at : (u : ℕ) → u < points → (d : ℕ) → IsLastAt segments u (length segments) (slice_index_or last u d)
  pub linked : (k : ℕ) → k < length segments → (d : Segment) (e : Links) → IsLinked segments k (slice_index_or segments k d) (slice_index_or links k e)
