-- What the segments at each point span.
use Rattle.std.specs.Prelude.{◌≡◌, ℕ, ◌/◌, ◌<◌, ◌≤◌, ◌⊎◌, ℤ, ◌≤ℤ◌, ◌<ℤ◌, List, length, slice_index_or}
use Rattle.sight_names.specs.Map.{Map}
use Rattle.sight_names.specs.Points.{points_of, place}
use Rattle.triangulate.specs.declared.incident_segments.segments.Segment.{Segment}
use Rattle.triangulate.specs.declared.greedy_segments.extents.Extent.{Extent}
use Rattle.triangulate.specs.declared.greedy_segments.extents.PairExtent.{PairExtent}
use Rattle.triangulate.specs.IncidentSegments.Neighbours.{IsNeighbour}

-- the y lies in the extent's range
abbrev pub IsHeightInExtent : ℤ → Extent → Type 0
IsHeightInExtent y s = (s.low ≤ℤ y) × (y ≤ℤ s.high)

-- the extent covers the end v at this y
abbrev pub IsInExtent : ℕ → ℤ → Extent → Type 0
IsInExtent v y s = IsHeightInExtent y s × (v ≤ s.last_neighbour)

-- what is in the one extent is in the other
pub record IsWithinExtent (s t : Extent) : Type 0 where
  pub low : t.low ≤ℤ s.low
  pub high : s.high ≤ℤ t.high
  pub last_neighbour : s.last_neighbour ≤ t.last_neighbour

-- the extent of a point with no segment
pub record HasNoEnds (m : Map) (k : ℕ) (s : Extent) : Type 0 where
  pub hub : IsHeightInExtent (place m k).y s
  pub last_neighbour : s.last_neighbour ≡ 0

-- the extent of each point covers the point and all its neighbours
pub record AreExtents (m : Map) (segs : List Segment) (extents : List Extent) : Type 0 where
  pub each_point : length extents ≡ length (points_of m)
  pub hub : (u : ℕ) (d : Extent) → u < length extents → IsHeightInExtent (place m u).y (slice_index_or extents u d)
  pub ends : (u v : ℕ) (d : Extent) → u < length extents → IsNeighbour segs u v → IsInExtent v (place m v).y (slice_index_or extents u d)

-- no extent of 32 points has an end with a greater number than their block has
pub record AreBlocks (extents : List Extent) (blocks : List ℕ) : Type 0 where
  pub each_block : (u : ℕ) → u < length extents → u / 32 < length blocks
  pub last_neighbour : (u e : ℕ) (d : Extent) → u < length extents → (slice_index_or extents u d).last_neighbour ≤ slice_index_or blocks (u / 32) e

-- the extent of the point at also covers the end v at this y, and each covers what it did
pub record Widens (at v : ℕ) (y : ℤ) (old new : List Extent) : Type 0 where
  pub each_point : length new ≡ length old
  pub kept : (u : ℕ) (d : Extent) → u < length old → IsWithinExtent (slice_index_or old u d) (slice_index_or new u d)
  pub covers : (d : Extent) → IsInExtent v y (slice_index_or new at d)

-- the two points, and the range of y between them
pub record IsPairExtent (m : Map) (i j : ℕ) (s : PairExtent) : Type 0 where
  pub from : s.from ≡ i
  pub to : s.to ≡ j
  pub first : (s.low ≤ℤ (place m i).y) × ((place m i).y ≤ℤ s.high)
  pub second : (s.low ≤ℤ (place m j).y) × ((place m j).y ≤ℤ s.high)

-- the extent lies below the range of the pair, or above it
abbrev pub AreApartInY : Extent → PairExtent → Type 0
AreApartInY s t = (s.high <ℤ t.low) ⊎ (t.high <ℤ s.low)

-- no segment of the extent of w meets a segment in the range of the pair, or it is found from another point
abbrev pub CannotMeet : PairExtent → ℕ → Extent → Type 0
CannotMeet t w s = ((w < t.from) × (s.last_neighbour ≤ t.to)) ⊎ AreApartInY s t
