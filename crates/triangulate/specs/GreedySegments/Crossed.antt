-- What the segments at a point are to a further one.
use Rattle.std.specs.Prelude.{ℕ, ◌<◌, ◌≤◌, ◌⊎◌, List}
use Rattle.sight_names.specs.Map.{Map}
use Rattle.sight_names.specs.Points.{Edge}
use Rattle.sight_names.specs.Greedy.{EdgesMeetAtEnds}
use Rattle.triangulate.specs.declared.incident_segments.segments.Segment.{Segment}
use Rattle.triangulate.specs.IncidentSegments.Neighbours.{IsNeighbour}

-- each segment at u shares with e nothing but an end of both
abbrev pub SegmentsMeet : Map → List Segment → ℕ → Edge → Type 0
SegmentsMeet m segs u e = (v : ℕ) → IsNeighbour segs u v → EdgesMeetAtEnds m e (record { from = u; to = v })

-- a segment at u shares more with e
abbrev pub IsSegmentCrossedAt : Map → List Segment → ℕ → Edge → Type 0
IsSegmentCrossedAt m segs u e = (v : ℕ) × IsNeighbour segs u v × ¬ EdgesMeetAtEnds m e (record { from = u; to = v })

-- a segment at w may reach the points from i to j: w is none before i, or one of its neighbours is behind j
abbrev pub MayReach : List Segment → ℕ → ℕ → ℕ → Type 0
MayReach segs i j w = (i ≤ w) ⊎ ((x : ℕ) × IsNeighbour segs w x × (j < x))
