-- A kept segment as an edge between point numbers.
use Rattle.std.specs.Prelude.{◌≡◌, ◌≢◌, ℕ, ◌<◌, List, Some, slice_get, Contains, map}
use Rattle.sight_names.specs.Map.{Map}
use Rattle.sight_names.specs.Points.{Edge}
use Rattle.sight_names.specs.Greedy.{EdgesMeetAtEnds}
use Rattle.triangulate.specs.declared.incident_segments.segments.Segment.{Segment}

abbrev pub edge_of : Segment → Edge
edge_of s = record { from = s.from; to = s.to }

-- between two different points
pub record IsEdgeBetween (points : ℕ) (e : Edge) : Type 0 where
  pub from : e.from < points
  pub to : e.to < points
  pub differ : e.from ≢ e.to

abbrev pub AreEdges : ℕ → List Edge → Type 0
AreEdges points es = (k : ℕ) (e : Edge) → slice_get es k ≡ Some e → IsEdgeBetween points e

abbrev pub edges_of : List Segment → List Edge
edges_of segments = map edge_of segments

-- each of the edges shares with e nothing but an end of both
abbrev pub MeetsEach : Map → List Edge → Edge → Type 0
MeetsEach m kept e = (f : Edge) → Contains kept f → EdgesMeetAtEnds m e f

-- one of the edges shares more with e
abbrev pub IsCrossedBy : Map → List Edge → Edge → Type 0
IsCrossedBy m kept e = (f : Edge) × Contains kept f × ¬ EdgesMeetAtEnds m e f
