-- Gaps: the segments of the hull that no line covers, each with the triangle at it.
use Rattle.std.specs.Prelude.{◌≡◌, ℕ, ◌<◌, ◌⊎◌, List, [], ◌∷◌, ◌++◌, Option, Some, None, slice_get, Contains}
use Rattle.sight_names.specs.declared.names.Side.{Side}
use Rattle.sight_names.specs.declared.names.Triangle.{Triangle}
use Rattle.sight_names.specs.Map.{Map}
use Rattle.sight_names.specs.Points.{Edge, reverse_of}
use Rattle.sight_names.specs.Mesh.{HasEdge, IsLineEdge, triangle_at}
use Rattle.sight_names.specs.Order.{Ascends}
use Rattle.mesh_shape.specs.Fills.{HasLeft}
use Rattle.mesh_shape.specs.HalfEdges.Numbers.{edge}
use Rattle.map_faults.specs.declared.gaps.Gap.{Gap}
use Rattle.map_faults.specs.EdgeSides.{side_by}

abbrev pub gap_at : ℕ → Edge → Gap
gap_at k e = record { triangle = k; from = e.from; to = e.to }

-- an edge of the triangle that is no line and has no triangle behind it
pub record IsMeshGap (m : Map) (ts : List Triangle) (g : Gap) : Type 0 where
  pub t : Triangle
  pub at : slice_get ts g.triangle ≡ Some t
  pub has : HasEdge t (edge g.from g.to)
  pub free : ¬ IsLineEdge m (edge g.from g.to)
  pub behind : triangle_at ts (edge g.to g.from) ≡ None

-- the first edge of a triangle stands before the second one, and both before the third
abbrev pub IsEdgeBefore : Triangle → Edge → Edge → Type 0
IsEdgeBefore t e f = ((e ≡ edge t.p t.q) × ((f ≡ edge t.q t.r) ⊎ (f ≡ edge t.r t.p))) ⊎ ((e ≡ edge t.q t.r) × (f ≡ edge t.r t.p))

-- at an earlier triangle, or at an earlier edge of the same
abbrev pub IsGapBefore : List Triangle → Gap → Gap → Type 0
IsGapBefore ts g h = (g.triangle < h.triangle) ⊎ ((g.triangle ≡ h.triangle) × (t : Triangle) × (slice_get ts g.triangle ≡ Some t) × IsEdgeBefore t (edge g.from g.to) (edge h.from h.to))

-- just the gaps, in the order of the triangles and their edges, and no point of the map lies beyond one
pub record AreHullGaps (m : Map) (ts : List Triangle) (gs : List Gap) : Type 0 where
  pub each : (g : Gap) → Contains gs g → IsMeshGap m ts g
  pub ascend : Ascends (IsGapBefore ts) gs
  pub hull : (g : Gap) → Contains gs g → ¬ HasLeft m (edge g.to g.from)
  pub all : (g : Gap) → IsMeshGap m ts g → Contains gs g

-- ---- triangle after triangle

-- no side of a line is the edge, and no triangle is behind it
abbrev pub IsFreeOut : List Triangle → List (Option Side) → Edge → Type 0
IsFreeOut ts ss e = (side_by ts ss e ≡ None) × (triangle_at ts (reverse_of e) ≡ None)

pub record IsGapBy (ts : List Triangle) (ss : List (Option Side)) (g : Gap) : Type 0 where
  pub t : Triangle
  pub at : slice_get ts g.triangle ≡ Some t
  pub has : HasEdge t (edge g.from g.to)
  pub out : IsFreeOut ts ss (edge g.from g.to)

-- just those of which Q holds
pub record AreJustGaps (Q : Gap → Type 0) (gs : List Gap) : Type 0 where
  pub each : (g : Gap) → Contains gs g → Q g
  pub all : (g : Gap) → Q g → Contains gs g

abbrev pub AreGapsBy : List Triangle → List (Option Side) → List Gap → Type 0
AreGapsBy ts ss gs = AreJustGaps (IsGapBy ts ss) gs × Ascends (IsGapBefore ts) gs

-- the edge is added behind the others, if it is a gap
abbrev pub AddsGap : List Triangle → List (Option Side) → ℕ → Edge → List Gap → List Gap → Type 0
AddsGap ts ss k e old new = (IsFreeOut ts ss e × (new ≡ old ++ gap_at k e ∷ [])) ⊎ ((¬ IsFreeOut ts ss e) × (new ≡ old))

pub record AddsGaps (ts : List Triangle) (ss : List (Option Side)) (k : ℕ) (t : Triangle) (old new : List Gap) : Type 0 where
  pub first : List Gap
  pub second : List Gap
  pub pq : AddsGap ts ss k (edge t.p t.q) old first
  pub qr : AddsGap ts ss k (edge t.q t.r) first second
  pub rp : AddsGap ts ss k (edge t.r t.p) second new
