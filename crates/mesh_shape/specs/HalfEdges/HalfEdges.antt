-- The half-edges of a mesh over a plan and labels: what one finds who enters a triangle by a portal.
use Rattle.std.specs.Prelude.{◌≡◌, ℕ, ◌*◌, ◌<◌, ◌↔◌, List, Option, Some, None, length, slice_get, false, IsTrue, option_and_then, if◌then◌else◌}
use Rattle.sight_names.specs.declared.names.Triangle.{Triangle}
use Rattle.sight_names.specs.Points.{Edge, place}
use Rattle.sight_names.specs.Plan.{PlanParts, IsPlan}
use Rattle.sight_names.specs.Map.{map_of}
use Rattle.sight_names.specs.Mesh.{label_of, triangle_at, IsGoodMesh}
use Rattle.sight_names.specs.Sequence.{Portal, apex, names_it, IsSolidLine}
use Rattle.mesh_shape.specs.declared.half_edges.table.HalfEdge.{HalfEdge}
use Rattle.mesh_shape.specs.HalfEdges.Numbers.{edge, half_edge_number}
use Rattle.mesh_shape.specs.HalfEdges.Kinds.{IsEnteredAt, portal_on}

-- the portal through which one comes in
abbrev pub portal_into : HalfEdge → Portal
portal_into x = record { left = x.left; right = x.right }

-- the number of the half-edge along the directed edge; None where no triangle has the edge, or it is a solid line
abbrev pub entering : List Triangle → List HalfEdge → Edge → Option ℕ
entering ts xs e = option_and_then (λ i. option_and_then (λ (x : HalfEdge). if x.solid then None else Some i) (slice_get xs i)) (half_edge_number ts e)

-- the way, unless it leads into a triangle of the source
abbrev pub way_outside : List HalfEdge → ℕ → Option ℕ → Option ℕ
way_outside xs source way = option_and_then (λ i. option_and_then (λ (x : HalfEdge). if names_it x.sector source then None else Some i) (slice_get xs i)) way

-- what one finds who enters by the directed edge
pub record IsHalfEdge (p : PlanParts) (ts : List Triangle) (labels : List (Option ℕ)) (xs : List HalfEdge) (e : Edge) (x : HalfEdge) : Type 0 where
  pub portal : portal_into x ≡ portal_on e
  pub triangle : triangle_at ts e ≡ Some x.triangle
  pub within : x.triangle < length ts
  pub third : apex ts (portal_into x) ≡ Some x.apex
  pub label : label_of labels x.triangle ≡ x.sector
  pub left_at : x.left_at ≡ place (map_of p) x.left
  pub right_at : x.right_at ≡ place (map_of p) x.right
  -- whether the edge is a solid line; if not, what passable line it is
  pub solid : IsTrue x.solid ↔ IsSolidLine (map_of p) (portal_into x)
  pub entered : x.solid ≡ false → IsEnteredAt p (portal_into x) x.entered
  -- the half-edges behind the two ways out
  pub left_way : x.left_way ≡ entering ts xs (edge x.left x.apex)
  pub right_way : x.right_way ≡ entering ts xs (edge x.apex x.right)

-- three for each triangle, and each directed edge of the mesh has its own
pub record AreHalfEdges (p : PlanParts) (ts : List Triangle) (labels : List (Option ℕ)) (xs : List HalfEdge) : Type 0 where
  pub len : length xs ≡ length ts * 3
  pub each : (e : Edge) (i : ℕ) → half_edge_number ts e ≡ Some i → (x : HalfEdge) × (slice_get xs i ≡ Some x) × IsHalfEdge p ts labels xs e x

-- those of a good mesh of the plan's map
pub record AreOfGoodMesh (p : PlanParts) (ts : List Triangle) (xs : List HalfEdge) : Type 0 where
  pub labels : List (Option ℕ)
  pub plan : IsPlan p
  pub good : IsGoodMesh (map_of p) ts labels
  pub edges : AreHalfEdges p ts labels xs
