-- What a walk goes through: the half-edges of a map's mesh, of which it enters those outside of its source.
use Rattle.std.specs.Prelude.{◌≡◌, ◌≢◌, ℕ, ◌<◌, ◌⊎◌, List, Option, Some, None, length, slice_get}
use Rattle.sight_names.specs.declared.names.Triangle.{Triangle}
use Rattle.sight_names.specs.Plan.{PlanParts, IsPlan}
use Rattle.sight_names.specs.Map.{map_of}
use Rattle.sight_names.specs.Mesh.{label_of, triangle_at, IsGoodMesh}
use Rattle.sight_names.specs.Points.{Edge, place}
use Rattle.sight_names.specs.Sequence.{Portal, apex, entry_edge, IsSolidLine}
use Rattle.mesh_shape.specs.Shape.{MeshParts}
use Rattle.mesh_shape.specs.declared.half_edges.table.HalfEdge.{HalfEdge}
use Rattle.mesh_shape.specs.HalfEdges.HalfEdges.{AreHalfEdges, portal_into}
use Rattle.mesh_shape.specs.HalfEdges.Kinds.{IsEnteredAt}
use Rattle.mesh_shape.specs.HalfEdges.Numbers.{half_edge_number}
use Rattle.portal_walk.specs.declared.scene.Way.{Way as WayOut}
use Rattle.portal_walk.specs.declared.scene.Way.TheVariants.{Left, Right}
use Rattle.portal_walk.specs.Sides.{ArrivesAt}

-- The half-edges over a plan, a mesh and its labels, and the source of the walk.
pub record SceneParts : Type 0 where
  pub plan : PlanParts
  pub mesh : MeshParts
  pub labels : List (Option ℕ)
  pub source : ℕ
  pub edges : List HalfEdge

-- the half-edges of a good mesh
pub record IsScene (s : SceneParts) : Type 0 where
  pub rules : IsPlan s.plan
  pub good : IsGoodMesh (map_of s.plan) s.mesh.triangles s.labels
  pub edges : AreHalfEdges s.plan s.mesh.triangles s.labels s.edges

-- the portal of a way out of the triangle
abbrev pub exit_of : HalfEdge → WayOut → Portal
exit_of x Left = record { left = x.left; right = x.apex }
exit_of x Right = record { left = x.apex; right = x.right }

-- the half-edge behind a way out
abbrev pub behind : HalfEdge → WayOut → Option ℕ
behind x Left = x.left_way
behind x Right = x.right_way

-- a half-edge has this number
abbrev pub IsNumber : List Triangle → ℕ → Type 0
IsNumber ts k = (e : Edge) × (half_edge_number ts e ≡ Some k)

-- by the half-edge one comes into a triangle that isn't one of the source; it is no solid line, and where it is a line, its
-- side is an arrival
pub record IsEntry (p : PlanParts) (ts : List Triangle) (labels : List (Option ℕ)) (source : ℕ) (x : HalfEdge) : Type 0 where
  pub triangle : triangle_at ts (entry_edge (portal_into x)) ≡ Some x.triangle
  pub within : x.triangle < length ts
  pub outside : label_of labels x.triangle ≢ Some source
  pub third : apex ts (portal_into x) ≡ Some x.apex
  pub left_at : x.left_at ≡ place (map_of p) x.left
  pub right_at : x.right_at ≡ place (map_of p) x.right
  pub proper : x.left_at ≢ x.right_at
  pub entered : IsEnteredAt p (portal_into x) x.entered
  pub arrives : ArrivesAt p labels x.triangle x.entered

-- one can't come in by the portal: no triangle is behind it, or one of the source, or it is a solid line
abbrev pub IsWayClosed : SceneParts → Portal → Type 0
IsWayClosed s d = (triangle_at s.mesh.triangles (entry_edge d) ≡ None)
    ⊎ (((k : ℕ) × (triangle_at s.mesh.triangles (entry_edge d) ≡ Some k) × (label_of s.labels k ≡ Some s.source)) ⊎ IsSolidLine (map_of s.plan) d)

-- the half-edge with this number is by the portal, and one comes in by it
pub record EntersByEdge (s : SceneParts) (d : Portal) (k : ℕ) : Type 0 where
  pub edge : HalfEdge
  pub there : slice_get s.edges k ≡ Some edge
  pub number : half_edge_number s.mesh.triangles (entry_edge d) ≡ Some k
  pub portal : portal_into edge ≡ d
  pub entry : IsEntry s.plan s.mesh.triangles s.labels s.source edge

-- the number of the half-edge by the portal, or none where it is closed
abbrev pub Finds : SceneParts → Portal → Option ℕ → Type 0
Finds s d (Some k) = EntersByEdge s d k
Finds s d None = IsWayClosed s d

-- the same of a way out of the triangle of a half-edge
abbrev pub FindsWay : SceneParts → ℕ → WayOut → Option ℕ → Type 0
FindsWay s from way found = (x : HalfEdge) → slice_get s.edges from ≡ Some x → Finds s (exit_of x way) found
