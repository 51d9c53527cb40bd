-- What all walks of one map share: the half-edges of its mesh, what is ahead by the ways out of
-- their triangles, and the roots of all its sectors.
use Rattle.std.specs.Prelude.{ℕ, ◌≤◌, ◌*◌, List, Option, length}
use Rattle.sight_names.specs.declared.limits.TheConstants.{MOST_TRIANGLES}
use Rattle.sight_names.specs.declared.names.Triangle.{Triangle}
use Rattle.sight_names.specs.Plan.{PlanParts}
use Rattle.mesh_shape.specs.declared.half_edges.table.HalfEdge.{HalfEdge}
use Rattle.mesh_shape.specs.HalfEdges.HalfEdges.{AreHalfEdges}
use Rattle.portal_walk.specs.declared.ahead.Ahead.{Ahead}
use Rattle.portal_walk.specs.declared.roots.Root.{Root}
use Rattle.portal_walk.specs.declared.scene.Way.TheVariants.{Left, Right}
use Rattle.portal_walk.specs.Ahead.{AreAhead}
use Rattle.portal_walk.specs.Roots.{AreSideRoots}

pub record TerrainParts : Type 0 where
  pub edges : List HalfEdge
  pub lefts : List Ahead
  pub rights : List Ahead
  pub roots : List (List Root)

-- that of a plan, a mesh and its labels
pub record IsTerrain (p : PlanParts) (ts : List Triangle) (labels : List (Option ℕ)) (t : TerrainParts) : Type 0 where
  pub edges : AreHalfEdges p ts labels t.edges
  pub few : length t.edges ≤ MOST_TRIANGLES * 3
  pub lefts : AreAhead t.edges Left t.lefts
  pub rights : AreAhead t.edges Right t.rights
  pub roots : AreSideRoots p t.roots
