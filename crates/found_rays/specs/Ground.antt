-- Over what the walks of a build go.
use Rattle.std.specs.Prelude.{ℕ, ◌≤◌, List, Option, length}
use Rattle.sight_names.specs.declared.limits.TheConstants.{MOST_TRIANGLES}
use Rattle.sight_names.specs.declared.names.Triangle.{Triangle}
use Rattle.sight_names.specs.Map.{map_of}
use Rattle.sight_names.specs.Mesh.{IsGoodMesh}
use Rattle.sight_names.specs.Plan.{PlanParts, IsPlan}
use Rattle.sight_names.specs.Sound.{LinesMeetAtEnds}
use Rattle.mesh_shape.specs.declared.half_edges.table.HalfEdge.{HalfEdge}
use Rattle.mesh_shape.specs.HalfEdges.HalfEdges.{AreHalfEdges}

-- the half-edges of a good mesh of a map whose lines meet at ends
pub record IsRayGround (p : PlanParts) (ts : List Triangle) (ls : List (Option ℕ)) (xs : List HalfEdge) : Type 0 where
  pub plan : IsPlan p
  pub audited : LinesMeetAtEnds (map_of p)
  pub good : IsGoodMesh (map_of p) ts ls
  pub few : length ts ≤ MOST_TRIANGLES
  pub edges : AreHalfEdges p ts ls xs
