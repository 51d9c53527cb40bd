-- What a walk by a row goes over.
use Rattle.std.specs.Prelude.{ℕ, ◌<◌, ◌≤◌, List, Option, length}
use Rattle.sight_names.specs.declared.limits.TheConstants.{MOST_TRIANGLES}
use Rattle.sight_names.specs.declared.names.Triangle.{Triangle}
use Rattle.sight_names.specs.Map.{map_of}
use Rattle.sight_names.specs.Mesh.{IsGoodMesh}
use Rattle.sight_names.specs.Plan.{PlanParts, IsPlan}
use Rattle.sight_names.specs.Sound.{LinesMeetAtEnds}
use Rattle.mesh_shape.specs.declared.half_edges.table.HalfEdge.{HalfEdge}
use Rattle.mesh_shape.specs.HalfEdges.HalfEdges.{AreHalfEdges}
use Rattle.cert_checker.specs.declared.tree_judge.roots.Root.{Root}
use Rattle.cert_checker.specs.declared.tree_judge.trees.Terrain.{Terrain}
use Rattle.cert_checker.specs.TreeJudge.Roots.{AreRootChains}
use Rattle.gate_floods.specs.declared.row_judge.masks.Masks.{Masks}
use Rattle.gate_floods.specs.RowJudge.Masks.{MaskRows, rows_of}

-- a map, triangles and their labels
pub record Ground : Type 0 where
  pub plan : PlanParts
  pub triangles : List Triangle
  pub labels : List (Option ℕ)

-- these are the half-edges of a good mesh of the map and the roots of its sources, and the source is one of its sectors
pub record IsWalkable (g : Ground) (xs : List HalfEdge) (roots : List Root) (firsts : List (Option ℕ)) (source : ℕ) : Type 0 where
  pub plan : IsPlan g.plan
  pub audited : LinesMeetAtEnds (map_of g.plan)
  pub good : IsGoodMesh (map_of g.plan) g.triangles g.labels
  pub few : length g.triangles ≤ MOST_TRIANGLES
  pub edges : AreHalfEdges g.plan g.triangles g.labels xs
  pub roots_are : AreRootChains (map_of g.plan) g.triangles xs roots firsts
  pub within : source < g.plan.sectors

-- half-edges, roots and masks, as plain lists
pub record Scene : Type 0 where
  pub edges : List HalfEdge
  pub roots : List Root
  pub firsts : List (Option ℕ)
  pub masks : MaskRows

abbrev pub row_scene_of : Terrain → Masks → Scene
row_scene_of t ms = record { edges = t.edges.now; roots = t.roots.now.roots.items; firsts = t.roots.now.first.items; masks = rows_of ms }

-- a walk over this ground from the source for what the row has
pub record Search : Type 0 where
  pub ground : Ground
  pub source : ℕ
  pub row : List ℕ
