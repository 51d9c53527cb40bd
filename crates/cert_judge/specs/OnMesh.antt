-- Rays and trees that are judged over a good mesh as they come.
use Rattle.std.specs.Prelude.{◌≡◌, List, Option, None, length, MatchOption}
use Rattle.sight_names.specs.declared.faults.CheckFault.{CheckFault}
use Rattle.sight_names.specs.declared.names.PairRay.{PairRay}
use Rattle.sight_names.specs.Map.{Map, map_of}
use Rattle.sight_names.specs.Mesh.{IsGoodMesh}
use Rattle.sight_names.specs.Plan.{PlanParts, IsPlan}
use Rattle.block_evidence.specs.declared.sight_tree.Tree.{Tree}
use Rattle.cert_format.specs.declared.cert.Labelled.{Labelled}
use Rattle.mesh_shape.specs.HalfEdges.HalfEdges.{AreHalfEdges}
use Rattle.cert_checker.specs.TreeJudge.Heard.{HasHeardTrees}
use Rattle.cert_checker.specs.Apart.{triangles_in, labels_in}
use Rattle.cert_checker.specs.Judged.{IsRayFaultOf}
use Rattle.cert_checker.specs.Rays.{AreSightRaysBelow, IsFirstRayFault}
use Rattle.cert_judge.specs.declared.on_mesh.OnMesh.{OnMesh}

-- the fault is that of the first ray that is no sight ray of its pair
pub record IsRayFaultIn (m : Map) (rays : List PairRay) (f : CheckFault) : Type 0 where
  pub kind : IsRayFaultOf f
  pub first : IsFirstRayFault m rays f

-- the triangles are a good mesh of the plan's map; the rays are judged, and where none is wrong the trees are
pub record IsOnMesh (p : PlanParts) (labelled : List Labelled) (rays : List PairRay) (front : List Tree) (tree : Option Tree) (g : OnMesh) : Type 0 where
  pub mesh : g.mesh.triangles ≡ triangles_in labelled
  pub plan : IsPlan p
  pub good : IsGoodMesh (map_of p) (triangles_in labelled) (labels_in labelled)
  pub edges : AreHalfEdges p (triangles_in labelled) (labels_in labelled) g.edges
  pub sight : MatchOption g.fault (AreSightRaysBelow (map_of p) rays (length rays)) (IsRayFaultIn (map_of p) rays)
  pub heard : g.fault ≡ None → HasHeardTrees (map_of p) (triangles_in labelled) g.edges front tree g.trees
