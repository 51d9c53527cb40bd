-- The sorted triangles on the left of the greedy segments of a plan are the mesh of its map.
use Rattle.std.proofs.Common.{◌≡◌, ℕ, ◌≤◌, ◌*◌, sym, subst, arith, List, length, map}
use Rattle.sight_names.specs.declared.names.Triangle.{Triangle}
use Rattle.sight_names.specs.Map.{map_of}
use Rattle.sight_names.specs.Plan.{PlanParts, IsPlan}
use Rattle.sight_names.specs.Points.{Edge, points_of}
use Rattle.sight_names.specs.Sound.{LinesMeetAtEnds}
use Rattle.sight_names.specs.Greedy.{IsGreedy}
use Rattle.sight_names.specs.Mesh.{AreTriangles, IsMeshTriangle, IsMeshOf, IsPlainMesh}
use Rattle.sight_names.proofs.Lists.{contains_of_get}
use Rattle.sight_names.proofs.PlanNumbers.{count_of_plan}
use Rattle.mesh_base.proofs.PlanFacts.{plan_facts}
use Rattle.triangulate.specs.declared.incident_segments.segments.Segment.{Segment}
use Rattle.triangulate.specs.IncidentSegments.Kept.{edge_of, IsEdgeBetween, AreEdges}
use Rattle.triangulate.specs.Left.{AreLeftTriangles, AreTrianglesSorted}
use Rattle.mesh_shape.specs.Fills.{FillsHull, FillsSides}
use Rattle.triangulate.proofs.GreedyNet.{kept_between}
use Rattle.triangulate.proofs.MeshLaws.{mesh_plain, mesh_fills, mesh_fills_sides}
use Rattle.triangulate.proofs.MeshBound.{few_in_plan}
use Rattle.triangulate.proofs.MeshOf.{left_is_mesh, left_exactly}
use Rattle.triangulate.proofs.SortedMesh.{triangles_in_order}

-- greedy segments go between different points
pub greedy_edges : (p : PlanParts) (count : ℕ) → IsPlan p → count ≡ length p.points → LinesMeetAtEnds (map_of p) → (kept : List Edge) → IsGreedy (map_of p) kept → AreEdges count kept
greedy_edges p count is same ends kept g = λ k e at.
    let b = kept_between (map_of p) (plan_facts p is) ends kept g e (contains_of_get kept e k at) in
    let c = count_of_plan p is in
    subst (λ (n : ℕ). IsEdgeBetween n e) (let x : length (points_of (map_of p)) ≡ count = omega (arith, c, same) in x) b

module _ (p : PlanParts) (is : IsPlan p) (ends : LinesMeetAtEnds (map_of p)) (segs : List Segment) (kept : List Edge) (same : map edge_of segs ≡ kept) (g : IsGreedy (map_of p) kept) (found left : List Triangle) (are : AreLeftTriangles (map_of p) segs found) (order : AreTrianglesSorted found left) where
  greedy_here : IsGreedy (map_of p) (map edge_of segs)
  greedy_here = subst (IsGreedy (map_of p)) (sym same) g

  in_order : AreTriangles (length (points_of (map_of p))) left
  in_order = triangles_in_order (length (points_of (map_of p))) found left order (λ t c. (left_is_mesh (map_of p) (plan_facts p is) ends segs greedy_here t (are.each t c)).numbers)

  pub is_mesh_with : IsMeshOf (map_of p) left
  is_mesh_with = record {
    kept = kept;
    greedy = g;
    triangles = in_order;
    exactly = λ t.
        let e = left_exactly (map_of p) (plan_facts p is) ends segs greedy_here found are t in
        (λ c. subst (λ (k : List Edge). IsMeshTriangle (map_of p) k t) same (e.0 (order.from_found t c)), λ h. order.has_found t (e.1 (subst (λ (k : List Edge). IsMeshTriangle (map_of p) k t) (sym same) h)));
  }

  pub few_left : length left ≤ 2 * length p.points
  few_left = few_in_plan p is ends left is_mesh_with

  pub mesh_is_plain : IsPlainMesh (map_of p) left
  mesh_is_plain = mesh_plain (map_of p) (plan_facts p is) ends left is_mesh_with

  pub mesh_fills_hull : FillsHull (map_of p) kept left
  unfolding is_mesh_with
  mesh_fills_hull = mesh_fills (map_of p) (plan_facts p is) ends left is_mesh_with

  pub mesh_fills_each_side : FillsSides (map_of p) left
  mesh_fills_each_side = mesh_fills_sides (map_of p) (plan_facts p is) ends left is_mesh_with
