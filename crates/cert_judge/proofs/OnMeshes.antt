-- What is judged over a good mesh, when a ray comes.
use Rattle.std.proofs.Common.{◌≡◌, List, [], ◌∷◌, ◌++◌, Option, Some, None, length, true, false, ap, refl, sym, subst}
use Rattle.std.specs.Option.{is_some}
use Rattle.std.specs.Prelude.{IfSome, MatchOption}
use Rattle.std.proofs.lemmas.Option.{MatchOption-at_none}
use Rattle.sight_names.specs.declared.faults.CheckFault.{CheckFault}
use Rattle.sight_names.specs.declared.names.PairRay.{PairRay}
use Rattle.sight_names.specs.declared.names.Triangle.{Triangle}
use Rattle.sight_names.specs.Map.{Map, map_of}
use Rattle.sight_names.specs.Mesh.{IsGoodMesh}
use Rattle.sight_names.specs.Plan.{PlanParts}
use Rattle.sight_names.specs.Ray.{IsSightRay}
use Rattle.block_evidence.specs.declared.sight_tree.Tree.{Tree}
use Rattle.cert_format.specs.declared.cert.Labelled.{Labelled}
use Rattle.mesh_shape.specs.Shape.{MeshParts}
use Rattle.mesh_shape.specs.declared.half_edges.table.HalfEdge.{HalfEdge}
use Rattle.mesh_shape.specs.HalfEdges.HalfEdges.{AreHalfEdges, AreOfGoodMesh}
use Rattle.cert_checker.specs.TreeJudge.Heard.{HasHeardTrees}
use Rattle.cert_checker.specs.Apart.{triangles_in, labels_in}
use Rattle.cert_checker.specs.Judged.{IsRayFaultOf}
use Rattle.cert_checker.specs.Rays.{AreSightRaysBelow, IsCheckFaultOf}
use Rattle.cert_judge.specs.declared.on_mesh.OnMesh.{OnMesh}
use Rattle.cert_judge.specs.OnMesh.{IsRayFaultIn, IsOnMesh}
use Rattle.cert_judge.proofs.Rays.{rays_with, still_wrong}

pub none_where : {A : Type 0} (o : Option A) → is_some o ≡ false → o ≡ None
none_where None e = refl
none_where (Some x) e = absurd (cc)

still_match : (m : Map) (rays : List PairRay) (one : PairRay) (o : Option CheckFault) → is_some o ≡ true → MatchOption o (AreSightRaysBelow m rays (length rays)) (IsRayFaultIn m rays) → MatchOption o (AreSightRaysBelow m (rays ++ one ∷ []) (length (rays ++ one ∷ []))) (IsRayFaultIn m (rays ++ one ∷ []))
still_match m rays one None some w = absurd (cc)
still_match m rays one (Some f) some w = still_wrong m rays one f w

module _ (p : PlanParts) (labelled : List Labelled) (rays : List PairRay) (front : List Tree) (tree : Option Tree) (g : OnMesh) (w : IsOnMesh p labelled rays front tree g) where
  pub of_good_mesh : AreOfGoodMesh p g.mesh.triangles g.edges
  of_good_mesh = record {
    labels = labels_in labelled;
    plan = w.plan;
    good = subst (λ (ts : List Triangle). IsGoodMesh (map_of p) ts (labels_in labelled)) (sym w.mesh) w.good;
    edges = subst (λ (ts : List Triangle). AreHalfEdges p ts (labels_in labelled) g.edges) (sym w.mesh) w.edges;
  }

  -- by what is told of the ray, where none before it was wrong
  pub with_next_ray : (one : PairRay) (k : OnMesh) → g.fault ≡ None → IfSome k.fault IsRayFaultOf → (AreOfGoodMesh p g.mesh.triangles g.edges → MatchOption k.fault (IsSightRay (map_of p) one.ray one.pair.a one.pair.b) (IsCheckFaultOf (map_of p) one))
      → k.mesh ≡ g.mesh → k.edges ≡ g.edges → k.trees ≡ g.trees → IsOnMesh p labelled (rays ++ one ∷ []) front tree k
  with_next_ray one k none kind told same_mesh same_edges same_trees = record {
    mesh = subst (λ (x : MeshParts). x.triangles ≡ triangles_in labelled) (sym same_mesh) w.mesh;
    plan = w.plan;
    good = w.good;
    edges = subst (AreHalfEdges p (triangles_in labelled) (labels_in labelled)) (sym same_edges) w.edges;
    sight = rays_with (map_of p) rays one k.fault (MatchOption-at_none (AreSightRaysBelow (map_of p) rays (length rays)) (IsRayFaultIn (map_of p) rays) none w.sight) kind (told of_good_mesh);
    heard = λ _. subst (λ (xs : List HalfEdge). HasHeardTrees (map_of p) (triangles_in labelled) xs front tree k.trees) (sym same_edges) (subst (HasHeardTrees (map_of p) (triangles_in labelled) g.edges front tree) (sym same_trees) (w.heard none));
  }

  -- or where one was
  pub with_ray_behind_wrong : (one : PairRay) → is_some g.fault ≡ true → IsOnMesh p labelled (rays ++ one ∷ []) front tree g
  with_ray_behind_wrong one some = record { mesh = w.mesh; plan = w.plan; good = w.good; edges = w.edges; sight = still_match (map_of p) rays one g.fault some w.sight; heard = w.heard }

  -- nodes come behind a wrong ray
  pub with_nodes_behind_wrong : (other : Option Tree) → true ≡ is_some g.fault → IsOnMesh p labelled rays front other g
  with_nodes_behind_wrong other some = record { mesh = w.mesh; plan = w.plan; good = w.good; edges = w.edges; sight = w.sight; heard = λ none. absurd (let e : is_some g.fault ≡ false = ap is_some none in cc) }
