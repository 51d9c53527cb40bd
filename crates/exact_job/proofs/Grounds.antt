-- The map of groups over the labelled triangles is what the walks go over.
use Rattle.std.proofs.Common.{◌≡◌, ℕ, ◌≤◌, List, Option, length, sym, subst, arith}
use Rattle.std.proofs.lemmas.List.{length-map}
use Rattle.sight_names.specs.declared.limits.TheConstants.{MOST_TRIANGLES}
use Rattle.sight_names.specs.declared.names.Triangle.{Triangle}
use Rattle.sight_names.specs.Map.{map_of}
use Rattle.sight_names.specs.Mesh.{IsGoodMesh}
use Rattle.sight_names.specs.Plan.{PlanParts}
use Rattle.mesh_shape.specs.declared.half_edges.table.HalfEdge.{HalfEdge}
use Rattle.mesh_shape.specs.HalfEdges.HalfEdges.{AreHalfEdges}
use Rattle.cert_checker.specs.Apart.{triangles_in, labels_in}
use Rattle.cert_format.specs.declared.cert.Labelled.{Labelled}
use Rattle.cert_format.specs.declared.cert.Sizes.{Sizes}
use Rattle.cert_format.proofs.LimitLaws.{few_of}
use Rattle.exact_job.specs.Built.{AreInCertificateOrder, IsPlanOfGroups}
use Rattle.found_rays.specs.Ground.{IsRayGround}

pub few_triangles : (sizes : Sizes) (groups : List (List ℕ)) (cs : List Labelled) → AreInCertificateOrder sizes groups cs → length cs ≤ MOST_TRIANGLES
few_triangles sizes groups cs h = few_of sizes.points (length cs) h.few

pub ground : (p g : PlanParts) (sizes : Sizes) (groups : List (List ℕ)) (cs : List Labelled) (ts : List Triangle) (ls : List (Option ℕ)) (xs : List HalfEdge) → AreInCertificateOrder sizes groups cs → ts ≡ triangles_in cs → ls ≡ labels_in cs → IsPlanOfGroups p groups (triangles_in cs) (labels_in cs) g → AreHalfEdges g ts ls xs → IsRayGround g ts ls xs
ground p g sizes groups cs ts ls xs h e f over edges = record {
  plan = over.plan;
  audited = over.audited;
  good = subst (λ (us : List Triangle). IsGoodMesh (map_of g) us ls) (sym e) (subst (λ (ms : List (Option ℕ)). IsGoodMesh (map_of g) (triangles_in cs) ms) (sym f) over.good);
  few = subst (λ (us : List Triangle). length us ≤ MOST_TRIANGLES) (sym e) (let n = length-map cs (λ (l : Labelled). l.triangle) in let m = few_triangles sizes groups cs h in omega (arith, n, m));
  edges = edges;
}
