-- The parts of a certificate are in range and in order.
use Rattle.std.proofs.Common.{◌≡◌, ℕ, zero, suc, ◌+◌, ◌<◌, ◌≤◌, List, [], ◌∷◌, length, slice_get, Some, refl, sym, ap, ◌∙◌, arith}
use Rattle.std.specs.List.{AllByRecursion}
use Rattle.std.proofs.lemmas.List.Elements.{recursion_from_All}
use Rattle.std.proofs.lemmas.Option.{none-some, same_Some}
use Rattle.sight_names.specs.declared.names.PairRay.{PairRay}
use Rattle.sight_names.specs.Order.{Ascends}
use Rattle.sight_names.specs.Plan.{PlanParts}
use Rattle.block_evidence.specs.declared.sight_tree.Node.{Node}
use Rattle.block_evidence.specs.declared.sight_tree.Tree.{Tree}
use Rattle.portal_walk.specs.Nodes.{IsNodeAnswered}
use Rattle.cert_format.specs.declared.cert.Labelled.{Labelled}
use Rattle.cert_format.specs.declared.cert.Sizes.{Sizes}
use Rattle.cert_format.specs.Grammar.{IsTreeInRange}
use Rattle.cert_format.specs.CertGroups.Grammar.{IsTwoInOrder, grouped_sizes}
use Rattle.certificates.specs.CertExact.Grammar.{as_two, trees_from}
use Rattle.cert_format.specs.Sizes.{sizes_of_plan}
use Rattle.exact_checker.specs.Judged.{IsThreeFor}
use Rattle.exact_job.specs.Built.{AreInCertificateOrder}
use Rattle.exact_job.specs.Rays.{AreRaysInOrder}
use Rattle.exact_job.specs.Trees.{AreNodesOfWalks}
use Rattle.group_job.proofs.BuildLaws.{nodes_in_order}

-- ---- trees

trees_in_range : (sizes : Sizes) (j : ℕ) (trees : List (List Node)) → j + length trees ≤ sizes.sectors → AreNodesOfWalks trees → AllByRecursion (IsTreeInRange sizes) (trees_from j trees)
trees_in_range sizes j [] room h = tt
trees_in_range sizes j (ns ∷ trees) room h = (
  (omega (arith, room), nodes_in_order ns (recursion_from_All IsNodeAnswered ns (h 0 ns refl))),
  trees_in_range sizes (suc j) trees (omega (arith, room)) (λ f us at. h (suc f) us at),
)

source_there : (j i : ℕ) (trees : List (List Node)) (t : Tree) → slice_get (trees_from j trees) i ≡ Some t → t.source ≡ j + i
source_there j i [] t at = absurd (none-some t at)
source_there j zero (ns ∷ trees) t at = ap (λ (u : Tree). u.source) (sym (same_Some (record { source = j; nodes = ns }) t at)) ∙ omega arith
source_there j (suc i) (ns ∷ trees) t at = let e : t.source ≡ suc j + i = source_there (suc j) i trees t at in omega (arith, e)

trees_ascend : (trees : List (List Node)) → Ascends (λ (t u : Tree). t.source < u.source) (trees_from 0 trees)
trees_ascend trees i k t u lt at_t at_u =
    let e : t.source ≡ 0 + i = source_there 0 i trees t at_t in
    let f : u.source ≡ 0 + k = source_there 0 k trees u at_u in
    omega (arith, e, f, lt)

-- ---- all together

pub in_order : (sizes : Sizes) (groups : List (List ℕ)) (triangles : List Labelled) (rays : List PairRay) (trees : List (List Node)) → AreInCertificateOrder sizes groups triangles → AreRaysInOrder (grouped_sizes sizes groups) rays → length trees ≡ length groups → AreNodesOfWalks trees
    → IsTwoInOrder sizes (as_two (record { sizes = sizes; groups = groups; triangles = triangles; rays = rays; trees = trees }))
in_order sizes groups triangles rays trees front h each nodes = record {
  few = front.few_groups;
  groups = front.groups_are;
  groups_ascend = front.groups_ascend;
  grouped = refl;
  in_order = record {
    few = front.few;
    triangles = front.triangles_are;
    sectors = front.labels;
    rays = h.range;
    rays_ascend = h.ascend;
    listed = tt;
    listed_ascend = λ i j x y lt at too. absurd (none-some x at);
    trees = trees_in_range (grouped_sizes sizes groups) 0 trees (omega (arith, each)) nodes;
    trees_ascend = trees_ascend trees;
  };
  no_pairs = refl;
  listed = tt;
  listed_ascend = λ i j x y lt at too. absurd (none-some x at);
}

-- the certificate is one for the plan
pub three : (p : PlanParts) (sizes : Sizes) (groups : List (List ℕ)) (triangles : List Labelled) (rays : List PairRay) (trees : List (List Node)) → sizes ≡ sizes_of_plan p → IsTwoInOrder sizes (as_two (record { sizes = sizes; groups = groups; triangles = triangles; rays = rays; trees = trees })) → length trees ≡ length groups
    → IsThreeFor p (record { sizes = sizes; groups = groups; triangles = triangles; rays = rays; trees = trees })
three p sizes groups triangles rays trees same order each = record {
  two = record {
    sizes = sizes;
    in_order = order;
    sectors = ap (λ (s : Sizes). s.sectors) same;
    points = ap (λ (s : Sizes). s.points) same;
    lines = ap (λ (s : Sizes). s.lines) same;
  };
  one_each = each;
}
