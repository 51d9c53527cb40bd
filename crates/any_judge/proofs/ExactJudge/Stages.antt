-- How a stage stands to what was heard, and what triangles, groups and rays tell once they all have come.
use Rattle.std.proofs.Common.{◌≡◌, ℕ, ◌*◌, ◌≤◌, List, [], Option, Some, None, length, true, refl, sym, ◌∙◌, ap, subst, arith}
use Rattle.std.specs.List.{slice_get}
use Rattle.std.specs.Prelude.{All}
use Rattle.std.proofs.lemmas.List.{length-map}
use Rattle.std.proofs.lemmas.Option.{slice_get_within, get_or_from_slice_get}
use Rattle.sight_names.specs.declared.faults.CheckFault.{CheckFault}
use Rattle.sight_names.specs.declared.faults.CheckFault.TheVariants.{Mesh, Ray, Tree as OfTree, ListedSet, Unproved, Uncovered}
use Rattle.sight_names.specs.declared.names.PairRay.{PairRay}
use Rattle.sight_names.specs.declared.names.Triangle.{Triangle}
use Rattle.sight_names.specs.Map.{Map, map_of}
use Rattle.sight_names.specs.Mesh.{IsGoodMesh}
use Rattle.sight_names.specs.Plan.{PlanParts, IsPlan}
use Rattle.reject_bits.specs.Parts.{TableParts}
use Rattle.mesh_shape.specs.declared.half_edges.table.HalfEdge.{HalfEdge}
use Rattle.mesh_shape.specs.HalfEdges.HalfEdges.{AreHalfEdges, AreOfGoodMesh}
use Rattle.cert_format.specs.declared.cert.Labelled.{Labelled}
use Rattle.cert_format.specs.Accepted.{triangles_of, labels_of}
use Rattle.cert_checker.specs.declared.verdict.Verdict.{Verdict}
use Rattle.cert_checker.specs.declared.verdict.Verdict.TheVariants.{Yes as YesOne, No as NoOne}
use Rattle.cert_checker.specs.Apart.{triangles_in, labels_in}
use Rattle.cert_checker.specs.Judged.{IsLaterVerdict, IsPairVerdict, IsRayFaultOf, JudgesRays}
use Rattle.cert_checker.specs.Pairs.{IsPairWithin}
use Rattle.cert_checker.specs.Rays.{AreSightRaysBelow, IsFirstRayFault}
use Rattle.cert_checker.proofs.Judging.{later_at_pairs, rays_at_pairs, rays_at_tree}
use Rattle.certificates.specs.declared.cert_exact.cert.ExactParts.{ExactParts}
use Rattle.certificates.specs.CertExact.Grammar.{as_two}
use Rattle.group_checker.specs.declared.grouping.GroupedMesh.{GroupedMesh}
use Rattle.group_checker.specs.declared.grouping.MeshVerdict.TheVariants.{Broken as BrokenMesh}
use Rattle.group_checker.specs.declared.verdict.AnyFault.{AnyFault}
use Rattle.group_checker.specs.declared.verdict.AnyFault.TheVariants.{Check}
use Rattle.group_checker.specs.declared.verdict.AnyVerdict.TheVariants.{No}
use Rattle.group_checker.specs.Grouping.{IsGroupedMesh, TellsGrouping}
use Rattle.group_checker.specs.Judged.{any_of}
use Rattle.exact_checker.specs.declared.trees.WrongNode.{WrongNode}
use Rattle.exact_checker.specs.Judged.{AreTreesKept, IsFirstTreeWrong, JudgesThree, JudgesTreesOfThree, TellsPairsOfThree}
use Rattle.exact_checker.proofs.Accepting.{broken_three, grouped_judged}
use Rattle.any_judge.specs.declared.exact_judge.ground.Ground.{Ground}
use Rattle.any_judge.specs.declared.exact_judge.stage.Stage.{Stage}
use Rattle.any_judge.specs.declared.exact_judge.stage.Stage.TheVariants.{Gathering, Lost, Broken, Walking}
use Rattle.any_judge.specs.declared.exact_judge.trees.RowTrees.{RowTrees}
use Rattle.any_judge.specs.ExactJudge.Ground.{IsExactGroundOf, IsMeshOver}
use Rattle.any_judge.specs.ExactJudge.Heard.{Groups, ExactHeard, closed_at, with_node_of}
use Rattle.any_judge.specs.ExactJudge.Stage.{HasThree, IsExactStageClosed, IsFaultBefore, IsExactStageFresh, IsGroupedOver, IsRightOver, IsStage, IsWalking}
use Rattle.any_judge.specs.ExactJudge.Trees.{Begun, HasHeardRowTrees, at_source}
use Rattle.block_evidence.specs.declared.sight_tree.Node.{Node}

-- ---- a stage, and what was heard

pub stage_of_closed : (p : PlanParts) (gs : Groups) (h : ExactHeard) (s : Stage) → h.closed ≡ true → IsExactStageClosed p gs h.triangles h.rays h.trees s → IsStage p gs h s
stage_of_closed p gs h Gathering e k = absurd k
stage_of_closed p gs h Lost e k = (e, k)
stage_of_closed p gs h (Broken f) e k = (e, k)
stage_of_closed p gs h (Walking j) e k = (e, k)

module _ (p : PlanParts) (gs : Groups) (h : ExactHeard) where
  -- triangles and rays are judged
  pub closes : (labelled : List Labelled) (rays : List PairRay) (s : Stage) → labelled ≡ h.triangles → rays ≡ h.rays → IsExactStageFresh h → IsExactStageClosed p gs labelled rays ([], None) s → IsStage p gs (closed_at h) s
  closes labelled rays s e f fresh k = stage_of_closed p gs (closed_at h) s refl
      (subst (λ (ls : List Labelled). IsExactStageClosed p gs ls h.rays h.trees s) e (subst (λ (rs : List PairRay). IsExactStageClosed p gs labelled rs h.trees s) f (subst (λ (b : Begun). IsExactStageClosed p gs labelled rays b s) (sym fresh.trees) k)))

  -- or where trees are
  pub node_walked : (f : ℕ) (n : Node) (j new : RowTrees) → IsStage p gs h (Walking j) → new.ground ≡ j.ground → HasHeardRowTrees (at_source f n h.trees) new → IsStage p gs (with_node_of f n h) (Walking new)
  node_walked f n j new k same heard = (k.0, record { over = k.1.over; right = subst (λ (g : Ground). IsRightOver p k.1.over gs h.triangles h.rays g) (sym same) k.1.right; heard = heard })

-- ---- rays in range

pub ray_within : (n : ℕ) (rays : List PairRay) → All (λ (r : PairRay). IsPairWithin n r.pair) rays → (i : ℕ) (r : PairRay) → slice_get rays i ≡ Some r → IsPairWithin n r.pair
ray_within n rays all i r at = subst (λ (x : PairRay). IsPairWithin n x.pair) (get_or_from_slice_get rays i r r at) (all i r (slice_get_within rays i r at))

-- ---- mesh and groups break a rule

pub mesh_broken : (p : PlanParts) (gs : Groups) (labelled : List Labelled) (rays : List PairRay) → IsPlan p → (f : AnyFault) → TellsGrouping p (triangles_in labelled) (labels_in labelled) gs (BrokenMesh f) → IsFaultBefore p gs labelled rays f
mesh_broken p gs labelled rays is f told t c has = broken_three p is t c has.table has.cert f
    (subst (λ (ls : List Labelled). TellsGrouping p (triangles_in ls) (labels_in ls) c.groups (BrokenMesh f)) (sym has.triangles)
    (subst (λ (groups : Groups). TellsGrouping p (triangles_in labelled) (labels_in labelled) groups (BrokenMesh f)) (sym has.groups_are) told))

-- ---- they keep all rules

kept_at_pairs : (m : Map) (c : ExactParts) (v : Verdict) → AreTreesKept m c → IsPairVerdict v → JudgesTreesOfThree m c v
kept_at_pairs m c (YesOne t) all kind = all
kept_at_pairs m c (NoOne (ListedSet x y)) all kind = all
kept_at_pairs m c (NoOne (Unproved x y)) all kind = all
kept_at_pairs m c (NoOne (Uncovered x y)) all kind = all
kept_at_pairs m c (NoOne (Mesh x)) all kind = absurd kind
kept_at_pairs m c (NoOne (Ray x y z)) all kind = absurd kind
kept_at_pairs m c (NoOne (OfTree x y)) all kind = absurd kind

module _ (p : PlanParts) (gs : Groups) (labelled : List Labelled) (over : GroupedMesh) (w : IsGroupedOver p gs labelled over) where
  pub of_good_mesh : (xs : List HalfEdge) → AreHalfEdges over.plan over.mesh.triangles over.labels xs → AreOfGoodMesh over.plan over.mesh.triangles xs
  of_good_mesh xs are = record {
    labels = labels_in labelled;
    plan = w.right.plan;
    good = subst (λ (ts : List Triangle). IsGoodMesh (map_of over.plan) ts (labels_in labelled)) (sym w.triangles) w.right.good;
    edges = subst (λ (ls : List (Option ℕ)). AreHalfEdges over.plan over.mesh.triangles ls xs) w.labels are;
  }

  pub few_edges : (xs : List HalfEdge) → AreHalfEdges over.plan over.mesh.triangles over.labels xs → length xs ≤ 3 * 65535
  few_edges xs are = omega (arith, are.len, ap (λ (ts : List Triangle). length ts) w.triangles, length-map labelled (λ (l : Labelled). l.triangle), w.few)

  module _ (rays : List PairRay) (t : TableParts) (c : ExactParts) (has : HasThree p t c gs labelled rays) where
    -- of the certificate too
    own : IsGroupedMesh p (triangles_of (as_two c).cert) (labels_of (as_two c).cert) c.groups over.plan
    own = subst (λ (ls : List Labelled). IsGroupedMesh p (triangles_in ls) (labels_in ls) c.groups over.plan) (sym has.triangles)
        (subst (λ (groups : Groups). IsGroupedMesh p (triangles_in labelled) (labels_in labelled) groups over.plan) (sym has.groups_are) w.right)

    its_triangles : over.mesh.triangles ≡ triangles_of (as_two c).cert
    its_triangles = w.triangles ∙ ap triangles_in (sym has.triangles)

    its_labels : over.labels ≡ labels_of (as_two c).cert
    its_labels = w.labels ∙ ap labels_in (sym has.triangles)

    is_over : (xs : List HalfEdge) → AreHalfEdges over.plan over.mesh.triangles over.labels xs → IsMeshOver c over.plan over.mesh.triangles xs
    is_over xs are = record {
      plan = own.plan;
      sectors = ap (λ (q : PlanParts). q.sectors) own.grouped_is;
      triangles = its_triangles;
      good = own.good;
      edges = subst (λ (ts : List Triangle). AreHalfEdges over.plan ts (labels_of (as_two c).cert) xs) its_triangles (subst (λ (ls : List (Option ℕ)). AreHalfEdges over.plan over.mesh.triangles ls xs) its_labels are);
    }

    judged : (v : Verdict) → IsLaterVerdict v → JudgesRays (map_of over.plan) (as_two c).cert v → JudgesTreesOfThree (map_of over.plan) c v → TellsPairsOfThree t (as_two c) v → JudgesThree p t c (any_of v)
    judged v later of_rays of_trees of_pairs = grouped_judged p w.plan t c has.table has.cert over.plan own v later of_rays of_trees of_pairs

    at_ray : (f : CheckFault) → IsRayFaultOf f → IsFirstRayFault (map_of over.plan) rays f → JudgesThree p t c (No (Check f))
    at_ray (Ray a b why) kind first = judged (NoOne (Ray a b why)) tt (subst (λ (rs : List PairRay). IsFirstRayFault (map_of over.plan) rs (Ray a b why)) (sym has.rays_are) first) tt tt
    at_ray (Mesh f) kind first = absurd kind
    at_ray (OfTree s n) kind first = absurd kind
    at_ray (ListedSet a b) kind first = absurd kind
    at_ray (Unproved a b) kind first = absurd kind
    at_ray (Uncovered a b) kind first = absurd kind

    module _ (sight : AreSightRaysBelow (map_of over.plan) rays (length rays)) where
      at_tree : (x : WrongNode) → IsFirstTreeWrong (map_of over.plan) c x.source x.node → JudgesThree p t c (any_of (NoOne (OfTree x.source x.node)))
      at_tree x first = judged (NoOne (OfTree x.source x.node)) tt (rays_at_tree (map_of over.plan) (as_two c).cert rays x.source x.node (sym has.rays_are) sight) first tt

      at_pairs : (v : Verdict) → AreTreesKept (map_of over.plan) c → IsPairVerdict v → TellsPairsOfThree t (as_two c) v → JudgesThree p t c (any_of v)
      at_pairs v kept kind of_pairs = judged v (later_at_pairs v kind) (rays_at_pairs (map_of over.plan) (as_two c).cert rays v (sym has.rays_are) sight kind) (kept_at_pairs (map_of over.plan) c v kept kind) of_pairs

  -- a ray is wrong
  pub ray_broken : (rays : List PairRay) (f : CheckFault) → IsRayFaultOf f → IsFirstRayFault (map_of over.plan) rays f → IsFaultBefore p gs labelled rays (Check f)
  ray_broken rays f kind first t c has = at_ray rays t c has f kind first

  -- or none is: trees come next
  pub walks : (rays : List PairRay) (xs : List HalfEdge) (g : Ground) (j : RowTrees) → AreHalfEdges over.plan over.mesh.triangles over.labels xs → AreSightRaysBelow (map_of over.plan) rays (length rays)
      → ((c : ExactParts) → IsMeshOver c over.plan over.mesh.triangles xs → c.rays ≡ rays → IsExactGroundOf over.plan c g) → j.ground ≡ g → HasHeardRowTrees ([], None) j → IsWalking p gs labelled rays ([], None) j
  walks rays xs g j are sight ground same heard = record {
    over = over.plan;
    right = subst (λ (x : Ground). IsRightOver p over.plan gs labelled rays x) (sym same) (record {
      ground = λ t c has. ground c (is_over rays t c has xs are) has.rays_are;
      tree = λ t c x has first. at_tree rays t c has sight x first;
      pairs = λ t c v has kept kind of_pairs. at_pairs rays t c has sight v kept kind of_pairs;
    });
    heard = heard;
  }
