-- The walks of all sectors, and what they decide as parts of a certificate in range and order.
use Rattle.std.proofs.Common.{◌≡◌, ℕ, zero, suc, ◌-◌, ◌^◌, ◌<◌, ◌≤◌, ◌⊎◌, inl, inr, List, [], ◌∷◌, ◌++◌, length, map, get_or, slice_get, Contains, Option, Some, refl, sym, subst, arith, add-one}
use Rattle.std.specs.Prelude.{slice_index, replicate}
use Rattle.std.specs.List.{AllByRecursion}
use Rattle.std.specs.List.Sorted.{IsStrictlyIncreasing}
use Rattle.std.proofs.lemmas.List.Elements.{recursion_from_All, Contains-get_or}
use Rattle.std.proofs.lemmas.Option.{none-some, slice_get-get_or, slice_get_within, get_or_from_slice_get, same_Some}
use Rattle.sight_names.specs.Limits.{most_triangles}
use Rattle.sight_names.specs.Order.{Ascends}
use Rattle.sight_names.specs.declared.names.Budget.{Budget}
use Rattle.sight_names.specs.declared.names.Pair.{Pair}
use Rattle.sight_names.specs.declared.names.PairRay.{PairRay}
use Rattle.sight_names.specs.declared.names.Ray.{Ray}
use Rattle.sight_names.specs.Mesh.{AreTriangles}
use Rattle.sight_names.specs.Plan.{PlanParts, IsPlan}
use Rattle.block_evidence.specs.declared.sight_tree.Node.{Node}
use Rattle.block_evidence.specs.declared.sight_tree.Node.TheVariants.{Open, Blocked}
use Rattle.block_evidence.specs.declared.sight_tree.Tree.{Tree}
use Rattle.block_evidence.specs.Stuck.{end_codes}
use Rattle.portal_walk.specs.Nodes.{IsNodeAnswered}
use Rattle.cert_format.specs.declared.cert.Labelled.{Labelled}
use Rattle.cert_format.specs.Parts.{CertParts}
use Rattle.cert_format.specs.Grammar.{IsOneInOrder, IsSideInRange, IsRayInRange, IsNodeInOrder, IsTreeInRange}
use Rattle.pair_budget.specs.declared.results.Outcome.{Outcome}
use Rattle.pair_budget.specs.declared.results.Outcome.TheVariants as outcome
use Rattle.pair_budget.specs.declared.results.SourceResult.{SourceResult}
use Rattle.pair_budget.specs.declared.results.Verdicts.{Verdicts}
use Rattle.pair_budget.specs.Walked.{IsTreeFrom}
use Rattle.pair_budget.specs.Decide.{HasItsTree, AreResults, IsFoundBy, IsRayOfResults, DecidesRays, trees_of}
use Rattle.pair_budget.specs.Rows.{tree_of_outcome}
use Rattle.pair_budget.proofs.FoundSectorsLaws.{reached_by}
use Rattle.pair_budget.proofs.NamedLaws.{trees_cons}
use Rattle.sight_names.specs.declared.names.Triangle.{Triangle}
use Rattle.sight_names.specs.Map.{map_of}
use Rattle.block_evidence.specs.SightTree.WholeTree.{IsWholeTree}
use Rattle.pair_budget.specs.Decided.{AreExact}
use Rattle.pair_budget.specs.Whole.{ShowsIfComplete}
use Rattle.sight_workers.specs.declared.view.Task.{Task}
use Rattle.sight_workers.specs.Teams.{AreWalked}
use Rattle.cert_format.specs.declared.cert.Sizes.{Sizes}
use Rattle.cert_format.specs.Sizes.{sizes_of_plan}
use Rattle.group_job.specs.Results.{AreWalksWithin, AreWalkVerdicts, AreWalksShown, AreWholeTrees}
use Rattle.math_base.proofs.Numbers.{below_or_at}
use Rattle.math_base.proofs.Lists.{all_join}

-- ---- the walks

-- each walk went as far as is told
pub walks_are : (t : Task) (rs : List SourceResult) → AreResults t.plan rs → AreWalked t rs → AreWalksWithin t.plan t.budget rs
walks_are t rs are walked = record { results = are; outcomes = λ k r h. (walked k r h).outcome }

-- the trees of walks that went to their ends show what these found
pub walks_shown : (t : Task) (rs : List SourceResult) → AreWalked t rs → AreWalksShown t.plan t.mesh.triangles t.labels rs
walks_shown t rs walked = recursion_from_All (λ (r : SourceResult). ShowsIfComplete t.plan t.mesh.triangles t.labels r.found r.outcome) rs (λ k d lt. (walked k (get_or rs k d) (slice_get-get_or rs k d lt)).shown)

-- each walk found what it should
pub walks_exact : (t : Task) (rs : List SourceResult) → AreWalked t rs → AreExact (map_of t.plan) t.mesh.triangles t.labels t.budget rs
walks_exact t rs walked k r h = (walked k r h).exact

-- ---- rays

abbrev all_of : {X : Type 0} (P : X → Type 0) (xs : List X) → ((x : X) → Contains xs x → P x) → AllByRecursion P xs
all_of P xs f = recursion_from_All P xs (λ k d lt. f (get_or xs k d) (Contains-get_or xs k d lt))

module _ (p : PlanParts) (plan : IsPlan p) (rs : List SourceResult) (are : AreResults p rs) where
  side_in_range : (n : ℕ) → n < length p.lines → (n < length p.lines) × (n < 2 ^ 15)
  side_in_range n h = let k = plan.few_lines in (h, omega arith)

  found_in_range : (a b : ℕ) (ray : Ray) → IsFoundBy rs a b ray → IsSideInRange (sizes_of_plan p) ray.first × IsSideInRange (sizes_of_plan p) ray.last
  found_in_range a b ray (w, x, h, c, to, is) =
      let here = reached_by p rs are a w x h c in
      subst (λ (r : Ray). IsSideInRange (sizes_of_plan p) r.first × IsSideInRange (sizes_of_plan p) r.last) is (side_in_range x.ray.first.line here.first, side_in_range x.ray.last.line here.last)

  ray_in_range : (r : PairRay) → IsRayOfResults rs r → IsSideInRange (sizes_of_plan p) r.ray.first × IsSideInRange (sizes_of_plan p) r.ray.last
  ray_in_range r (inl h) = found_in_range r.pair.a r.pair.b r.ray h
  ray_in_range r (inr (ray, h, e)) = let k = found_in_range r.pair.b r.pair.a ray h in subst (λ (s : Ray). IsSideInRange (sizes_of_plan p) s.first × IsSideInRange (sizes_of_plan p) s.last) (sym e) (k.1, k.0)

  pub rays_in_range : (rays : List PairRay) → DecidesRays p rs rays → AllByRecursion (IsRayInRange (sizes_of_plan p)) rays
  rays_in_range rays d = all_of (IsRayInRange (sizes_of_plan p)) rays (λ r c. let h = d.each r c in let k = ray_in_range r h.2 in ((h.0, h.1), k.0, k.1))

-- ---- trees

increasing_far : (xs : List ℕ) → IsStrictlyIncreasing xs → (i j : ℕ) → i < j → j < length xs → slice_index xs i < slice_index xs j
increasing_far xs up i zero lt in' = absurd (omega arith)
increasing_far xs up i (suc j) lt in' = at (below_or_at i j lt) (λ h. increasing_far xs up i j h (omega arith))
  where
    next : slice_index xs j < slice_index xs (suc j)
    next = subst (λ (m : ℕ). slice_index xs j < slice_index xs m) (add-one j) (up j (omega arith))

    at : (i < j) ⊎ (i ≡ j) → (i < j → slice_index xs i < slice_index xs j) → slice_index xs i < slice_index xs (suc j)
    at (inl h) before = let k = before h in let n = next in omega arith
    at (inr e) before = subst (λ (m : ℕ). slice_index xs m < slice_index xs (suc j)) (sym e) next

ascending_codes : (xs : List ℕ) → IsStrictlyIncreasing xs → (i j x y : ℕ) → i < j → slice_get xs i ≡ Some x → slice_get xs j ≡ Some y → x < y
ascending_codes xs up i j x y lt h k =
    let far = increasing_far xs up i j lt (slice_get_within xs j y k) in
    let e : slice_index xs i ≡ x = get_or_from_slice_get xs i x 0 h in
    let f : slice_index xs j ≡ y = get_or_from_slice_get xs j y 0 k in
    omega arith

all_zero : (n : ℕ) → AllByRecursion (λ (x : ℕ). x ≡ 0) (replicate n 0)
all_zero zero = tt
all_zero (suc n) = (refl, all_zero n)

node_in_order : (n : Node) → IsNodeAnswered n → IsNodeInOrder n
node_in_order Open h = tt
node_in_order (Blocked e) (pairs, v) = record {
  least = v.two;
  most = v.four;
  ascend = ascending_codes (end_codes e) v.ascending;
  unused = subst (λ (xs : List ℕ). AllByRecursion (λ (x : ℕ). x ≡ 0) xs) (sym v.unused) (all_zero (4 - e.count));
}

pub nodes_in_order : (ns : List Node) → AllByRecursion IsNodeAnswered ns → AllByRecursion IsNodeInOrder ns
nodes_in_order [] h = tt
nodes_in_order (n ∷ ns) h = (node_in_order n h.0, nodes_in_order ns h.1)

tree_in_range : (p : PlanParts) (source : ℕ) (t : Tree) → source < p.sectors → IsTreeFrom source t → IsTreeInRange (sizes_of_plan p) t
tree_in_range p source t lt is = (subst (λ (n : ℕ). n < p.sectors) (sym is.source_is) lt, nodes_in_order t.nodes (recursion_from_All IsNodeAnswered t.nodes is.nodes))

-- a fact of each tree
each_tree : (P : Tree → Type 0) (rs : List SourceResult) → AllByRecursion (λ (r : SourceResult). (t : Tree) → r.outcome ≡ outcome.Complete t → P t) rs → AllByRecursion P (trees_of rs)
each_tree P [] h = tt
each_tree P (r ∷ rs) h = subst (λ (ts : List Tree). AllByRecursion P ts) (sym (trees_cons r rs)) (first r.outcome refl (each_tree P rs h.1))
  where
    first : (o : Outcome) → r.outcome ≡ o → AllByRecursion P (trees_of rs) → AllByRecursion P (tree_of_outcome o ++ trees_of rs)
    first (outcome.Complete t) e rest = (h.0 t e, rest)
    first outcome.Spent e rest = rest
    first outcome.All e rest = rest

pub tree_of_source : (p : PlanParts) (rs : List SourceResult) → AreResults p rs → (k : ℕ) (r : SourceResult) → slice_get rs k ≡ Some r → (t : Tree) → r.outcome ≡ outcome.Complete t → IsTreeFrom k t
tree_of_source p rs are k r h t e = subst (λ (o : Outcome). HasItsTree k o) e (are.each k r h).tree

module _ (p : PlanParts) (rs : List SourceResult) (are : AreResults p rs) where
  pub trees_in_range : AllByRecursion (IsTreeInRange (sizes_of_plan p)) (trees_of rs)
  trees_in_range = each_tree (IsTreeInRange (sizes_of_plan p)) rs (recursion_from_All (λ (r : SourceResult). (t : Tree) → r.outcome ≡ outcome.Complete t → IsTreeInRange (sizes_of_plan p) t) rs (λ k d lt t e.
      tree_in_range p k t (subst (λ (n : ℕ). k < n) are.count lt) (tree_of_source p rs are k (get_or rs k d) (slice_get-get_or rs k d lt) t e)))

-- trees behind the first so many sources are of later ones
ascend_cons : {X : Type 0} (R : X → X → Type 0) (x : X) (xs : List X) → AllByRecursion (R x) xs → Ascends R xs → Ascends R (x ∷ xs)
ascend_cons R x xs all up zero zero y z lt h k = absurd (omega arith)
ascend_cons {X = X} R x xs all up zero (suc j) y z lt h k = subst (λ (w : X). R w z) (same_Some x y h) (at xs j z all k)
  where
    at : (xs : List X) (j : ℕ) (z : X) → AllByRecursion (R x) xs → slice_get xs j ≡ Some z → R x z
    at [] j z all k = absurd cc
    at (w ∷ ws) zero z all k = subst (λ (v : X). R x v) (same_Some w z k) all.0
    at (w ∷ ws) (suc j) z all k = at ws j z all.1 k
ascend_cons R x xs all up (suc i) zero y z lt h k = absurd (omega arith)
ascend_cons R x xs all up (suc i) (suc j) y z lt h k = up i j y z (omega arith) h k

later_trees : (n : ℕ) (rs : List SourceResult) → AllByRecursion (λ (r : SourceResult). HasItsTree r.source r.outcome) rs → AllByRecursion (λ (r : SourceResult). n < r.source) rs → AllByRecursion (λ (t : Tree). n < t.source) (trees_of rs)
later_trees n rs has all = each_tree (λ (t : Tree). n < t.source) rs (both rs has all)
  where
    both : (rs : List SourceResult) → AllByRecursion (λ (r : SourceResult). HasItsTree r.source r.outcome) rs → AllByRecursion (λ (r : SourceResult). n < r.source) rs → AllByRecursion (λ (r : SourceResult). (t : Tree) → r.outcome ≡ outcome.Complete t → n < t.source) rs
    both [] has all = tt
    both (r ∷ rs) has all = ((λ t e. let is : IsTreeFrom r.source t = subst (λ (o : Outcome). HasItsTree r.source o) e has.0 in subst (λ (m : ℕ). n < m) (sym is.source_is) all.0), both rs has.1 all.1)

trees_rise : (rs : List SourceResult) → AllByRecursion (λ (r : SourceResult). HasItsTree r.source r.outcome) rs → Ascends (λ (r s : SourceResult). r.source < s.source) rs → Ascends (λ (t u : Tree). t.source < u.source) (trees_of rs)
trees_rise [] has up = λ i j t u lt h k. absurd cc
trees_rise (r ∷ rs) has up = subst (λ (ts : List Tree). Ascends (λ (t u : Tree). t.source < u.source) ts) (sym (trees_cons r rs)) (first r.outcome refl (trees_rise rs has.1 (λ i j x y lt h k. up (suc i) (suc j) x y (omega arith) h k)))
  where
    behind : AllByRecursion (λ (s : SourceResult). r.source < s.source) rs
    behind = recursion_from_All (λ (s : SourceResult). r.source < s.source) rs (λ k d lt. up 0 (suc k) r (get_or rs k d) (omega arith) refl (slice_get-get_or rs k d lt))

    first : (o : Outcome) → r.outcome ≡ o → Ascends (λ (t u : Tree). t.source < u.source) (trees_of rs) → Ascends (λ (t u : Tree). t.source < u.source) (tree_of_outcome o ++ trees_of rs)
    first (outcome.Complete t) e rest =
        let is : IsTreeFrom r.source t = subst (λ (o : Outcome). HasItsTree r.source o) e has.0 in
        ascend_cons (λ (t u : Tree). t.source < u.source) t (trees_of rs) (subst (λ (n : ℕ). AllByRecursion (λ (u : Tree). n < u.source) (trees_of rs)) (sym is.source_is) (later_trees r.source rs has.1 behind)) rest
    first outcome.Spent e rest = rest
    first outcome.All e rest = rest

pub trees_ascend : (p : PlanParts) (rs : List SourceResult) → AreResults p rs → Ascends (λ (t u : Tree). t.source < u.source) (trees_of rs)
trees_ascend p rs are = trees_rise rs
    (recursion_from_All (λ (r : SourceResult). HasItsTree r.source r.outcome) rs (λ k d lt. let is = are.each k (get_or rs k d) (slice_get-get_or rs k d lt) in subst (λ (n : ℕ). HasItsTree n (get_or rs k d).outcome) (sym is.source_is) is.tree))
    (λ i j r s lt h k. let a = (are.each i r h).source_is in let b = (are.each j s k).source_is in omega arith)

-- ---- the certificate

pub cert_in_order : (p : PlanParts) → IsPlan p → (budget : Budget) (v : Verdicts) → AreWalkVerdicts p budget v → (triangles : List Labelled) → length triangles ≤ most_triangles (length p.points) → AreTriangles (length p.points) (map (λ (l : Labelled). l.triangle) triangles) → AllByRecursion (λ (l : Labelled). l.sector < p.sectors) triangles
    → IsOneInOrder (record { sizes = sizes_of_plan p; triangles = triangles; rays = v.rays; listed = []; trees = v.trees })
cert_in_order p plan budget v are triangles few ascend below = record {
  few = few;
  triangles = ascend;
  sectors = below;
  rays = rays_in_range p plan are.results are.walks.results v.rays are.rays;
  rays_ascend = are.rays.ascend;
  listed = tt;
  listed_ascend = λ i j x y lt at too. absurd (none-some x at);
  trees = subst (λ (ts : List Tree). AllByRecursion (IsTreeInRange (sizes_of_plan p)) ts) (sym are.trees) (trees_in_range p are.results are.walks.results);
  trees_ascend = subst (λ (ts : List Tree). Ascends (λ (t u : Tree). t.source < u.source) ts) (sym are.trees) (trees_ascend p are.results are.walks.results);
}

pub same_parts : (sizes own : Sizes) (triangles : List Labelled) (rays found : List PairRay) (listed : List Pair) (trees walked : List Tree) → sizes ≡ own → rays ≡ found → listed ≡ [] → trees ≡ walked
    → ◌≡◌ {A = CertParts} (record { sizes = sizes; triangles = triangles; rays = rays; listed = listed; trees = trees }) (record { sizes = own; triangles = triangles; rays = found; listed = []; trees = walked })
same_parts sizes own triangles rays found listed trees walked a b c d = cc

-- ---- the trees

-- the trees of walks that went to their ends are whole
pub whole_trees : (p : PlanParts) (ts : List Triangle) (ls : List (Option ℕ)) (rs : List SourceResult) → AreWalksShown p ts ls rs → AreWholeTrees p ts ls (trees_of rs)
whole_trees p ts ls [] h = tt
whole_trees p ts ls (r ∷ rs) h = subst (AreWholeTrees p ts ls) (sym (trees_cons r rs)) (all_join (λ (t : Tree). (opened : List ℕ) × IsWholeTree (map_of p) ts ls t opened) (tree_of_outcome r.outcome) (trees_of rs) (of r.outcome h.0) (whole_trees p ts ls rs h.1))
  where
    of : (o : Outcome) → ShowsIfComplete p ts ls r.found o → AreWholeTrees p ts ls (tree_of_outcome o)
    of (outcome.Complete t) s = ((s.opened, s.whole), tt)
    of outcome.Spent s = tt
    of outcome.All s = tt
