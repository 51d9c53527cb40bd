-- The answer is yes exactly where the certificate of version 3 is accepted.
use Rattle.std.proofs.Common.{◌≡◌, ℕ, zero, suc, ◌+◌, ◌<◌, ◌↔◌, inl, inr, List, [], ◌∷◌, Some, length, refl, sym, ◌∙◌, ap, subst, arith}
use Rattle.std.specs.List.{slice_get}
use Rattle.std.proofs.lemmas.Option.{none-some, same_Some}
use Rattle.math_base.proofs.Numbers.{either_order}
use Rattle.sight_names.specs.declared.faults.CheckFault.TheVariants.{Mesh, Ray, Tree as OfTree, ListedSet, Unproved, Uncovered}
use Rattle.sight_names.specs.Plan.{PlanParts, IsPlan}
use Rattle.sight_names.specs.Map.{Map, map_of}
use Rattle.sight_names.specs.Sound.{LinesMeetAtEnds}
use Rattle.sight_names.specs.Table.{Rejected}
use Rattle.sight_names.proofs.Lists.{get_of_contains}
use Rattle.mesh_base.proofs.PlanFacts.{plan_facts}
use Rattle.reject_bits.specs.Parts.{TableParts}
use Rattle.block_evidence.specs.declared.sight_tree.Node.{Node}
use Rattle.block_evidence.specs.declared.sight_tree.Tree.{Tree}
use Rattle.cert_format.specs.Accepted.{triangles_of, labels_of, EitherSet, EitherClear}
use Rattle.cert_format.specs.declared.cert_groups.cert.CertTwo.{CertTwo}
use Rattle.certificates.specs.declared.cert_exact.cert.ExactParts.{ExactParts}
use Rattle.certificates.specs.CertExact.Grammar.{as_two, trees_from}
use Rattle.cert_checker.specs.AcceptedGroups.Accepted.{IsGroupedSeen}
use Rattle.cert_checker.specs.declared.verdict.Totals.{Totals}
use Rattle.cert_checker.specs.declared.verdict.Verdict.{Verdict}
use Rattle.cert_checker.specs.declared.verdict.Verdict.TheVariants.{Yes as YesOne, No as NoOne}
use Rattle.cert_checker.specs.Judged.{IsLaterVerdict, JudgesRays}
use Rattle.cert_checker.proofs.Accepting.{member_at, wrong_ray}
use Rattle.group_checker.specs.declared.grouping.MeshVerdict.TheVariants.{Broken}
use Rattle.group_checker.specs.declared.verdict.AnyFault.{AnyFault}
use Rattle.group_checker.specs.declared.verdict.AnyFault.TheVariants.{Check, Group, Unused}
use Rattle.group_checker.specs.declared.verdict.AnyVerdict.{AnyVerdict}
use Rattle.group_checker.specs.declared.verdict.AnyVerdict.TheVariants.{Yes, No}
use Rattle.group_checker.specs.Grouping.{IsGroupedMesh, TellsGrouping}
use Rattle.group_checker.specs.Meshes.{grouped_map, grouped_plan}
use Rattle.group_checker.specs.Judged.{any_of, IsYesAny, JudgesTwo}
use Rattle.group_checker.proofs.AcceptingTwo.{is_used, named_right, no_mesh_fault, table_for}
use Rattle.group_checker.proofs.Ending.{its_own}
use Rattle.group_checker.proofs.OneMap.{names_grouped, one_map}
use Rattle.gate_floods.specs.Exact.{IsAcceptedThree, IsClaimedBlind, IsExactOver, TellsAll}
use Rattle.gate_floods.specs.Bits.{rank_of}
use Rattle.gate_floods.specs.Rows.{KeepsByRows}
use Rattle.gate_floods.proofs.Tells.{version_three_tells, joined_back}
use Rattle.gate_floods.specs.RowJudge.Judged.{tree_with}
use Rattle.exact_checker.specs.Judged.{IsThreeFor, JudgesThree, JudgesTreesOfThree, Owns, TellsPairsOfThree}

-- ---- trees in order

tree_there : (j f : ℕ) (trees : List (List Node)) (ns : List Node) → slice_get trees f ≡ Some ns → slice_get (trees_from j trees) f ≡ Some (tree_with (j + f) ns)
tree_there j f [] ns h = absurd (none-some ns h)
tree_there j zero (us ∷ trees) ns h = let e : j ≡ j + 0 = omega arith in λ i. Some (tree_with (e i) (same_Some us ns h i))
tree_there j (suc f) (us ∷ trees) ns h = let e : suc j + f ≡ j + suc f = omega arith in tree_there (suc j) f trees ns h ∙ ap (λ (k : ℕ). Some (tree_with k ns)) e

pub there_tree : (j f : ℕ) (trees : List (List Node)) (t : Tree) → slice_get (trees_from j trees) f ≡ Some t → (ns : List Node) × (slice_get trees f ≡ Some ns) × (tree_with (j + f) ns ≡ t)
there_tree j f [] t h = absurd (none-some t h)
there_tree j zero (ns ∷ trees) t h = let e : j + 0 ≡ j = omega arith in (ns, refl, ap (λ (k : ℕ). tree_with k ns) e ∙ same_Some (tree_with j ns) t h)
there_tree j (suc f) (us ∷ trees) t h = let e : j + suc f ≡ suc j + f = omega arith in let r = there_tree (suc j) f trees t h in (r.0, r.1, ap (λ (k : ℕ). tree_with k r.0) e ∙ r.2)

pub as_many : (j : ℕ) (trees : List (List Node)) → length (trees_from j trees) ≡ length trees
as_many j [] = refl
as_many j (ns ∷ trees) = ap suc (as_many (suc j) trees)

-- ---- either order

seen_back : (c : CertTwo) (a b : ℕ) → IsGroupedSeen c a b → IsGroupedSeen c b a
seen_back c a b (f, k, in_f, in_k, joined) = (k, f, in_k, in_f, joined_back c.cert f k joined)

module _ (p : PlanParts) (is : IsPlan p) (t : TableParts) (c : ExactParts) (size : t.n ≡ p.sectors) (three : IsThreeFor p c) where
  -- ---- yes

  below : (a : ℕ) → a < p.sectors → a < t.n
  below a l = omega (arith, l, size)

  in_table : (a b : ℕ) → Rejected p.sectors t.bytes a b → Rejected t.n t.bytes a b
  in_table a b h = subst (λ (n : ℕ). Rejected n t.bytes a b) (sym size) h

  not_in : (a b : ℕ) → ¬ Rejected p.sectors t.bytes a b → ¬ Rejected t.n t.bytes a b
  not_in a b h s = h (subst (λ (n : ℕ). Rejected n t.bytes a b) size s)

  yes_set : (totals : Totals) → TellsPairsOfThree t (as_two c) (YesOne totals) → (a b : ℕ) → a < p.sectors → b < p.sectors → Rejected p.sectors t.bytes a b → ¬ IsGroupedSeen (as_two c) a b
  yes_set totals h a b low low_too bit seen = elim (either_order a b) as (λ _. ⊥) [
    | inl l ↦ (h.0 a b l (below b low_too)).set (inl (in_table a b bit)) seen
    | inr l ↦ (h.0 b a l (below a low)).set (inr (in_table a b bit)) (seen_back (as_two c) a b seen)
  ]

  yes_clear : (totals : Totals) → TellsPairsOfThree t (as_two c) (YesOne totals) → (a b : ℕ) → a < p.sectors → b < p.sectors → ¬ Rejected p.sectors t.bytes a b → IsGroupedSeen (as_two c) a b
  yes_clear totals h a b low low_too none = elim (either_order a b) as (λ _. IsGroupedSeen (as_two c) a b) [
    | inl l ↦ (h.0 a b l (below b low_too)).clear (inl (not_in a b none))
    | inr l ↦ seen_back (as_two c) b a ((h.0 b a l (below a low)).clear (inr (not_in a b none)))
  ]

  -- the tree is that of the group, and keeps from all that it owns
  abbrev IsRightTree : ℕ → Tree → Type 0
  IsRightTree f u = (u.source ≡ f) × KeepsByRows (grouped_map p (as_two c)) (triangles_of (as_two c).cert) (labels_of (as_two c).cert) (IsClaimedBlind (grouped_map p (as_two c)) (as_two c).cert) (Owns (grouped_map p (as_two c)) c f) u

  yes_accepted : (totals : Totals) → JudgesThree p t c (Yes totals) → IsAcceptedThree (map_of p) t.bytes c
  yes_accepted totals h = (
    grouped_map p (as_two c),
    names_grouped p is (as_two c),
    record {
      table_for = table_for p is (as_two c) three.two totals h.mesh h.groups;
      rays = λ r there. h.rays there.0 r there.1 (get_of_contains c.rays r there.0 there.1 there.2);
      one_each = as_many 0 c.trees ∙ three.one_each ∙ sym (names_grouped p is (as_two c)).sectors;
      trees = λ f u at. let w = there_tree 0 f c.trees u at in tree_right f u (w.0, w.1, ap (λ (k : ℕ). tree_with k w.0) (omega arith) ∙ w.2);
      listed = refl;
      set = λ a b low low_too bit f k in_f in_k joined. yes_set totals h.pairs a b low low_too bit (f, k, in_f, in_k, joined);
      clear = λ a b low low_too none. yes_clear totals h.pairs a b low low_too none;
    },
  )
    where
      tree_right : (f : ℕ) (u : Tree) → (ns : List Node) × (slice_get c.trees f ≡ Some ns) × (tree_with f ns ≡ u) → IsRightTree f u
      tree_right f u (ns, at, same) = subst (IsRightTree f) same (refl, h.trees f ns at)

  -- ---- no

  over_it : IsAcceptedThree (map_of p) t.bytes c → IsExactOver (rank_of c.rays (length c.groups)) (map_of p) t.bytes (as_two c) (grouped_map p (as_two c))
  over_it a = subst (λ (g : Map). IsExactOver (rank_of c.rays (length c.groups)) (map_of p) t.bytes (as_two c) g) (one_map (map_of p) (plan_facts p is) (triangles_of (as_two c).cert) c.groups (labels_of (as_two c).cert) a.2.table_for a.0 (grouped_map p (as_two c)) a.1 (names_grouped p is (as_two c))) a.2

  module _ (all : IsExactOver (rank_of c.rays (length c.groups)) (map_of p) t.bytes (as_two c) (grouped_map p (as_two c))) where
    within : (b : ℕ) → b < t.n → b < p.sectors
    within b l = omega (arith, l, size)

    set_unseen : (a b : ℕ) → a < p.sectors → b < p.sectors → EitherSet t.n t.bytes a b → IsGroupedSeen (as_two c) a b → ⊥
    set_unseen a b low low_too (inl bit) (f, k, in_f, in_k, joined) = all.set a b low low_too (subst (λ (n : ℕ). Rejected n t.bytes a b) size bit) f k in_f in_k joined
    set_unseen a b low low_too (inr bit) (f, k, in_f, in_k, joined) = all.set b a low_too low (subst (λ (n : ℕ). Rejected n t.bytes b a) size bit) k f in_k in_f (joined_back (as_two c).cert f k joined)

    clear_seen : (a b : ℕ) → a < p.sectors → b < p.sectors → EitherClear t.n t.bytes a b → IsGroupedSeen (as_two c) a b
    clear_seen a b low low_too (inl none) = all.clear a b low low_too (λ bit. none (in_table a b bit))
    clear_seen a b low low_too (inr none) = seen_back (as_two c) b a (all.clear b a low_too low (λ bit. none (in_table b a bit)))

    refused : (f : AnyFault) → JudgesThree p t c (No f) → ⊥
    refused (Group k) h = h.groups.against (named_right p is (as_two c) all.table_for k)
    refused (Unused f) h = h.groups.1.against (is_used p is (as_two c) all.table_for f)
    refused (Check (Mesh f)) h = no_mesh_fault p is (as_two c) all.table_for f h.mesh
    refused (Check (Ray a b why)) h = let f = h.rays in wrong_ray (grouped_map p (as_two c)) a b why f.ray (all.rays f.ray (member_at c.rays f.place f.ray f.is)) f.fault
    refused (Check (OfTree s n)) h = let f = h.trees in f.not_kept (all.trees s (tree_with s f.nodes) (tree_there 0 s c.trees f.nodes f.is ∙ ap (λ (k : ℕ). Some (tree_with k f.nodes)) (omega arith))).1
    refused (Check (ListedSet a b)) h = absurd h.pairs
    refused (Check (Unproved a b)) h = let f = h.pairs in let w = f.0.within in let o = f.0.order in set_unseen a b (omega (arith, o, w, size)) (within b w) f.1 f.2
    refused (Check (Uncovered a b)) h = let f = h.pairs in let w = f.0.within in let o = f.0.order in f.2 (clear_seen a b (omega (arith, o, w, size)) (within b w) f.1)

  pub yes_exactly_three : (v : AnyVerdict) → JudgesThree p t c v → IsYesAny v ↔ IsAcceptedThree (map_of p) t.bytes c
  yes_exactly_three (Yes totals) h = (λ y. yes_accepted totals h, λ a. tt)
  yes_exactly_three (No f) h = (λ y. absurd y, λ a. absurd (refused (over_it a) f h))

  pub yes_tells : LinesMeetAtEnds (map_of p) → (v : AnyVerdict) → JudgesThree p t c v → IsYesAny v → TellsAll (map_of p) t
  yes_tells ends v h y = version_three_tells p t c is ends size ((yes_exactly_three v h).0 y)

  -- ---- the answer at each end

  -- the same certificate without rays and trees: a fault of mesh and groups is one of it too
  abbrev bare : CertTwo
  bare = record {
    groups = c.groups;
    cert = record { sizes = (as_two c).cert.sizes; triangles = c.triangles; rays = []; listed = []; trees = [] };
    listed = [];
  }

  abbrev no_table : TableParts
  no_table = record { n = 0; bytes = [] }

  pub broken_three : (f : AnyFault) → TellsGrouping p (triangles_of (as_two c).cert) (labels_of (as_two c).cert) c.groups (Broken f) → JudgesThree p t c (No f)
  broken_three f told = by f (told t (as_two c) (its_own (as_two c))) (told t bare (its_own bare)) (told no_table (as_two c) (its_own (as_two c)))
    where
      by : (f : AnyFault) → JudgesTwo p t (as_two c) (No f) → JudgesTwo p t bare (No f) → JudgesTwo p no_table (as_two c) (No f) → JudgesThree p t c (No f)
      by (Group k) h i j = record { mesh = h.mesh; groups = h.groups; rays = tt; trees = tt; pairs = tt }
      by (Unused k) h i j = record { mesh = h.mesh; groups = h.groups; rays = tt; trees = tt; pairs = tt }
      by (Check (Mesh x)) h i j = record { mesh = h.mesh; groups = tt; rays = tt; trees = tt; pairs = tt }
      by (Check (Ray a b why)) h i j = absurd (none-some i.rays.ray i.rays.is)
      by (Check (OfTree s n)) h i j = absurd (none-some i.trees.tree i.trees.is)
      by (Check (ListedSet a b)) h i j = absurd (let l = j.pairs.0.within in omega (arith, l))
      by (Check (Unproved a b)) h i j = absurd (let l = j.pairs.0.within in omega (arith, l))
      by (Check (Uncovered a b)) h i j = absurd (let l = j.pairs.0.within in omega (arith, l))

  module _ (w : IsGroupedMesh p (triangles_of (as_two c).cert) (labels_of (as_two c).cert) c.groups (grouped_plan p (as_two c))) where
    later_judged : (v : Verdict) → IsLaterVerdict v → JudgesRays (grouped_map p (as_two c)) (as_two c).cert v → JudgesTreesOfThree (grouped_map p (as_two c)) c v → TellsPairsOfThree t (as_two c) v → JudgesThree p t c (any_of v)
    later_judged (YesOne totals) later rays trees pairs = record { mesh = (w.sides, w.good); groups = (w.lists, w.used); rays = rays; trees = trees; pairs = pairs }
    later_judged (NoOne (Mesh f)) later rays trees pairs = absurd later
    later_judged (NoOne (Ray a b why)) later rays trees pairs = record { mesh = (w.sides, w.good); groups = (w.lists, w.used); rays = rays; trees = trees; pairs = pairs }
    later_judged (NoOne (OfTree s n)) later rays trees pairs = record { mesh = (w.sides, w.good); groups = (w.lists, w.used); rays = rays; trees = trees; pairs = pairs }
    later_judged (NoOne (ListedSet a b)) later rays trees pairs = record { mesh = (w.sides, w.good); groups = (w.lists, w.used); rays = rays; trees = trees; pairs = pairs }
    later_judged (NoOne (Unproved a b)) later rays trees pairs = record { mesh = (w.sides, w.good); groups = (w.lists, w.used); rays = rays; trees = trees; pairs = pairs }
    later_judged (NoOne (Uncovered a b)) later rays trees pairs = record { mesh = (w.sides, w.good); groups = (w.lists, w.used); rays = rays; trees = trees; pairs = pairs }

  -- a verdict behind mesh and groups is the answer
  pub grouped_judged : (grouped : PlanParts) → IsGroupedMesh p (triangles_of (as_two c).cert) (labels_of (as_two c).cert) c.groups grouped → (v : Verdict) → IsLaterVerdict v → JudgesRays (map_of grouped) (as_two c).cert v → JudgesTreesOfThree (map_of grouped) c v → TellsPairsOfThree t (as_two c) v → JudgesThree p t c (any_of v)
  grouped_judged grouped h v later rays trees pairs =
      later_judged (subst (IsGroupedMesh p (triangles_of (as_two c).cert) (labels_of (as_two c).cert) c.groups) h.grouped_is h) v later
      (subst (λ (x : PlanParts). JudgesRays (map_of x) (as_two c).cert v) h.grouped_is rays)
      (subst (λ (x : PlanParts). JudgesTreesOfThree (map_of x) c v) h.grouped_is trees) pairs
