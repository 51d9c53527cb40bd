-- An accepted certificate that lists no pair, and whose trees keep by rows, tells all of sight.
use Rattle.std.proofs.Common.{◌≡◌, ◌≢◌, ℕ, ◌<◌, ◌⊎◌, inl, inr, List, [], length, sym, ap, subst, arith}
use Rattle.std.proofs.lemmas.Option.{slice_get-get_or, slice_get_within}
use Rattle.std.specs.Prelude.{get_or}
use Rattle.sight_names.specs.declared.names.Pair.{Pair}
use Rattle.sight_names.specs.Map.{Map, IsMap, map_of}
use Rattle.sight_names.specs.Mesh.{IsGoodMesh}
use Rattle.sight_names.specs.Sees.{Sees}
use Rattle.sight_names.specs.Sound.{LinesMeetAtEnds}
use Rattle.sight_names.specs.Table.{Rejected}
use Rattle.sight_names.specs.Ray.{IsSightRay}
use Rattle.sight_names.specs.Groups.{IsInGroup}
use Rattle.sight_names.proofs.Laws.{sees_sym}
use Rattle.sight_names.proofs.PlanMap.{plan_is_map}
use Rattle.mesh_base.proofs.SightLaws.SightLaws.{sight_sees}
use Rattle.mesh_base.proofs.GoodMesh.{PointFacts, same_or_not}
use Rattle.mesh_base.proofs.PlanFacts.{plan_facts}
use Rattle.block_evidence.specs.declared.sight_tree.Tree.{Tree}
use Rattle.cert_format.specs.Parts.{CertParts}
use Rattle.cert_format.specs.Accepted.{triangles_of, labels_of, HasRay}
use Rattle.cert_format.specs.declared.cert_groups.cert.CertTwo.{CertTwo}
use Rattle.face_groups.specs.GroupsBase.Table.{NamesTheLabels}
use Rattle.face_groups.proofs.GroupsBase.CheckedGroups.{table_is_good, table_is_map, table_is_sound, table_sees, table_one_group}
use Rattle.cert_checker.specs.AcceptedGroups.Accepted.{AreGroupsJoined}
use Rattle.sight_lift.proofs.LiftLaws.{sight_connects}
use Rattle.cert_checker.proofs.Components.{connected_back}
use Rattle.math_base.proofs.Numbers.{below_or_above}
use Rattle.gate_floods.specs.Rows.{KeepsByRows}
use Rattle.gate_floods.specs.Exact.{IsClaimedBlind, RanksBefore, IsOwned, IsExactOver}
use Rattle.gate_floods.specs.Bits.{rank_of}
use Rattle.certificates.specs.CertExact.Grammar.{as_two}
use Rattle.gate_floods.specs.Laws.{ExactTells, VersionThreeTells}
use Rattle.gate_floods.proofs.Blind.{claims_are_right}

-- ---- claims

pub joined_back : (c : CertParts) (f k : ℕ) → AreGroupsJoined c f k → AreGroupsJoined c k f
joined_back c f k (inl same) = inl (sym same)
joined_back c f k (inr (inl ray)) = inr (inr ray)
joined_back c f k (inr (inr ray)) = inr (inl ray)

claimed_back : (g : Map) (c : CertParts) (f k : ℕ) → IsClaimedBlind g c f k → IsClaimedBlind g c k f
claimed_back g c f k h = record { within = h.within_too; within_too = h.within; connected = connected_back g f k h.connected.0 h.connected.1; apart = λ j. h.apart (joined_back c k f j) }

-- of two different groups one ranks before the other
one_ranks : (rank : ℕ → ℕ) (f k : ℕ) → f ≢ k → RanksBefore rank f k ⊎ RanksBefore rank k f
one_ranks rank f k differ = elim (same_or_not (rank f) (rank k)) as (λ _. RanksBefore rank f k ⊎ RanksBefore rank k f) [
  | inl same ↦ elim (below_or_above f k differ) as (λ _. RanksBefore rank f k ⊎ RanksBefore rank k f) [ inl l ↦ inl (inr (same, l)) | inr l ↦ inr (inr (sym same, l)) ]
  | inr other ↦ elim (below_or_above (rank f) (rank k) other) as (λ _. RanksBefore rank f k ⊎ RanksBefore rank k f) [ inl l ↦ inl (inl l) | inr l ↦ inr (inl l) ]
]

owned_by_one : (rank : ℕ → ℕ) (g : Map) (c : CertParts) (f k : ℕ) → IsClaimedBlind g c f k → (f ≢ k) × (IsOwned rank (IsClaimedBlind g c) f k ⊎ IsOwned rank (IsClaimedBlind g c) k f)
owned_by_one rank g c f k h =
    let differ : f ≢ k = λ e. h.apart (inl e) in
    (differ, elim (one_ranks rank f k differ) as (λ _. IsOwned rank (IsClaimedBlind g c) f k ⊎ IsOwned rank (IsClaimedBlind g c) k f) [ inl r ↦ inl (h, r) | inr r ↦ inr (claimed_back g c f k h, r) ])

no_tree : Tree
no_tree = record { source = 0; nodes = [] }

module _ (rank : ℕ → ℕ) (m : Map) (facts : PointFacts m) (is_map : IsMap m) (ends : LinesMeetAtEnds m) (table : List ℕ) (c : CertTwo) (g : Map) (names : NamesTheLabels m (triangles_of c.cert) c.groups (labels_of c.cert) g) (all : IsExactOver rank m table c g) where
  grouped_is_map : IsMap g
  grouped_is_map = table_is_map m facts (triangles_of c.cert) c.groups (labels_of c.cert) all.table_for g names is_map ends

  grouped_ends : LinesMeetAtEnds g
  grouped_ends = (table_is_sound m facts (triangles_of c.cert) c.groups (labels_of c.cert) all.table_for g names ends).ends

  good : IsGoodMesh g (triangles_of c.cert) (labels_of c.cert)
  good = table_is_good m facts (triangles_of c.cert) c.groups (labels_of c.cert) all.table_for g names

  -- ---- groups

  kept : (f k : ℕ) → IsOwned rank (IsClaimedBlind g c.cert) f k → (t : Tree) × (t.source ≡ f) × KeepsByRows g (triangles_of c.cert) (labels_of c.cert) (IsClaimedBlind g c.cert) (IsOwned rank (IsClaimedBlind g c.cert) f) t
  kept f k h =
      let each = all.one_each in
      let within = h.0.within in
      let t = all.trees f (get_or c.cert.trees f no_tree) (slice_get-get_or c.cert.trees f no_tree (omega (arith, each, within))) in
      (get_or c.cert.trees f no_tree, t.0, t.1)

  claimed_blind : (f k : ℕ) → IsClaimedBlind g c.cert f k → ¬ Sees g f k
  claimed_blind = claims_are_right g (triangles_of c.cert) (labels_of c.cert) (IsClaimedBlind g c.cert) (IsOwned rank (IsClaimedBlind g c.cert)) grouped_is_map grouped_ends good (owned_by_one rank g c.cert) kept

  ray_sees : (f k : ℕ) → HasRay c.cert f k → Sees g f k
  ray_sees f k (r, there, pair) = sight_sees g r.ray f k grouped_is_map grouped_ends (subst (λ (x : ℕ). IsSightRay g r.ray x k) (ap (λ (q : Pair). q.a) pair) (subst (λ (x : ℕ). IsSightRay g r.ray r.pair.a x) (ap (λ (q : Pair). q.b) pair) (all.rays r there)))

  is_group : (a f : ℕ) → IsInGroup c.groups a f → f < g.sectors
  is_group a f (at, there, has) = let l = slice_get_within c.groups f at there in let n = names.sectors in omega (arith, l, n)

  -- ---- sectors

  pub set_is_blind : (a b : ℕ) → a < m.sectors → b < m.sectors → Rejected m.sectors table a b → ¬ Sees m a b
  set_is_blind a b low_a low_b set sees =
      let w = (table_sees m facts (triangles_of c.cert) c.groups (labels_of c.cert) all.table_for g names a b).0 sees in
      claimed_blind w.0 w.1 (record {
        within = is_group a w.0 w.2;
        within_too = is_group b w.1 w.3;
        connected = sight_connects g (triangles_of c.cert) (labels_of c.cert) w.0 w.1 grouped_is_map good w.4;
        apart = all.set a b low_a low_b set w.0 w.1 w.2 w.3;
      }) w.4

  groups_see : (a b f k : ℕ) → IsInGroup c.groups a f → IsInGroup c.groups b k → Sees g f k → Sees m a b
  groups_see a b f k in_f in_k sees = (table_sees m facts (triangles_of c.cert) c.groups (labels_of c.cert) all.table_for g names a b).1 (f, k, in_f, in_k, sees)

  joined_see : (a b f k : ℕ) → IsInGroup c.groups a f → IsInGroup c.groups b k → AreGroupsJoined c.cert f k → Sees m a b
  joined_see a b f k in_f in_k (inl same) = table_one_group m facts (triangles_of c.cert) c.groups (labels_of c.cert) all.table_for g names k a b (subst (IsInGroup c.groups a) same in_f) in_k
  joined_see a b f k in_f in_k (inr (inl ray)) = groups_see a b f k in_f in_k (ray_sees f k ray)
  joined_see a b f k in_f in_k (inr (inr ray)) = groups_see a b f k in_f in_k (sees_sym g k f (ray_sees k f ray))

  pub clear_sees : (a b : ℕ) → a < m.sectors → b < m.sectors → ¬ Rejected m.sectors table a b → Sees m a b
  clear_sees a b low_a low_b clear = let w = all.clear a b low_a low_b clear in joined_see a b w.0 w.1 w.2 w.3 w.4

pub exact_tells : ExactTells
exact_tells rank p t c is ends size (g, names, all) = record {
  blind = λ a b low_a low_b bit. set_is_blind rank (map_of p) (plan_facts p is) (plan_is_map p is) ends t.bytes c g names all a b low_a low_b (subst (λ (n : ℕ). Rejected n t.bytes a b) size bit);
  seen = λ a b low_a low_b none. clear_sees rank (map_of p) (plan_facts p is) (plan_is_map p is) ends t.bytes c g names all a b low_a low_b (λ bit. none (subst (λ (n : ℕ). Rejected n t.bytes a b) (sym size) bit));
}

pub version_three_tells : VersionThreeTells
version_three_tells p t c is ends size accepted = exact_tells (rank_of c.rays (length c.groups)) p t (as_two c) is ends size accepted
