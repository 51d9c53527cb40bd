-- From pairs of groups to pairs of sectors: what the table and the list that follow the groups tell of sight.
use Rattle.std.proofs.Common.{◌≡◌, ◌≢◌, ℕ, ◌<◌, ◌⊎◌, ◌↔◌, inl, inr, List, [], ◌∷◌, Contains, refl, sym, subst, arith}
use Rattle.math_base.proofs.Lists.{contains_here, contains_none}
use Rattle.math_base.proofs.Numbers.{same_below_or_above}
use Rattle.sight_names.specs.declared.names.Ask.{Ask}
use Rattle.sight_names.specs.declared.names.Budget.{Budget}
use Rattle.sight_names.specs.declared.names.Pair.{Pair}
use Rattle.sight_names.specs.Plan.{PlanParts, IsPlan}
use Rattle.sight_names.specs.Map.{map_of}
use Rattle.sight_names.specs.Sees.{Sees}
use Rattle.sight_names.specs.Found.{Found, IsListedOver}
use Rattle.sight_names.specs.Groups.{AreGroups, IsInGroup, IsListedByGroups}
use Rattle.sight_names.proofs.Laws.{sees_sym}
use Rattle.sight_names.proofs.PlanMap.{plan_is_map}
use Rattle.reject_bits.specs.Parts.{TableParts, Rejects}
use Rattle.face_groups.proofs.TriSectors.GoodLabels.{label_below}
use Rattle.cert_format.specs.declared.cert_groups.cert.AnyCert.{AnyCert}
use Rattle.face_groups.proofs.GroupsBase.Listing.{IsListedOfGroups}
use Rattle.face_groups.proofs.GroupsBase.OneGrouped.{listed_is}
use Rattle.face_groups.proofs.GroupsBase.Ordered.{at_contains}
use Rattle.triangulate.proofs.GroupLaws.WholeLaws.{bits_by_groups, sectors_see_by_groups}
use Rattle.group_job.specs.declared.walked.Built.{Built}
use Rattle.group_job.specs.declared.build.GroupBuilt.{GroupBuilt}
use Rattle.group_job.specs.Built.{DecidesByGroups, IsBuiltSymmetric, TellsSectors}
use Rattle.group_job.specs.Walked.{AreWalkedGroups}
use Rattle.group_job.specs.declared.grouped.MapOfGroups.{MapOfGroups}
use Rattle.group_job.specs.Sectors.{AreListed, AreClearByGroups, AreOfSectors, AreSeenByGroups, FollowGroups}
use Rattle.group_job.proofs.Following.{listed_or_not, set_or_clear}
use Rattle.group_job.proofs.GroupPairs.{agree, blind_pair, clear_back, found_seen, in_groups, listed_over, lists, mesh_too, over_listed, own_clear, own_unlisted, pair_sees, set_exactly, unseen_set}
use Rattle.group_job.proofs.OneWalk.{budget_of_map}

-- the sectors of groups are sectors of the map
pub of_sectors : (p : PlanParts) → IsPlan p → (groups : List (List ℕ)) → AreGroups (map_of p) groups → AreOfSectors p.sectors groups
of_sectors p plan groups are f a ha =
    let e = (are.exactly ha.0).0 (at_contains groups ha.0 (f, ha.1)) in
    let w = (e.4.exactly a).0 ha.2 in
    label_below (map_of p) (plan_is_map p plan) w.2.side w.2.touches.line a w.2.touches.is w.2.names

module _ (p : PlanParts) (ask : Ask) (mg : MapOfGroups) (budget : Budget) (b : Built) (h : AreWalkedGroups p ask mg budget b) (table : TableParts) (listed : List Pair) (follow : FollowGroups b.table b.listed mg.groups p.sectors table listed) where
  -- all bits of groups are set where none is clear
  pub all_set : (x y : ℕ) → ¬ AreClearByGroups b.table mg.groups x y → (f k : ℕ) → IsInGroup mg.groups x f → IsInGroup mg.groups y k → Rejects b.table f k
  all_set x y none f k hx hy = elim (set_or_clear b.table f k) as (λ _. Rejects b.table f k) [ inl bit ↦ bit | inr clear ↦ absurd (none (f, k, hx, hy, clear)) ]

  none_clear : (x y : ℕ) → ((f k : ℕ) → IsInGroup mg.groups x f → IsInGroup mg.groups y k → Rejects b.table f k) → ¬ AreClearByGroups b.table mg.groups x y
  none_clear x y all (f, k, hx, hy, clear) = clear (all f k hx hy)

  bits_so : (x y : ℕ) → x < p.sectors → y < p.sectors → Rejects table x y ↔ (¬ Sees (map_of p) x y × ¬ IsListedByGroups (map_of p) budget x y)
  bits_so x y lx ly =
      let law = bits_by_groups p h.grouped.plan h.grouped.closed mg.faces.mesh.triangles (mesh_too p ask mg budget b h) mg.groups h.grouped.groups (map_of mg.plan) h.grouped.map mg.faces.labels h.grouped.faces.labels budget (found_seen p ask mg budget b h) (Rejects b.table) (set_exactly p ask mg budget b h) x y in
      let bit = follow.bits x y lx ly in
      (λ r. law.0 (all_set x y (bit.0 r)), λ k. bit.1 (none_clear x y (law.1 k)))

  -- ---- the list

  is_listed : (x y : ℕ) → IsListedByGroups (map_of p) budget x y ↔ IsListedOfGroups mg.groups (map_of mg.plan) mg.faces.mesh.triangles mg.faces.labels budget x y
  is_listed = listed_is (map_of p) mg.groups h.grouped.groups (lists p ask mg budget b h) (map_of mg.plan) h.grouped.map (agree p ask mg budget b h (map_of mg.plan) h.grouped.map) mg.faces.mesh.triangles mg.faces.labels h.grouped.faces.mesh h.grouped.faces.labels budget

  -- groups that aren't seen, though their bit is clear
  none_seen : (x y : ℕ) → x ≢ y → AreClearByGroups b.table mg.groups x y → ¬ AreSeenByGroups b.table b.listed mg.groups x y → IsListedOfGroups mg.groups (map_of mg.plan) mg.faces.mesh.triangles mg.faces.labels budget x y
  none_seen x y differ (f, k, hx, hy, clear) unseen = record {
    differ = differ;
    some = (f, k, hx, hy, elim (listed_or_not b.listed f k) as (λ _. IsListedOver (map_of mg.plan) mg.faces.mesh.triangles mg.faces.labels budget f k) [ inl l ↦ listed_over p ask mg budget b h f k l | inr n ↦ absurd (unseen (f, k, hx, hy, (clear, n))) ]);
    none = λ i j hi hj. (apart i j hi hj, not_found i j hi hj, not_found_back i j hi hj);
  }
    where
      apart : (i j : ℕ) → IsInGroup mg.groups x i → IsInGroup mg.groups y j → i ≢ j
      apart i j hi hj e = unseen (i, i, hi, subst (λ (n : ℕ). IsInGroup mg.groups y n) (sym e) hj, (own_clear p ask mg budget b h i x hi, own_unlisted p ask mg budget b h i))

      not_found : (i j : ℕ) → IsInGroup mg.groups x i → IsInGroup mg.groups y j → ¬ Found (map_of mg.plan) mg.faces.mesh.triangles mg.faces.labels i j budget
      not_found i j hi hj found = unseen (
        i,
        j,
        hi,
        hj,
        (
          λ bit. blind_pair p ask mg budget b h i j (in_groups p ask mg budget b h i x hi) (in_groups p ask mg budget b h j y hj) bit (found_seen p ask mg budget b h i j found),
          λ l. (listed_over p ask mg budget b h i j l).not_found found,
        ),
      )

      not_found_back : (i j : ℕ) → IsInGroup mg.groups x i → IsInGroup mg.groups y j → ¬ Found (map_of mg.plan) mg.faces.mesh.triangles mg.faces.labels j i budget
      not_found_back i j hi hj found = unseen (
        i,
        j,
        hi,
        hj,
        (
          λ bit. blind_pair p ask mg budget b h i j (in_groups p ask mg budget b h i x hi) (in_groups p ask mg budget b h j y hj) bit (sees_sym (map_of mg.plan) j i (found_seen p ask mg budget b h j i found)),
          λ l. (listed_over p ask mg budget b h i j l).not_found_back found,
        ),
      )

  listed_clear : (x y : ℕ) → IsListedOfGroups mg.groups (map_of mg.plan) mg.faces.mesh.triangles mg.faces.labels budget x y → AreClearByGroups b.table mg.groups x y
  listed_clear x y l =
      let s = l.some in
      let lf = in_groups p ask mg budget b h s.0 x s.2 in
      let lk = in_groups p ask mg budget b h s.1 y s.3 in
      (s.0, s.1, s.2, s.3, λ bit. ((set_exactly p ask mg budget b h s.0 s.1 lf lk).0 bit).1 s.4)

  listed_unseen : (x y : ℕ) → IsListedOfGroups mg.groups (map_of mg.plan) mg.faces.mesh.triangles mg.faces.labels budget x y → ¬ AreSeenByGroups b.table b.listed mg.groups x y
  listed_unseen x y l (f, k, hx, hy, c) =
      let n = l.none f k hx hy in
      c.0 (unseen_set p ask mg budget b h f k (in_groups p ask mg budget b h f x hx) (in_groups p ask mg budget b h k y hy) n.0 n.1 n.2 c.1)

  list_so : (q : Pair) → Contains listed q ↔ ((q.a < q.b) × IsListedByGroups (map_of p) budget q.a q.b)
  list_so q = (
    λ c. let x = (follow.listed q).0 c in (x.0, (is_listed q.a q.b).1 (none_seen q.a q.b (differ q.a q.b x.0) x.2 x.3)),
    λ x. let l = (is_listed q.a q.b).0 x.1 in (follow.listed q).1 (x.0, of_sectors p h.grouped.plan mg.groups h.grouped.groups l.some.1 q.b l.some.3, listed_clear q.a q.b l, listed_unseen q.a q.b l),
  )
    where
      differ : (x y : ℕ) → x < y → x ≢ y
      differ x y lt e = omega (arith, lt, e)

  -- where no pair of groups is listed, no pair of sectors is
  pub nothing_listed : b.listed ≡ [] → listed ≡ []
  nothing_listed none = go listed (λ q c. let l = (is_listed q.a q.b).0 ((list_so q).0 c).1 in empty l.some.0 l.some.1 (over_listed p ask mg budget b h l.some.0 l.some.1 l.some.4))
    where
      empty : (f k : ℕ) → ¬ AreListed b.listed f k
      empty f k (inl c) = contains_none (record { a = f; b = k }) (subst (λ (qs : List Pair). Contains qs (record { a = f; b = k })) none c)
      empty f k (inr c) = contains_none (record { a = k; b = f }) (subst (λ (qs : List Pair). Contains qs (record { a = k; b = f })) none c)

      go : (qs : List Pair) → ((q : Pair) → ¬ Contains qs q) → qs ≡ []
      go [] n = refl
      go (q ∷ qs) n = absurd (n q (contains_here q qs))

  -- ---- what is told of sight

  pub bits_back : (x y : ℕ) → x < p.sectors → y < p.sectors → Rejects table x y → Rejects table y x
  bits_back x y lx ly bit = (follow.bits y x ly lx).1 (λ c. (follow.bits x y lx ly).0 bit (
    c.1,
    c.0,
    c.3,
    c.2,
    clear_back p ask mg budget b h c.0 c.1 (in_groups p ask mg budget b h c.0 y c.2) (in_groups p ask mg budget b h c.1 x c.3) c.4,
  ))

  sees_of : (x y f k : ℕ) → IsInGroup mg.groups x f → IsInGroup mg.groups y k → Sees (map_of mg.plan) f k → Sees (map_of p) x y
  sees_of x y f k hx hy s = (sectors_see_by_groups p h.grouped.plan h.grouped.closed mg.faces.mesh.triangles (mesh_too p ask mg budget b h) mg.groups h.grouped.groups (map_of mg.plan) h.grouped.map x y).1 (f, k, hx, hy, s)

  itself : (x : ℕ) → x < p.sectors → ¬ Rejects table x x → Sees (map_of p) x x
  itself x lx clear =
      let c = follow.clear x x lx lx clear in
      let lf = in_groups p ask mg budget b h c.0 x c.2 in
      sees_of x x c.0 c.0 c.2 c.2 (pair_sees p ask mg budget b h c.0 c.0 lf lf (own_clear p ask mg budget b h c.0 x c.2) (own_unlisted p ask mg budget b h c.0))

  seen_up : (x y : ℕ) → x < y → y < p.sectors → ¬ Rejects table x y → ¬ Contains listed (record { a = x; b = y }) → Sees (map_of p) x y
  seen_up x y lt ly clear unlisted =
      let c = follow.seen x y lt ly clear unlisted in
      sees_of x y c.0 c.1 c.2 c.3 (pair_sees p ask mg budget b h c.0 c.1 (in_groups p ask mg budget b h c.0 x c.2) (in_groups p ask mg budget b h c.1 y c.3) c.4.0 c.4.1)

  module _ (cert : AnyCert) where
    abbrev all : GroupBuilt
    all = record { table = table; listed = listed; cert = cert }

    pub symmetric : IsBuiltSymmetric all
    symmetric x y lx ly = bits_back x y (subst (λ (n : ℕ). x < n) follow.sectors_are lx) (subst (λ (n : ℕ). y < n) follow.sectors_are ly)

    pub decides_by_groups : DecidesByGroups (map_of p) ask all
    decides_by_groups = record { budget = budget; is_budget = budget_of_map (map_of p) mg.groups (map_of mg.plan) h.grouped.map ask budget h.is_budget; bits = bits_so; listed = list_so }

    pub tells_sectors : TellsSectors (map_of p) all
    tells_sectors = record { blind = λ x y lx ly bit. ((bits_so x y lx ly).0 bit).0; seen = λ x y lx ly clear up down. seen x y lx ly clear up down (same_below_or_above x y) }
      where
        seen : (x y : ℕ) → x < p.sectors → y < p.sectors → ¬ Rejects table x y → ¬ Contains listed (record { a = x; b = y }) → ¬ Contains listed (record { a = y; b = x }) → (x ≡ y) ⊎ ((x < y) ⊎ (y < x)) → Sees (map_of p) x y
        seen x y lx ly clear up down (inl e) = subst (λ (n : ℕ). Sees (map_of p) x n) e (itself x lx (subst (λ (n : ℕ). ¬ Rejects table x n) (sym e) clear))
        seen x y lx ly clear up down (inr (inl lt)) = seen_up x y lt ly clear up
        seen x y lx ly clear up down (inr (inr gt)) = sees_sym (map_of p) y x (seen_up y x gt lx (λ bit. clear (bits_back y x ly lx bit)) down)
