-- The certificate of a build by groups: it is in order and accepted, and has the rays and trees that it should.
use Rattle.std.proofs.Common.{◌≡◌, ◌≢◌, ℕ, ◌<◌, ◌≤◌, ◌⊎◌, ◌↔◌, inl, inr, List, length, Contains, Option, refl, sym, ap, ◌∙◌, subst, arith}
use Rattle.std.proofs.lemmas.List.{length-map}
use Rattle.math_base.proofs.Lists.{all_of}
use Rattle.math_base.proofs.Numbers.{same_below_or_above, same_or_below}
use Rattle.sight_names.specs.declared.names.Ask.{Ask}
use Rattle.sight_names.specs.declared.names.Budget.{Budget}
use Rattle.sight_names.specs.declared.names.Pair.{Pair}
use Rattle.sight_names.specs.Plan.{PlanParts}
use Rattle.sight_names.specs.Map.{MapLine, map_of}
use Rattle.sight_names.specs.Table.{Rejected}
use Rattle.sight_names.specs.Found.{AreConnected, Found, Spent}
use Rattle.sight_names.specs.Groups.{IsInGroup, unnamed}
use Rattle.reject_bits.specs.Parts.{TableParts, Rejects}
use Rattle.cert_format.specs.Accepted.{EitherClear, EitherSet, HasRay}
use Rattle.cert_format.specs.Grammar.{IsPairInRange}
use Rattle.cert_format.specs.Sizes.{sizes_of_plan}
use Rattle.cert_format.specs.declared.cert_groups.cert.CertTwo.{CertTwo}
use Rattle.cert_format.specs.declared.cert_groups.cert.AnyCert.{AnyCert}
use Rattle.cert_format.specs.declared.cert_groups.cert.AnyCert.TheVariants.{Two}
use Rattle.cert_format.specs.CertGroups.Grammar.{IsGroupInOrder, IsTwoInOrder, grouped_sizes}
use Rattle.cert_checker.specs.AcceptedGroups.Accepted.{AreGroupsJoined, IsAcceptedTwo, IsGroupedBlind, IsGroupedSeen, IsPairOfList}
use Rattle.face_groups.proofs.GroupsBase.Ordered.{contains_at}
use Rattle.group_job.specs.declared.walked.Built.{Built}
use Rattle.group_job.specs.Built.{FindsConnected, FindsEither, HasRaysOfFound, HasTreeOf, HasTreesOfUnspent, IsGroupBuild, WalkedMap}
use Rattle.group_job.specs.Walked.{AreWalkedGroups}
use Rattle.group_job.specs.declared.grouped.MapOfGroups.{MapOfGroups}
use Rattle.group_job.specs.Sectors.{AreListed, ArePairsBelow, FollowGroups}
use Rattle.group_job.proofs.Finding.{found_or_not}
use Rattle.group_job.proofs.GroupPairs.{agree, blind_pair, clear_back, count, found_seen, good, in_groups, listed_over, lists, low, own_clear, unseen_set}
use Rattle.group_job.proofs.KeptFaces.{kept_names, kept_table}
use Rattle.group_job.proofs.OneWalk.{moved}
use Rattle.group_job.proofs.SectorPairs.{all_set, bits_back, decides_by_groups, nothing_listed, of_sectors, symmetric, tells_sectors}
use Rattle.group_job.proofs.BudgetLaws.{enough_lists_nothing, full_is}

module _ (p : PlanParts) (ask : Ask) (mg : MapOfGroups) (budget : Budget) (b : Built) (h : AreWalkedGroups p ask mg budget b) (table : TableParts) (listed : List Pair) (follow : FollowGroups b.table b.listed mg.groups p.sectors table listed) where
  abbrev pub two : CertTwo
  two = record { groups = mg.groups; cert = b.cert; listed = listed }

  -- ---- the order

  sizes_too : b.cert.sizes ≡ grouped_sizes (sizes_of_plan p) mg.groups
  sizes_too = h.built.sizes ∙ (λ i. record { sectors = h.grouped.map.sectors i; points = length (h.grouped.points i); lines = lines i })
    where
      lines : length mg.plan.lines ≡ length p.lines
      lines =
          sym (length-map mg.plan.lines _)
          ∙ (sym (length-map (map_of mg.plan).lines unnamed) ∙ (ap (λ (xs : List (Option MapLine)). length xs) h.grouped.map.lines ∙ (length-map (map_of p).lines unnamed ∙ length-map p.lines _)))

  group_in_order : (at : List ℕ) → Contains mg.groups at → IsGroupInOrder p.sectors at
  group_in_order at c =
      let e = (h.grouped.groups.exactly at).0 c in
      let x = contains_at mg.groups at c in
      record { some = e.0; below = all_of (λ (a : ℕ). a < p.sectors) at (λ a k. of_sectors p h.grouped.plan mg.groups h.grouped.groups x.0 a (at, x.1, k)); ascend = e.4.ascend }

  pub two_in_order : IsTwoInOrder (sizes_of_plan p) two
  two_in_order = record {
    few = h.grouped.few;
    groups = all_of (IsGroupInOrder p.sectors) mg.groups group_in_order;
    groups_ascend = h.grouped.groups.ascend;
    grouped = sizes_too;
    in_order = h.built.in_order;
    no_pairs = h.built.no_pairs;
    listed = all_of (IsPairInRange (sizes_of_plan p)) listed (λ q c. let x = (follow.listed q).0 c in (x.0, x.1));
    listed_ascend = follow.ascend;
  }

  -- ---- accepted

  set_bit : (x y : ℕ) → x < p.sectors → y < p.sectors → EitherSet p.sectors table.bytes x y → Rejects table x y
  set_bit x y lx ly (inl bit) = subst (λ (n : ℕ). Rejected n table.bytes x y) (sym follow.sectors_are) bit
  set_bit x y lx ly (inr bit) = bits_back p ask mg budget b h table listed follow y x ly lx (subst (λ (n : ℕ). Rejected n table.bytes y x) (sym follow.sectors_are) bit)

  clear_bit : (x y : ℕ) → x < p.sectors → y < p.sectors → EitherClear p.sectors table.bytes x y → ¬ Rejects table x y
  clear_bit x y lx ly (inl clear) bit = clear (subst (λ (n : ℕ). Rejected n table.bytes x y) follow.sectors_are bit)
  clear_bit x y lx ly (inr clear) bit = clear (subst (λ (n : ℕ). Rejected n table.bytes y x) follow.sectors_are (bits_back p ask mg budget b h table listed follow x y lx ly bit))

  lower : (x y : ℕ) → x ≤ y → y < p.sectors → x < p.sectors
  lower x y le ly = omega (arith, le, ly)

  accepted_listed : (x y : ℕ) → x ≤ y → y < p.sectors → IsPairOfList two x y → ¬ EitherSet p.sectors table.bytes x y
  accepted_listed x y le ly there bit = let lx = lower x y le ly in (follow.bits x y lx ly).0 (set_bit x y lx ly bit) ((follow.listed (record { a = x; b = y })).0 there).2

  accepted_set : (x y : ℕ) → x ≤ y → y < p.sectors → EitherSet p.sectors table.bytes x y → IsGroupedBlind (map_of mg.plan) two x y
  accepted_set x y le ly bit f k hx hy =
      let lx = lower x y le ly in
      let set = all_set p ask mg budget b h table listed follow x y ((follow.bits x y lx ly).0 (set_bit x y lx ly bit)) f k hx hy in
      let differ = apart f k hx set in
      (differ, h.built.set f k (low p ask mg budget b h f (in_groups p ask mg budget b h f x hx)) (low p ask mg budget b h k (in_groups p ask mg budget b h k y hy)) differ set)
    where
      apart : (f k : ℕ) → IsInGroup mg.groups x f → Rejects b.table f k → f ≢ k
      apart f k hx set e = own_clear p ask mg budget b h f x hx (subst (λ (n : ℕ). Rejects b.table f n) (sym e) set)

  in_table : (f : ℕ) → f < length mg.groups → f < b.table.n
  in_table f lf = subst (λ (n : ℕ). f < n) (sym (count p ask mg budget b h)) lf

  -- groups whose bit is clear and that aren't listed are one, or there is a ray between them
  joined : (f k : ℕ) → f < length mg.groups → k < length mg.groups → ¬ Rejects b.table f k → ¬ AreListed b.listed f k → AreGroupsJoined b.cert f k
  joined f k lf lk clear none = go (same_below_or_above f k)
    where
      go : (f ≡ k) ⊎ ((f < k) ⊎ (k < f)) → AreGroupsJoined b.cert f k
      go (inl e) = inl e
      go (inr (inl lt)) = inr (inl ((h.built.rays f k lt (in_table k lk)).1 (clear, λ c. none (inl c))))
      go (inr (inr gt)) = inr (inr ((h.built.rays k f gt (in_table f lf)).1 (clear_back p ask mg budget b h f k lf lk clear, λ c. none (inr c))))

  accepted_clear : (x y : ℕ) → x ≤ y → y < p.sectors → EitherClear p.sectors table.bytes x y → ¬ IsPairOfList two x y → IsGroupedSeen two x y
  accepted_clear x y le ly bit none = go (same_or_below x y le)
    where
      lx : x < p.sectors
      lx = lower x y le ly

      clear : ¬ Rejects table x y
      clear = clear_bit x y lx ly bit

      go : (x ≡ y) ⊎ (x < y) → IsGroupedSeen two x y
      go (inl e) =
          let c = follow.clear x y lx ly clear in
          (c.0, c.0, c.2, subst (λ (n : ℕ). IsInGroup mg.groups n c.0) e c.2, inl refl)
      go (inr lt) =
          let c = follow.seen x y lt ly clear none in
          (c.0, c.1, c.2, c.3, joined c.0 c.1 (in_groups p ask mg budget b h c.0 x c.2) (in_groups p ask mg budget b h c.1 y c.3) c.4.0 c.4.1)

  pub accepted : IsAcceptedTwo (map_of p) table.bytes two
  accepted = (
    map_of mg.plan,
    kept_names p h.grouped.plan h.grouped.closed mg.groups h.grouped.groups (map_of mg.plan) h.grouped.map mg.faces.mesh.triangles h.grouped.faces.mesh mg.faces.labels h.grouped.faces.labels b.cert.triangles h.built.kept,
    record {
      table_for = kept_table p h.grouped.plan h.grouped.closed mg.groups h.grouped.groups (map_of mg.plan) h.grouped.map mg.faces.mesh.triangles h.grouped.faces.mesh mg.faces.labels h.grouped.faces.labels b.cert.triangles h.built.kept;
      on = record { rays = h.built.sight_rays; trees = h.built.trees; listed = accepted_listed; set = accepted_set; clear = accepted_clear };
    },
  )

  -- ---- rays and trees

  abbrev own : WalkedMap (map_of p) ask mg.groups
  own = record { g = map_of mg.plan; grouped = h.grouped.map; triangles = mg.faces.mesh.triangles; labels = mg.faces.labels; mesh = h.grouped.faces.mesh; labelled = h.grouped.faces.labels; budget = budget; is_budget = h.is_budget }

  -- where neither is found from the other, and the two aren't listed, their bit is set
  found_of_clear : (f k : ℕ) → f < length mg.groups → k < length mg.groups → f ≢ k → ¬ Rejects b.table f k → ¬ AreListed b.listed f k → FindsEither own f k
  found_of_clear f k lf lk differ clear none = elim (found_or_not (map_of mg.plan) mg.faces.mesh.triangles mg.faces.labels (good p ask mg budget b h) f k budget) as (λ _. FindsEither own f k) [
    | inl found ↦ inl found
    | inr n ↦ elim (found_or_not (map_of mg.plan) mg.faces.mesh.triangles mg.faces.labels (good p ask mg budget b h) k f budget) as (λ _. FindsEither own f k) [
      | inl found ↦ inr found
      | inr m ↦ absurd (clear (unseen_set p ask mg budget b h f k lf lk differ n m none))
    ]
  ]

  ray_of_found : (f k : ℕ) → f < k → k < length mg.groups → HasRay b.cert f k ↔ FindsEither own f k
  ray_of_found f k lt lk = (
    λ r. let x = (h.built.rays f k lt (in_table k lk)).0 r in found_of_clear f k lf lk differ x.0 (λ l. elim l as (λ _. ⊥) [ inl c ↦ x.1 c | inr c ↦ down c ]),
    λ e. (h.built.rays f k lt (in_table k lk)).1 (seen e, λ c. unfound c e),
  )
    where
      lf : f < length mg.groups
      lf = omega (arith, lt, lk)

      differ : f ≢ k
      differ e = omega (arith, lt, e)

      down : ¬ Contains b.listed (record { a = k; b = f })
      down c = let x = ((h.built.decides.listed (record { a = k; b = f })).0 c).0 in omega (arith, lt, x)

      seen : FindsEither own f k → ¬ Rejects b.table f k
      seen (inl found) bit = blind_pair p ask mg budget b h f k lf lk bit (found_seen p ask mg budget b h f k found)
      seen (inr found) bit = clear_back p ask mg budget b h k f lk lf (λ back. blind_pair p ask mg budget b h k f lk lf back (found_seen p ask mg budget b h k f found)) bit

      unfound : Contains b.listed (record { a = f; b = k }) → ¬ FindsEither own f k
      unfound c (inl found) = (listed_over p ask mg budget b h f k (inl c)).not_found found
      unfound c (inr found) = (listed_over p ask mg budget b h f k (inl c)).not_found_back found

  pub rays_of_found : HasRaysOfFound (map_of p) ask two
  rays_of_found w f k lt lk = moved (map_of p) ask mg.groups h.grouped.groups (lists p ask mg budget b h) (agree p ask mg budget b h)
      (λ g ts ls budget. HasRay b.cert f k ↔ (Found g ts ls f k budget ⊎ Found g ts ls k f budget)) own w (ray_of_found f k lt lk)

  tree_of_unspent : (f : ℕ) → f < length mg.groups → ¬ Spent (map_of mg.plan) mg.faces.mesh.triangles mg.faces.labels f budget → HasTreeOf two f ⊎ FindsConnected own f
  tree_of_unspent f lf unspent = elim (h.built.unspent f (low p ask mg budget b h f lf) unspent) as (λ _. HasTreeOf two f ⊎ FindsConnected own f) [
    | inl t ↦ inl t
    | inr sees ↦ inr (λ k lk differ path. found_of_clear f k lf lk differ (sees k (low p ask mg budget b h k lk) differ path) (λ l. unspent (listed_over p ask mg budget b h f k l).spent))
  ]

  pub trees_of_unspent : HasTreesOfUnspent (map_of p) ask two
  trees_of_unspent w f lf = moved (map_of p) ask mg.groups h.grouped.groups (lists p ask mg budget b h) (agree p ask mg budget b h)
      (λ g ts ls budget. ¬ Spent g ts ls f budget → HasTreeOf two f ⊎ ((k : ℕ) → k < length mg.groups → f ≢ k → AreConnected g f k → Found g ts ls f k budget ⊎ Found g ts ls k f budget)) own w (tree_of_unspent f lf)

-- the listed pairs are pairs of groups
pub pairs_below : (p : PlanParts) (ask : Ask) (mg : MapOfGroups) (budget : Budget) (b : Built) → AreWalkedGroups p ask mg budget b → ArePairsBelow b.table.n b.listed
pairs_below p ask mg budget b h q c =
    let x = h.built.below q c in
    let lb : q.b < b.table.n = subst (λ (n : ℕ). q.b < n) (sym h.built.sectors) x.1 in
    (below q.a q.b b.table.n x.0 lb, lb)
  where
    below : (x y n : ℕ) → x < y → y < n → x < n
    below x y n lt ln = omega (arith, lt, ln)

-- ---- all of it

module _ (p : PlanParts) (ask : Ask) (mg : MapOfGroups) (budget : Budget) (b : Built) (h : AreWalkedGroups p ask mg budget b) (table : TableParts) (listed : List Pair) (follow : FollowGroups b.table b.listed mg.groups p.sectors table listed) where
  pub is_group_build : IsGroupBuild p ask (record { table = table; listed = listed; cert = Two (two p ask mg budget b h table listed follow) (sizes_of_plan p) })
  is_group_build =
      let all : AnyCert = Two (two p ask mg budget b h table listed follow) (sizes_of_plan p) in record {
        sectors = follow.sectors_are;
        sizes = refl;
        in_order = two_in_order p ask mg budget b h table listed follow;
        groups = h.grouped.groups;
        listed = refl;
        symmetric = symmetric p ask mg budget b h table listed follow all;
        sight = tells_sectors p ask mg budget b h table listed follow all;
        by_groups = decides_by_groups p ask mg budget b h table listed follow all;
        rays = rays_of_found p ask mg budget b h table listed follow;
        trees = trees_of_unspent p ask mg budget b h table listed follow;
        enough = λ asked. nothing_listed p ask mg budget b h table listed follow (enough_lists_nothing p ask mg budget b h asked);
        whole = λ asked. nothing_listed p ask mg budget b h table listed follow (h.built.full (full_is (map_of mg.plan) ask budget asked h.is_budget));
        accepted = accepted p ask mg budget b h table listed follow;
      }
