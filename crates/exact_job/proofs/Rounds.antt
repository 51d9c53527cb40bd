-- Rounds: what walks found is noted, each round has more rays than the one before, and there are no more than pairs.
use Rattle.std.proofs.Common.{◌≡◌, ◌≢◌, ℕ, ◌+◌, ◌*◌, ◌^◌, ◌<◌, ◌≤◌, ◌⊎◌, inl, inr, List, [], ◌∷◌, ◌++◌, Some, Contains, length, map, take, get_or, refl, sym, ap, ◌∙◌, subst, arith}
use Rattle.std.specs.Prelude.{All, Bool, MatchBool, true, false}
use Rattle.std.specs.List.{slice_get}
use Rattle.std.proofs.lemmas.List.{append_assoc, length-map, map_more, take_all}
use Rattle.std.proofs.lemmas.List.Elements.{All-append, All-contains, All-from_recursion, All-map, Contains-append_left, Contains-append_right}
use Rattle.std.proofs.lemmas.Option.{same_Some, slice_get-get_or, slice_get_within}
use Rattle.math_base.proofs.Bools.{not_both_values}
use Rattle.math_base.proofs.Lists.{all_of, contains_map}
use Rattle.math_base.proofs.Numbers.{below_or_above, below_or_last, below_same_or_above, place_within, row_within}
use Rattle.sight_names.proofs.Lists.{get_of_contains, contains_of_get}
use Rattle.sight_names.proofs.PlanMap.{plan_is_map}
use Rattle.sight_names.specs.declared.names.Pair.{Pair}
use Rattle.sight_names.specs.declared.names.PairRay.{PairRay}
use Rattle.sight_names.specs.declared.names.Triangle.{Triangle}
use Rattle.sight_names.specs.Map.{map_of}
use Rattle.sight_names.specs.Plan.{PlanParts, IsPlan}
use Rattle.sight_names.specs.Ray.{IsInRange, IsSightRay}
use Rattle.mesh_base.proofs.SightLaws.SightLaws.{turned_sight}
use Rattle.face_groups.proofs.TriSectors.GoodLabels.{label_below}
use Rattle.mesh_shape.specs.declared.half_edges.table.HalfEdge.{HalfEdge}
use Rattle.block_evidence.specs.declared.sight_tree.Node.{Node}
use Rattle.portal_walk.specs.Nodes.{IsNodeAnswered}
use Rattle.cert_format.specs.declared.cert.Sizes.{Sizes}
use Rattle.cert_format.specs.Grammar.{IsRayInRange}
use Rattle.cert_checker.specs.Pairs.{IsPairWithin}
use Rattle.cert_checker.specs.Rays.{AreSightRaysBelow}
use Rattle.pair_budget.specs.declared.results.Reached.{Reached}
use Rattle.pair_budget.specs.PairRays.{toward}
use Rattle.pair_budget.specs.Walked.{IsReachedFrom}
use Rattle.pair_budget.proofs.FoundSectorsLaws.{pair_is, toward_down, toward_up}
use Rattle.cert_checker.specs.AcceptedGroups.Accepted.{AreGroupsJoined}
use Rattle.gate_floods.specs.Bits.{is_joined}
use Rattle.gate_floods.proofs.RowBits.{not_joined}
use Rattle.row_trees.specs.declared.made.Made.{Made}
use Rattle.row_trees.specs.Made.{AreFoundSeen}
use Rattle.gate_floods.specs.declared.gate_masks.masks.Row.{Row}
use Rattle.exact_checker.specs.Rows.{AreJoinedRows}
use Rattle.exact_checker.proofs.JoinedRows.{cert_of}
use Rattle.exact_job.specs.declared.settling.Round.{Round}
use Rattle.exact_job.specs.declared.settling.Settled.{Settled}
use Rattle.exact_job.specs.Built.{IsSettled}
use Rattle.found_rays.specs.Rays.{AreFoundInOrder, AreOneEach, IsFoundRay}
use Rattle.exact_job.specs.Rays.{AreRaysInOrder}
use Rattle.exact_job.specs.Rounds.{AreRaysNoted, HasMore, IsSettlingRound}
use Rattle.exact_job.specs.Trees.{AreTreesFor, AreRowWalks, HasFound, HasFoundNothing, nodes_of_walks}
use Rattle.exact_job.proofs.Walks.{nodes_at}
use Rattle.exact_job.proofs.Counting.{Rise, HasKey, few, less}

-- ---- what one walk found

pub is_found : (p : PlanParts) (f : ℕ) (found : List Reached) (x : Reached) → AreFoundSeen p f found → Contains found x → IsFoundRay p (toward f x)
is_found p f found x s c =
    let here = All-contains (IsReachedFrom p f) found x s.reached.each c in
    let sight = All-contains (λ (r : Reached). IsSightRay (map_of p) r.ray f r.to) found x s.sight c in
    elim (below_or_above f x.to (λ e. here.other (sym e))) as (λ _. IsFoundRay p (toward f x)) [
      | inl up ↦ subst (IsFoundRay p) (sym (toward_up f x up)) (record { order = up; first = here.first; last = here.last; sight = sight })
      | inr down ↦ subst (IsFoundRay p) (sym (toward_down f x down)) (record { order = down; first = here.last; last = here.first; sight = turned_sight (map_of p) x.ray f x.to sight })
    ]

pub in_range : (p : PlanParts) (f : ℕ) (found : List Reached) → AreFoundSeen p f found → All (λ (r : Reached). IsInRange r.ray) found
in_range p f found s = All-from_recursion _ found (all_of (λ (r : Reached). IsInRange r.ray) found (λ r c. (All-contains (IsReachedFrom p f) found r s.reached.each c).range))

pub found_more : (p : PlanParts) (f : ℕ) (found : List Reached) (rays : List PairRay) → AreFoundSeen p f found → All (IsFoundRay p) rays → All (IsFoundRay p) (rays ++ map (toward f) found)
found_more p f found rays s old =
    All-append (IsFoundRay p) rays (map (toward f) found) old
    (All-map (IsFoundRay p) (toward f) found (All-from_recursion _ found (all_of (λ (x : Reached). IsFoundRay p (toward f x)) found (λ x c. is_found p f found x s c))))

-- the ray of the next one is noted
pub note_next : (f : Reached → PairRay) (xs : List Reached) (i : ℕ) (d : Reached) (old mid new : List PairRay) (t : PairRay) → i < length xs → mid ≡ old ++ map f (take i xs) → t ≡ f (get_or xs i d) → new ≡ mid ++ t ∷ [] → new ≡ old ++ map f (take (i + 1) xs)
note_next f xs i d old mid new t lt before same is =
    is ∙ ap (λ (ys : List PairRay). ys ++ t ∷ []) before ∙ ap (λ (y : PairRay). (old ++ map f (take i xs)) ++ y ∷ []) same
    ∙ append_assoc old (map f (take i xs)) (f (get_or xs i d) ∷ []) ∙ ap (λ (ys : List PairRay). old ++ ys) (sym (map_more f xs i d lt))

pub note_end : (f : Reached → PairRay) (xs : List Reached) (n : ℕ) (old new : List PairRay) → length xs ≤ n → new ≡ old ++ map f (take n xs) → new ≡ old ++ map f xs
note_end f xs n old new end is = is ∙ ap (λ (ys : List Reached). old ++ map f ys) (take_all n xs end)

-- ---- what all walks found

pub item_at : {X : Type 0} (xs : List X) (i : ℕ) (x : X) → x ≡ get_or xs i x → i < length xs → slice_get xs i ≡ Some x
item_at xs i x is lt = slice_get-get_or xs i x lt ∙ ap (λ y. Some y) (sym is)

-- what the first n walks found is noted
pub record AreNotedBelow (walks : List Made) (n : ℕ) (old new : List PairRay) : Type 0 where
  pub kept : (r : PairRay) → Contains old r → Contains new r
  pub noted : (f : ℕ) (w : Made) (r : Reached) → f < n → slice_get walks f ≡ Some w → Contains w.found.items r → Contains new (toward f r)
  pub found : (p : PlanParts) → ((f : ℕ) (w : Made) → slice_get walks f ≡ Some w → AreFoundSeen p f w.found.items) → All (IsFoundRay p) old → All (IsFoundRay p) new

pub walk_noted : (walks : List Made) (n : ℕ) (w : Made) (old mid new : List PairRay) → slice_get walks n ≡ Some w → AreNotedBelow walks n old mid → new ≡ mid ++ map (toward n) w.found.items → AreNotedBelow walks (n + 1) old new
walk_noted walks n w old mid new at h is = subst (AreNotedBelow walks (n + 1) old) (sym is) (record {
  kept = λ r c. Contains-append_left mid (map (toward n) w.found.items) r (h.kept r c);
  noted = λ f u r lt there c. elim (below_or_last f n lt) as (λ _. Contains (mid ++ map (toward n) w.found.items) (toward f r)) [
    | inl less ↦ Contains-append_left mid (map (toward n) w.found.items) (toward f r) (h.noted f u r less there c)
    | inr e ↦
        let same : u ≡ w = same_Some u w (sym there ∙ ap (slice_get walks) e ∙ at) in
        subst (λ (k : ℕ). Contains (mid ++ map (toward n) w.found.items) (toward k r)) (sym e)
        (Contains-append_right mid (map (toward n) w.found.items) (toward n r) (contains_map (toward n) w.found.items r (subst (λ (v : Made). Contains v.found.items r) same c)))
  ];
  found = λ p seen before. found_more p n w.found.items mid (seen n w at) (h.found p seen before);
})

pub all_noted : (walks : List Made) (n : ℕ) (old new : List PairRay) → length walks ≤ n → AreNotedBelow walks n old new → AreRaysNoted walks old new
all_noted walks n old new end h = record {
  kept = h.kept;
  noted = λ f w r at c. h.noted f w r (let l : f < length walks = slice_get_within walks f w at in omega (arith, l, end)) at c;
  found = h.found;
}

-- ---- rays as numbers

pub found_within : (p : PlanParts) (r : PairRay) → IsPlan p → IsFoundRay p r → r.pair.b < p.sectors
found_within p r plan h = label_below (map_of p) (plan_is_map p plan) r.ray.last h.sight.last r.pair.b h.sight.is_last h.sight.to

abbrev key : ℕ → PairRay → ℕ
key n r = r.pair.a * n + r.pair.b

key_before : (n a b c d : ℕ) → b < n → (a < c) ⊎ ((a ≡ c) × (b < d)) → a * n + b < c * n + d
key_before n a b c d l (inl lt) = let w = row_within a n c lt in omega (arith, w, l)
key_before n a b c d l (inr (e, lt)) = let s : a * n ≡ c * n = ap (λ (x : ℕ). x * n) e in omega (arith, s, lt)

key_same : (n a b c d : ℕ) → b < n → d < n → a * n + b ≡ c * n + d → (a ≡ c) × (b ≡ d)
key_same n a b c d l r e = elim (below_same_or_above a c) as (λ _. (a ≡ c) × (b ≡ d)) [
  | inl lt ↦ absurd (let k = key_before n a b c d l (inl lt) in omega (arith, k, e))
  | inr o ↦ elim o as (λ _. (a ≡ c) × (b ≡ d)) [
    | inl s ↦ (s, (let t : a * n ≡ c * n = ap (λ (x : ℕ). x * n) s in omega (arith, t, e)))
    | inr gt ↦ absurd (let k = key_before n c d a b r (inl gt) in omega (arith, k, e))
  ]
]

-- their pairs are pairs of groups
pub pairs_within : (p : PlanParts) (rays : List PairRay) → IsPlan p → AreFoundInOrder p rays → (i : ℕ) (r : PairRay) → slice_get rays i ≡ Some r → IsPairWithin p.sectors r.pair
pairs_within p rays plan h i r at = let f = h.found r (contains_of_get rays r i at) in (f.order, found_within p r plan f)

-- one for each pair of those that are found
pub first_in_order : (p : PlanParts) (found rays : List PairRay) → All (IsFoundRay p) found → AreOneEach found rays → AreFoundInOrder p rays
first_in_order p found rays all each = record { found = λ r c. All-contains (IsFoundRay p) found r all (each.from r c); ascend = each.ascend }

module _ (p : PlanParts) (plan : IsPlan p) where
  rise : (rays : List PairRay) → AreFoundInOrder p rays → Rise (key p.sectors) rays
  rise rays h i j x y lt at_x at_y = key_before p.sectors x.pair.a x.pair.b y.pair.a y.pair.b (found_within p x plan (h.found x (contains_of_get rays x i at_x))) (h.ascend i j x y lt at_x at_y)

  -- at most one for each pair
  pub few_rays : (rays : List PairRay) → AreFoundInOrder p rays → length rays ≤ p.sectors * p.sectors
  few_rays rays h =
      let all = few (key p.sectors) rays 0 (p.sectors * p.sectors) (omega arith) (rise rays h) (λ i x at.
      let f = h.found x (contains_of_get rays x i at) in
      let r = found_within p x plan f in
      let l = f.order in
      (omega arith, place_within x.pair.a x.pair.b p.sectors (omega (arith, l, r)) r)) in
      omega (arith, all)

  -- ---- more rays

  module _ (ts : List Triangle) (xs : List HalfEdge) (round : Round) (is : IsSettlingRound p ts xs round) (mid rays : List PairRay) (noted : AreRaysNoted round.walks.items round.rays.items mid) (each : AreOneEach mid rays) where
    all_found : All (IsFoundRay p) mid
    all_found = noted.found p is.walks.seen (All-from_recursion (IsFoundRay p) round.rays.items (all_of (IsFoundRay p) round.rays.items is.rays.found))

    in_order : AreFoundInOrder p rays
    in_order = first_in_order p mid rays all_found each

    kept_key : (v : ℕ) → HasKey (key p.sectors) round.rays.items v → HasKey (key p.sectors) rays v
    kept_key v (i, x, at, e) =
        let w = each.pairs x (noted.kept x (contains_of_get round.rays.items x i at)) in
        (w.1.0, w.0, get_of_contains rays w.0 w.1.0 w.1.1 w.1.2, ap (λ (q : Pair). q.a * p.sectors + q.b) w.2 ∙ e)

    first_in : (found : List Reached) → found ≢ [] → (x : Reached) × Contains found x
    first_in [] none = absurd (none refl)
    first_in (x ∷ found) some = (x, contains_of_get (x ∷ found) x 0 refl)

    module _ (f : ℕ) (w : Made) (at : slice_get round.walks.items f ≡ Some w) (x : Reached) (has : Contains w.found.items x) where
      new_ray : IsFoundRay p (toward f x)
      new_ray = is_found p f w.found.items x (is.walks.seen f w at) has

      new_key : HasKey (key p.sectors) rays (key p.sectors (toward f x))
      new_key = let u = each.pairs (toward f x) (noted.noted f w x at has) in (u.1.0, u.0, get_of_contains rays u.0 u.1.0 u.1.1 u.1.2, ap (λ (q : Pair). q.a * p.sectors + q.b) u.2)

      joined_by : (r : PairRay) → Contains round.rays.items r → (r.pair.a ≡ (toward f x).pair.a) × (r.pair.b ≡ (toward f x).pair.b) → AreGroupsJoined (cert_of round.rays.items) f x.to
      joined_by r c (e, h) =
          let other = (All-contains (IsReachedFrom p f) w.found.items x (is.walks.seen f w at).reached.each has).other in
          elim (below_or_above f x.to (λ q. other (sym q))) as (λ _. AreGroupsJoined (cert_of round.rays.items) f x.to) [
            | inl up ↦ let t = toward_up f x up in inr (inl (r, c, pair_is r.pair f x.to (e ∙ ap (λ (s : PairRay). s.pair.a) t) (h ∙ ap (λ (s : PairRay). s.pair.b) t)))
            | inr down ↦ let t = toward_down f x down in inr (inr (r, c, pair_is r.pair x.to f (e ∙ ap (λ (s : PairRay). s.pair.a) t) (h ∙ ap (λ (s : PairRay). s.pair.b) t)))
          ]

      no_key : ¬ HasKey (key p.sectors) round.rays.items (key p.sectors (toward f x))
      no_key (i, r, there, e) =
          let c = contains_of_get round.rays.items r i there in
          let same = key_same p.sectors r.pair.a r.pair.b (toward f x).pair.a (toward f x).pair.b (found_within p r plan (is.rays.found r c)) (found_within p (toward f x) plan new_ray) e in
          let none = All-contains (λ (y : Reached). is_joined round.rays.items f y.to ≡ false) w.found.items x (is.walks.unjoined round.rays.items is.joined f w at) has in
          not_joined (cert_of round.rays.items) f x.to none (joined_by r c same)

    more : HasFound round.walks.items → length round.rays.items < length rays
    more h =
        let x = first_in h.walk.found.items h.some in
        less (key p.sectors) round.rays.items rays (rise round.rays.items is.rays) (rise rays in_order) kept_key (key p.sectors (toward h.f x.0)) (new_key h.f h.walk h.there x.0 x.1) (no_key h.f h.walk h.there x.0 x.1)

    pub has_more : HasMore p round rays
    has_more = record { in_order = in_order; more = more }

-- ---- what a test tells

pub told_true : (b : Bool) (A B : Type 0) → b ≡ true → MatchBool b A B → A
told_true true A B e h = h
told_true false A B e h = absurd (not_both_values false e refl)

pub told_not : (b : Bool) (A B : Type 0) → b ≡ false → MatchBool b A B → B
told_not false A B e h = h
told_not true A B e h = absurd (not_both_values true refl e)

-- ---- the end

sides_in_range : (p : PlanParts) → IsPlan p → (n : ℕ) → n < length p.lines → n < 2 ^ 15
sides_in_range p plan n h = let k = plan.few_lines in omega (arith, h, k)

rays_in_order : (p : PlanParts) (sizes : Sizes) (rays : List PairRay) → IsPlan p → sizes.sectors ≡ p.sectors → sizes.lines ≡ length p.lines → AreFoundInOrder p rays → AreRaysInOrder sizes rays
rays_in_order p sizes rays plan sectors lines h = record {
  range = all_of (IsRayInRange sizes) rays (λ r c.
      let f = h.found r c in
      let b = found_within p r plan f in
      let s = f.first in
      let t = f.last in
      ((f.order, omega (arith, b, sectors)), (omega (arith, s, lines), sides_in_range p plan r.ray.first.line s), (omega (arith, t, lines), sides_in_range p plan r.ray.last.line t)));
  ascend = h.ascend;
}

-- the walks' rays are in range
pub ranges : (p : PlanParts) (ts : List Triangle) (xs : List HalfEdge) (joined : List Row) (walks : List Made) → AreRowWalks p ts xs joined walks → (f : ℕ) (w : Made) → slice_get walks f ≡ Some w → All (λ (r : Reached). IsInRange r.ray) w.found.items
ranges p ts xs joined walks h f w at = in_range p f w.found.items (h.seen f w at)

pub ranges_same : (walks same : List Made) → same ≡ walks → ((f : ℕ) (w : Made) → slice_get walks f ≡ Some w → All (λ (r : Reached). IsInRange r.ray) w.found.items) → (f : ℕ) (w : Made) → slice_get same f ≡ Some w → All (λ (r : Reached). IsInRange r.ray) w.found.items
ranges_same walks same e h f w at = h f w (ap (λ (ws : List Made). slice_get ws f) (sym e) ∙ at)

module _ (p : PlanParts) (ts : List Triangle) (xs : List HalfEdge) (round : Round) (is : IsSettlingRound p ts xs round) (nothing : HasFoundNothing round.walks.items) where
  trees_are : AreTreesFor p ts xs round.joined.items (nodes_of_walks round.walks.items)
  trees_are = record {
    one_each = length-map round.walks.items (λ (w : Made). w.nodes) ∙ is.walks.one_each;
    nodes = λ f ns at. let w = nodes_at round.walks.items f ns at in subst (λ (us : List Node). All IsNodeAnswered us) w.2 (is.walks.nodes f w.0 w.1);
    keep = is.walks.keep nothing;
  }

  pub is_settled : (sizes : Sizes) (s : Settled) → IsPlan p → sizes.sectors ≡ p.sectors → sizes.lines ≡ length p.lines → s.rays.items ≡ round.rays.items → s.joined.items ≡ round.joined.items → s.trees.items ≡ nodes_of_walks round.walks.items → IsSettled p ts xs sizes s
  is_settled sizes s plan sectors lines rays joined trees = record {
    rays = subst (AreRaysInOrder sizes) (sym rays) (rays_in_order p sizes round.rays.items plan sectors lines is.rays);
    joined = subst (λ (rs : List PairRay). AreJoinedRows p.sectors rs s.joined.items) (sym rays) (subst (AreJoinedRows p.sectors round.rays.items) (sym joined) is.joined);
    sight = subst (λ (rs : List PairRay). AreSightRaysBelow (map_of p) rs (length rs)) (sym rays) (λ i r lt at. (is.rays.found r (contains_of_get round.rays.items r i at)).sight);
    trees = subst (λ (js : List Row). AreTreesFor p ts xs js s.trees.items) (sym joined) (subst (AreTreesFor p ts xs round.joined.items) (sym trees) trees_are);
  }
