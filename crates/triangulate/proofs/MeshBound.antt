-- A mesh has at most twice as many triangles as the map has points: each point is the middle one of at most one triangle on
-- either side of it.
use Rattle.std.proofs.Common.{◌≡◌, ℕ, zero, suc, ◌+◌, ◌*◌, ◌<◌, ◌≤◌, ℤ, pos, ◌+ℤ◌, ◌-ℤ◌, ◌*ℤ◌, ◌<ℤ◌, neg_ℤ, nat_abs, arith, refl, sym, ap, ◌∙◌, subst, ◌⊎◌, inl, inr, List, [], ◌∷◌, length, slice_get, slice_index_or, Some, map, false, true, eqb-true}
use borrow.Author.Differences.{ints}
use lib.Dec.{eqb}
use lib.IntN.{*ℤ-zero}
use Rattle.std.specs.List.{IsDistinct, AllByRecursion, list_any}
use Rattle.std.proofs.lemmas.Bool.{false≢true}
use Rattle.std.proofs.lemmas.Map.Steps.{length-le_from_distinct_below}
use Rattle.math_base.proofs.Quoting.{quoting, by_ring}
use Rattle.math_base.proofs.Signs.{mul-nonneg}
use Rattle.sight_names.specs.declared.names.Pt.{Pt}
use Rattle.sight_names.specs.declared.names.Triangle.{Triangle}
use Rattle.sight_names.specs.Map.{Map, map_of, origin}
use Rattle.sight_names.specs.Plan.{PlanParts, IsPlan, IsBefore}
use Rattle.sight_names.specs.Points.{Edge, points_of, place}
use Rattle.sight_names.specs.Sound.{LinesMeetAtEnds}
use Rattle.sight_names.specs.Greedy.{IsGreedy}
use Rattle.sight_names.specs.Mesh.{AreTriangles, IsMeshTriangle, IsMeshOf}
use Rattle.sight_names.proofs.Lists.{contains_of_get}
use Rattle.sight_names.proofs.PlanMap.{get_at}
use Rattle.sight_names.proofs.PlanNumbers.{place_of_plan, count_of_plan}
use Rattle.plane_base.proofs.Vec.{Lin, at}
use Rattle.mesh_base.proofs.Net.{Net}
use Rattle.mesh_base.proofs.MeshRules.{one_each_edge, middle_first}
use Rattle.mesh_base.proofs.GoodMesh.{PointFacts, pv}
use Rattle.mesh_base.proofs.PlanFacts.{plan_facts}
use Rattle.triangulate.proofs.GreedyNet.{numbers, both, greedy_net}
use Rattle.triangulate.proofs.MeshLaws.{NetTri, net_tri, turned_tri, same_place}
use Rattle.math_base.proofs.Bools.{one_true}
use Rattle.math_base.proofs.Numbers.{tells_other}
use Rattle.math_base.proofs.Small.{neg_of_negated_pos}

-- ---- functionals that rise with the numbers of the points

-- no y is greater, nor is its negative
abbrev spread : List Pt → ℕ
spread [] = 0
spread (p ∷ ps) = nat_abs p.y + spread ps

within_spread : (ps : List Pt) (k : ℕ) → k < length ps → nat_abs (slice_index_or ps k origin).y ≤ spread ps
within_spread [] k h = absurd (omega arith)
within_spread (p ∷ ps) zero h = omega arith
within_spread (p ∷ ps) (suc k) h = let r = within_spread ps k (omega arith) in omega arith

-- by x first: K is greater than each difference of two y
abbrev rising : ℤ → Pt → Lin
rising K p = record { a = K; b = pos 1; c = neg_ℤ (K *ℤ p.x +ℤ p.y) }

abbrev falling : ℤ → Pt → Lin
falling K p = record { a = neg_ℤ K; b = neg_ℤ (pos 1); c = K *ℤ p.x +ℤ p.y }

rise_ring : (K px py qx qy : ℤ) → at (record { a = K; b = pos 1; c = neg_ℤ (K *ℤ px +ℤ py) }) (record { x = qx; y = qy; d = pos 1 }) ≡ K *ℤ (qx -ℤ px) +ℤ (qy -ℤ py)
unfolding at
rise_ring K px py qx qy = by_ring (K ∷ px ∷ py ∷ qx ∷ qy ∷ []) _ _ (search quoting depth 80 fits 1000000) (search quoting depth 80 fits 1000000) tt

fall_ring : (K px py qx qy : ℤ) → at (record { a = neg_ℤ K; b = neg_ℤ (pos 1); c = K *ℤ px +ℤ py }) (record { x = qx; y = qy; d = pos 1 }) ≡ K *ℤ (px -ℤ qx) +ℤ (py -ℤ qy)
unfolding at
fall_ring K px py qx qy = by_ring (K ∷ px ∷ py ∷ qx ∷ qy ∷ []) _ _ (search quoting depth 80 fits 1000000) (search quoting depth 80 fits 1000000) tt

step_ring : (K a b : ℤ) → K *ℤ (b -ℤ a) ≡ K +ℤ K *ℤ (b -ℤ a -ℤ pos 1)
step_ring K a b = by_ring (K ∷ a ∷ b ∷ []) _ _ (search quoting depth 80 fits 1000000) (search quoting depth 80 fits 1000000) tt

later_above : (s : ℕ) (p q : Pt) → IsBefore p q → nat_abs p.y ≤ s → nat_abs q.y ≤ s → pos 0 <ℤ (pos (1 + 2 * s) *ℤ (q.x -ℤ p.x) +ℤ (q.y -ℤ p.y))
later_above s p q (inl less) hp hq = let r = step_ring (pos (1 + 2 * s)) p.x q.x in
    let k = mul-nonneg (pos (1 + 2 * s)) (q.x -ℤ p.x -ℤ pos 1) (omega (arith, ints)) (omega (arith, ints)) in
    let w = apart s p.y q.y hp hq in
    omega (arith, ints)
  where
    apart : (s : ℕ) (a b : ℤ) → nat_abs a ≤ s → nat_abs b ≤ s → pos 0 <ℤ (pos (1 + 2 * s) +ℤ (b -ℤ a))
    apart s a b h k = omega (arith, ints)
later_above s p q (inr same) hp hq =
    let e = same.0 in let l = same.1 in
    let z : q.x -ℤ p.x ≡ pos 0 = omega (arith, ints) in
    let t : pos (1 + 2 * s) *ℤ (q.x -ℤ p.x) ≡ pos 0 = ap (λ (k : ℤ). pos (1 + 2 * s) *ℤ k) z ∙ *ℤ-zero (pos (1 + 2 * s)) in
    omega (arith, ints)

-- the points ascend
abbrev pub Ascending : Map → Type 0
Ascending m = (i j : ℕ) → i < j → j < length (points_of m) → IsBefore (place m i) (place m j)

module _ (m : Map) (up : Ascending m) where
  abbrev steep : ℤ
  steep = pos (1 + 2 * spread (points_of m))

  above : (i j : ℕ) → i < j → j < length (points_of m) → pos 0 <ℤ (steep *ℤ ((place m j).x -ℤ (place m i).x) +ℤ ((place m j).y -ℤ (place m i).y))
  above i j lt hj = later_above (spread (points_of m)) (place m i) (place m j) (up i j lt hj) (within_spread (points_of m) i (omega arith)) (within_spread (points_of m) j hj)

  self_zero : (K x y : ℤ) → K *ℤ (x -ℤ x) +ℤ (y -ℤ y) ≡ pos 0
  self_zero K x y = by_ring (K ∷ x ∷ y ∷ []) _ _ (search quoting depth 80 fits 1000000) (search quoting depth 80 fits 1000000) tt

  back_ring : (K a b c d : ℤ) → K *ℤ (a -ℤ b) +ℤ (c -ℤ d) ≡ neg_ℤ (K *ℤ (b -ℤ a) +ℤ (d -ℤ c))
  back_ring K a b c d = by_ring (K ∷ a ∷ b ∷ c ∷ d ∷ []) _ _ (search quoting depth 80 fits 1000000) (search quoting depth 80 fits 1000000) tt

  rise_self : (j : ℕ) → at (rising steep (place m j)) (pv m j) ≡ pos 0
  rise_self j = rise_ring steep (place m j).x (place m j).y (place m j).x (place m j).y ∙ self_zero steep (place m j).x (place m j).y

  fall_self : (j : ℕ) → at (falling steep (place m j)) (pv m j) ≡ pos 0
  fall_self j = fall_ring steep (place m j).x (place m j).y (place m j).x (place m j).y ∙ self_zero steep (place m j).x (place m j).y

  rise_behind : (j k : ℕ) → j < k → k < length (points_of m) → pos 0 <ℤ at (rising steep (place m j)) (pv m k)
  rise_behind j k lt hk = subst (λ (z : ℤ). pos 0 <ℤ z) (sym (rise_ring steep (place m j).x (place m j).y (place m k).x (place m k).y)) (above j k lt hk)

  fall_before : (j i : ℕ) → i < j → j < length (points_of m) → pos 0 <ℤ at (falling steep (place m j)) (pv m i)
  fall_before j i lt hj = subst (λ (z : ℤ). pos 0 <ℤ z) (sym (fall_ring steep (place m j).x (place m j).y (place m i).x (place m i).y)) (above i j lt hj)

  rise_before : (j i : ℕ) → i < j → j < length (points_of m) → at (rising steep (place m j)) (pv m i) <ℤ pos 0
  rise_before j i lt hj = neg_of_negated_pos _ _ (rise_ring steep (place m j).x (place m j).y (place m i).x (place m i).y ∙ back_ring steep (place m i).x (place m j).x (place m i).y (place m j).y) (above i j lt hj)

  fall_behind : (j k : ℕ) → j < k → k < length (points_of m) → at (falling steep (place m j)) (pv m k) <ℤ pos 0
  fall_behind j k lt hk = neg_of_negated_pos _ _ (fall_ring steep (place m j).x (place m j).y (place m k).x (place m k).y ∙ back_ring steep (place m j).x (place m k).x (place m j).y (place m k).y) (above j k lt hk)

-- ---- the middle point of a triangle, and the side on which it is

abbrev Order : ℕ → ℕ → Type 0
Order x y = (x < y) ⊎ (y ≤ x)

order_of : (x y : ℕ) → Order x y
order_of x y = grind arith

code_by : (t : Triangle) → Order t.q t.r → ℕ
code_by t (inl h) = 2 * t.q
code_by t (inr h) = 2 * t.r + 1

code : Triangle → ℕ
code t = code_by t (order_of t.q t.r)

code_cases : (t : Triangle) → ((t.q < t.r) × (code t ≡ 2 * t.q)) ⊎ ((t.r ≤ t.q) × (code t ≡ 2 * t.r + 1))
unfolding code code_by
code_cases t = go (order_of t.q t.r)
  where
    go : (o : Order t.q t.r) → ((t.q < t.r) × (code_by t o ≡ 2 * t.q)) ⊎ ((t.r ≤ t.q) × (code_by t o ≡ 2 * t.r + 1))
    go (inl h) = inl (h, refl)
    go (inr h) = inr (h, refl)

module _ (m : Map) (f : PointFacts m) (ends : LinesMeetAtEnds m) (up : Ascending m) (kept : List Edge) (g : IsGreedy m kept) where
  net : Net (pv m) (numbers (length (points_of m))) (both kept)
  net = greedy_net m f ends kept g

  turn_once : (a b c : ℕ) → NetTri m f ends kept g a b c → NetTri m f ends kept g b c a
  turn_once a b c t = turned_tri (pv m) (numbers (length (points_of m))) (both kept) net a b c t

  triangle_is : (t u : Triangle) → t.p ≡ u.p → t.q ≡ u.q → t.r ≡ u.r → t ≡ u
  triangle_is t u a b c = λ i. record { p = a i; q = b i; r = c i }

  -- the middle point below the other two
  same_below : (t u : Triangle) → IsMeshTriangle m kept t → IsMeshTriangle m kept u → t.q < t.r → u.q < u.r → t.q ≡ u.q → t ≡ u
  same_below t u ht hu lt lu e =
      let n = length (points_of m) in
      let it = ht.numbers in let iu = hu.numbers in
      let a = turn_once t.p t.q t.r (net_tri m f ends kept g t ht) in
      let b : NetTri m f ends kept g t.q u.r u.p = subst (λ (x : ℕ). NetTri m f ends kept g x u.r u.p) (sym e) (turn_once u.p u.q u.r (net_tri m f ends kept g u hu)) in
      let least = iu.least in
      let r : t.r ≡ u.r = middle_first (pv m) (numbers n) (both kept) net (falling (steep m up) (place m t.q)) t.q t.r t.p u.r u.p (fall_self m up t.q)
      (fall_behind m up t.q t.r lt it.third) (fall_behind m up t.q u.r (omega arith) iu.third)
      (fall_before m up t.q t.p it.least it.second) (fall_before m up t.q u.p (omega arith) it.second) a b in
      let p : t.p ≡ u.p = one_each_edge (pv m) (numbers n) (both kept) net t.q t.r t.p u.p a (subst (λ (x : ℕ). NetTri m f ends kept g t.q x u.p) (sym r) b) in
      triangle_is t u p e r

  -- the middle point above the other two
  same_above : (t u : Triangle) → IsMeshTriangle m kept t → IsMeshTriangle m kept u → t.r ≤ t.q → u.r ≤ u.q → t.r ≡ u.r → t ≡ u
  same_above t u ht hu lt lu e =
      let n = length (points_of m) in
      let it = ht.numbers in let iu = hu.numbers in
      let td = it.differ in let ud = iu.differ in
      let lq : t.r < t.q = less t.r t.q lt (λ x. td (sym x)) in
      let lq2 : u.r < u.q = less u.r u.q lu (λ x. ud (sym x)) in
      let a = turn_once t.q t.r t.p (turn_once t.p t.q t.r (net_tri m f ends kept g t ht)) in
      let b : NetTri m f ends kept g t.r u.p u.q = subst (λ (x : ℕ). NetTri m f ends kept g x u.p u.q) (sym e) (turn_once u.q u.r u.p (turn_once u.p u.q u.r (net_tri m f ends kept g u hu))) in
      let least = iu.least_too in
      let p : t.p ≡ u.p = middle_first (pv m) (numbers n) (both kept) net (rising (steep m up) (place m t.r)) t.r t.p t.q u.p u.q (rise_self m up t.r)
      (rise_before m up t.r t.p it.least_too it.third) (rise_before m up t.r u.p (omega arith) it.third)
      (rise_behind m up t.r t.q lq it.second) (rise_behind m up t.r u.q (omega arith) iu.second) a b in
      let q : t.q ≡ u.q = one_each_edge (pv m) (numbers n) (both kept) net t.r t.p t.q u.q a (subst (λ (x : ℕ). NetTri m f ends kept g t.r x u.q) (sym p) b) in
      triangle_is t u p q e
    where
      less : (x y : ℕ) → x ≤ y → ¬ (x ≡ y) → x < y
      less x y h n = grind arith

  same_code : (t u : Triangle) → IsMeshTriangle m kept t → IsMeshTriangle m kept u → code t ≡ code u → t ≡ u
  same_code t u ht hu e = elim (code_cases t) as (λ _. t ≡ u) [
    | inl a ↦ elim (code_cases u) as (λ _. t ≡ u) [
      | inl b ↦ let a1 = a.1 in let b1 = b.1 in same_below t u ht hu a.0 b.0 (halves t.q u.q (code t) (code u) a1 b1 e)
      | inr b ↦ absurd (odd t.q u.r (code t) (code u) a.1 b.1 e)
    ]
    | inr a ↦ elim (code_cases u) as (λ _. t ≡ u) [
      | inl b ↦ absurd (odd u.q t.r (code u) (code t) b.1 a.1 (sym e))
      | inr b ↦ same_above t u ht hu a.0 b.0 (odd_halves t.r u.r (code t) (code u) a.1 b.1 e)
    ]
  ]
    where
      halves : (x y a b : ℕ) → a ≡ 2 * x → b ≡ 2 * y → a ≡ b → x ≡ y
      halves x y a b h k e = omega arith

      odd_halves : (x y a b : ℕ) → a ≡ 2 * x + 1 → b ≡ 2 * y + 1 → a ≡ b → x ≡ y
      odd_halves x y a b h k e = omega arith

      odd : (x y a b : ℕ) → a ≡ 2 * x → b ≡ 2 * y + 1 → a ≡ b → ⊥
      odd x y a b h k e = omega arith

  code_below : (t : Triangle) → IsMeshTriangle m kept t → code t < 2 * length (points_of m)
  code_below t h =
      let it = h.numbers in let s = it.second in let r = it.third in
      elim (code_cases t) as (λ _. code t < 2 * length (points_of m)) [ inl a ↦ (let e = a.1 in omega arith) | inr a ↦ (let e = a.1 in omega arith) ]

  -- ---- the codes of a list of different triangles

  all_differ : (t : Triangle) (ts : List Triangle) → IsMeshTriangle m kept t → ((k : ℕ) (u : Triangle) → slice_get ts k ≡ Some u → IsMeshTriangle m kept u × ¬ (t ≡ u)) → AllByRecursion (λ y. eqb (code t) y ≡ false) (map code ts)
  all_differ t [] h each = tt
  all_differ t (u ∷ ts) h each =
      let a = each zero u refl in
      (tells_other (code t) (code u) (λ e. a.1 (same_code t u h a.0 e)), all_differ t ts h (λ k v e. each (suc k) v e))

  codes_differ : (ts : List Triangle) → ((k : ℕ) (t : Triangle) → slice_get ts k ≡ Some t → IsMeshTriangle m kept t) → ((i j : ℕ) (t u : Triangle) → i < j → slice_get ts i ≡ Some t → slice_get ts j ≡ Some u → ¬ (t ≡ u)) → IsDistinct eqb (map code ts)
  unfolding IsDistinct
  codes_differ [] each apart = tt
  codes_differ (t ∷ ts) each apart = (
    all_differ t ts (each zero t refl) (λ k u e. (each (suc k) u e, apart zero (suc k) t u (omega arith) refl e)),
    codes_differ ts (λ k u e. each (suc k) u e) (λ i j u v lt p q. apart (suc i) (suc j) u v (omega arith) p q),
  )

  some_code : (q : ℕ) (ts : List Triangle) → ((k : ℕ) (t : Triangle) → slice_get ts k ≡ Some t → IsMeshTriangle m kept t) → list_any (eqb q) (map code ts) ≡ true → q < 2 * length (points_of m)
  some_code q [] each h = absurd (false≢true h)
  some_code q (t ∷ ts) each h = elim (one_true (eqb q (code t)) (list_any (eqb q) (map code ts)) h) as (λ _. q < 2 * length (points_of m)) [
    | inl e ↦ let b = code_below t (each zero t refl) in let s = eqb-true q (code t) e in omega arith
    | inr r ↦ some_code q ts (λ k u e. each (suc k) u e) r
  ]

  pub few_triangles : (ts : List Triangle) → ((k : ℕ) (t : Triangle) → slice_get ts k ≡ Some t → IsMeshTriangle m kept t) → AreTriangles (length (points_of m)) ts → length ts ≤ 2 * length (points_of m)
  few_triangles ts each are =
      let d = codes_differ ts each (λ i j t u lt p q e. let s = same_place (length (points_of m)) ts i j u are (p ∙ ap (λ (x : Triangle). Some x) e) q in omega arith) in
      let b = length-le_from_distinct_below (map code ts) (2 * length (points_of m)) d (λ q h. some_code q ts each h) in
      subst (λ (n : ℕ). n ≤ 2 * length (points_of m)) (map_length ts) b
    where
      map_length : (ts : List Triangle) → length (map code ts) ≡ length ts
      map_length [] = refl
      map_length (t ∷ ts) = let e = map_length ts in omega (arith, e)

-- ---- of a plan's map

pub plan_ascending : (p : PlanParts) → IsPlan p → Ascending (map_of p)
plan_ascending p is i j lt hj =
    let c = count_of_plan p is in
    subst (λ (x : Pt). IsBefore x (place (map_of p) j)) (sym (place_of_plan p is i)) (
    subst (λ (x : Pt). IsBefore (slice_index_or p.points i origin) x) (sym (place_of_plan p is j))
    (is.ascend i j (slice_index_or p.points i origin) (slice_index_or p.points j origin) lt (get_at p.points i (omega arith)) (get_at p.points j (omega arith))))

pub few_in_plan : (p : PlanParts) → IsPlan p → LinesMeetAtEnds (map_of p) → (ts : List Triangle) → IsMeshOf (map_of p) ts → length ts ≤ 2 * length p.points
few_in_plan p is ends ts h =
    let c = count_of_plan p is in
    let b = few_triangles (map_of p) (plan_facts p is) ends (plan_ascending p is) h.kept h.greedy ts (λ k t e. (h.exactly t).0 (contains_of_get ts t k e)) h.triangles in
    omega arith
