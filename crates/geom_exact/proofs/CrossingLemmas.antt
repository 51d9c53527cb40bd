-- Where a ray's line crosses a segment, and which of two crossings comes first.
use Rattle.std.proofs.Common.{◌<◌, ℤ, pos, negsuc, nat_abs, ◌+ℤ◌, ◌-ℤ◌, ◌*ℤ◌, neg_ℤ, ◌<ℤ◌, ◌≡◌, [], ◌∷◌, arith, refl, sym, ap, ◌∙◌, subst, inl, inr, int_cmp, Less, Equal, Greater}
use Rattle.std.proofs.lemmas.Int.{ints}
use Rattle.math_base.proofs.Quoting.{quoting, by_ring, combine1, combine2, combine3}
use Rattle.math_base.proofs.Signs.{mul-pos, same-of-mul, sign_cases, zero-of-mul, pos-of-mul}
use Rattle.math_base.proofs.MoreSigns.{mul-neg, mul-both_neg, neg-of-mul}
use Rattle.sight_names.specs.declared.names.Pt.{Pt}
use Rattle.sight_names.specs.declared.names.Ray.{Ray}
use Rattle.sight_names.specs.Point.{Point, point_of}
use Rattle.sight_names.specs.Ray.{ray_value, along}
use Rattle.geom_exact.specs.Formulas.{turn_of, side_value, AreOnOneSide, AreOnTwoSides}
use Rattle.geom_exact.specs.Crossings.{IsCrossingOf, IsCrossOrder}
use Rattle.geom_exact.proofs.SegmentLemmas.{on, segment, other_way, IsWeighted}
use Rattle.math_base.proofs.Small.{nonneg_of_pos, nonneg_of_neg, cross_weights, zero_by_second, some_square}
use Rattle.sight_names.proofs.Portals.{scale_above}

-- b * x - a * y at the point: how far along the ray it is
unfoldable forward : Ray → Pt → ℤ
forward ray p = along ray (point_of p)

-- the side of a mean is the mean of the sides
mean_side : (ray : Ray) (p q : Pt) (m n : ℤ) (z : Point) → IsWeighted p q m n z → (m +ℤ n) *ℤ ray_value ray z ≡ pos z.d *ℤ (m *ℤ side_value ray p +ℤ n *ℤ side_value ray q)
unfolding side_value
mean_side ray p q m n z h =
    combine2 ray.a ray.b h.x h.y
    (by_ring (ray.a ∷ ray.b ∷ ray.c ∷ p.x ∷ p.y ∷ q.x ∷ q.y ∷ m ∷ n ∷ z.x ∷ z.y ∷ pos z.d ∷ []) _ _ (search quoting depth 60 fits 200000) (search quoting depth 60 fits 200000) tt)

mean_advance : (ray : Ray) (p q : Pt) (m n : ℤ) (z : Point) → IsWeighted p q m n z → (m +ℤ n) *ℤ along ray z ≡ pos z.d *ℤ (m *ℤ forward ray p +ℤ n *ℤ forward ray q)
unfolding forward
mean_advance ray p q m n z h =
    combine2 ray.b (neg_ℤ ray.a) h.x h.y
    (by_ring (ray.a ∷ ray.b ∷ p.x ∷ p.y ∷ q.x ∷ q.y ∷ m ∷ n ∷ z.x ∷ z.y ∷ pos z.d ∷ []) _ _ (search quoting depth 60 fits 200000) (search quoting depth 60 fits 200000) tt)

-- with g, h along and s, t beside: m s + n t = 0 puts the mean at (s h - t g) / (s - t)
placed : (m n d v s t g h : ℤ) → d *ℤ (m *ℤ s +ℤ n *ℤ t) ≡ pos 0 → (m +ℤ n) *ℤ v ≡ d *ℤ (m *ℤ g +ℤ n *ℤ h) → (m +ℤ n) *ℤ (v *ℤ (s -ℤ t)) ≡ (m +ℤ n) *ℤ (d *ℤ (s *ℤ h -ℤ t *ℤ g))
placed m n d v s t g h z e = combine2 (g -ℤ h) (s -ℤ t) z e (by_ring (m ∷ n ∷ d ∷ v ∷ s ∷ t ∷ g ∷ h ∷ []) _ _ (search quoting depth 60 fits 200000) (search quoting depth 60 fits 200000) tt)

crossing_place : (ray : Ray) (p q : Pt) (z : Point) → IsCrossingOf ray p q z → along ray z *ℤ (side_value ray p -ℤ side_value ray q) ≡ pos z.d *ℤ (side_value ray p *ℤ forward ray q -ℤ side_value ray q *ℤ forward ray p)
crossing_place ray p q z h =
    let g = on p q z h.0 in let m = g.0 in let n = g.1 in let k = g.2 in
    same-of-mul (m +ℤ n) _ _ k.weighted
    (placed m n (pos z.d) (along ray z) (side_value ray p) (side_value ray q) (forward ray p) (forward ray q)
    (sym (mean_side ray p q m n z k) ∙ zero_by_second (m +ℤ n) (ray_value ray z) h.1)
    (mean_advance ray p q m n z k))

-- the side of l1 times the turn of l2
abbrev pub turned : Ray → Pt → Pt → Pt → Pt → ℤ
turned ray m1 m2 l1 l2 = side_value ray l1 *ℤ turn_of m1 m2 l2

-- the two places, p / k and q / l, are as far apart as the turns say
places_apart : (ray : Ray) (l1 l2 m1 m2 : Pt) → (side_value ray l1 *ℤ forward ray l2 -ℤ side_value ray l2 *ℤ forward ray l1) *ℤ (side_value ray m1 -ℤ side_value ray m2) -ℤ (side_value ray m1 *ℤ forward ray m2 -ℤ side_value ray m2 *ℤ forward ray m1) *ℤ (side_value ray l1 -ℤ side_value ray l2)
    ≡ (ray.a *ℤ ray.a +ℤ ray.b *ℤ ray.b) *ℤ (turned ray m1 m2 l1 l2 -ℤ turned ray m1 m2 l2 l1)
unfolding side_value forward turn_of
places_apart ray l1 l2 m1 m2 =
    by_ring (ray.a ∷ ray.b ∷ ray.c ∷ l1.x ∷ l1.y ∷ l2.x ∷ l2.y ∷ m1.x ∷ m1.y ∷ m2.x ∷ m2.y ∷ []) _ _ (search quoting depth 60 fits 200000) (search quoting depth 60 fits 200000) tt

apart : (v w d e p q k l r x y : ℤ) → v *ℤ k ≡ d *ℤ p → w *ℤ l ≡ e *ℤ q → p *ℤ l -ℤ q *ℤ k ≡ r *ℤ (x -ℤ y) → (k *ℤ l) *ℤ (v *ℤ e -ℤ w *ℤ d) ≡ (d *ℤ e *ℤ r) *ℤ (x -ℤ y)
apart v w d e p q k l r x y f g h = combine3 (l *ℤ e) (neg_ℤ (k *ℤ d)) (d *ℤ e) f g h (by_ring (v ∷ w ∷ d ∷ e ∷ p ∷ q ∷ k ∷ l ∷ r ∷ x ∷ y ∷ []) _ _ (search quoting depth 60 fits 200000) (search quoting depth 60 fits 200000) tt)

crossings_apart : (ray : Ray) (l1 l2 m1 m2 : Pt) (z w : Point) → IsCrossingOf ray l1 l2 z → IsCrossingOf ray m1 m2 w → ((side_value ray l1 -ℤ side_value ray l2) *ℤ (side_value ray m1 -ℤ side_value ray m2)) *ℤ (along ray z *ℤ pos w.d -ℤ along ray w *ℤ pos z.d)
    ≡ (pos z.d *ℤ pos w.d *ℤ (ray.a *ℤ ray.a +ℤ ray.b *ℤ ray.b)) *ℤ (turned ray m1 m2 l1 l2 -ℤ turned ray m1 m2 l2 l1)
crossings_apart ray l1 l2 m1 m2 z w c d =
    apart (along ray z) (along ray w) (pos z.d) (pos w.d) _ _ _ _ (ray.a *ℤ ray.a +ℤ ray.b *ℤ ray.b) (turned ray m1 m2 l1 l2) (turned ray m1 m2 l2 l1)
    (crossing_place ray l1 l2 z c) (crossing_place ray m1 m2 w d) (places_apart ray l1 l2 m1 m2)

-- a ray with points on both sides has a direction
level : (ray : Ray) (p q : Pt) → ray.a ≡ pos 0 → ray.b ≡ pos 0 → side_value ray p -ℤ side_value ray q ≡ pos 0
unfolding side_value
level ray p q e f = combine2 (p.x -ℤ q.x) (p.y -ℤ q.y) e f (by_ring (ray.a ∷ ray.b ∷ ray.c ∷ p.x ∷ p.y ∷ q.x ∷ q.y ∷ []) _ _ (search quoting depth 60 fits 200000) (search quoting depth 60 fits 200000) tt)

some_way : (ray : Ray) (p q : Pt) → AreOnTwoSides (side_value ray p) (side_value ray q) → pos 0 <ℤ (ray.a *ℤ ray.a +ℤ ray.b *ℤ ray.b)
some_way ray p q two = some_square ray.a ray.b (λ h. not_level _ _ two (level ray p q h.0 h.1))
  where
    not_level : (s t : ℤ) → AreOnTwoSides s t → s -ℤ t ≡ pos 0 → ⊥
    not_level s t (inl h) e = omega (arith, ints, h.0, h.1)
    not_level s t (inr h) e = omega (arith, ints, h.0, h.1)

-- ---- the order of two numbers, by another two that are as far apart but for a factor
less : (a b : ℤ) → a <ℤ b → int_cmp a b ≡ Less
less a b h = grind (arith, ints)

greater : (a b : ℤ) → b <ℤ a → int_cmp a b ≡ Greater
greater a b h = grind (arith, ints)

equal : (a b : ℤ) → a ≡ b → int_cmp a b ≡ Equal
equal a b h = grind (arith, ints)

same_order : (k q a b x y : ℤ) → pos 0 <ℤ k → pos 0 <ℤ q → k *ℤ (a -ℤ b) ≡ q *ℤ (x -ℤ y) → int_cmp x y ≡ int_cmp a b
same_order k q a b x y hk hq e = elim (sign_cases (a -ℤ b)) as (λ _. int_cmp x y ≡ int_cmp a b) [
  | inl g ↦
      let n = neg-of-mul q (x -ℤ y) hq (subst (λ (t : ℤ). t <ℤ pos 0) e (mul-neg k (a -ℤ b) hk g)) in
      less x y (omega (arith, ints)) ∙ sym (less a b (omega (arith, ints)))
  | inr (inl g) ↦
      let n = zero-of-mul q (x -ℤ y) hq (sym e ∙ zero_by_second k (a -ℤ b) g) in
      equal x y (omega (arith, ints)) ∙ sym (equal a b (omega (arith, ints)))
  | inr (inr g) ↦
      let n = pos-of-mul q (x -ℤ y) hq (subst (λ (t : ℤ). pos 0 <ℤ t) e (mul-pos k (a -ℤ b) hk g)) in
      greater x y (omega (arith, ints)) ∙ sym (greater a b (omega (arith, ints)))
]

-- with a, b on two sides and s, t too
one_way : (a b s t q u v x y : ℤ) → AreOnTwoSides a b → AreOnTwoSides s t → AreOnOneSide a s → pos 0 <ℤ q → ((a -ℤ b) *ℤ (s -ℤ t)) *ℤ (u -ℤ v) ≡ q *ℤ (x -ℤ y) → int_cmp x y ≡ int_cmp u v
one_way a b s t q u v x y l m one h = same_order ((a -ℤ b) *ℤ (s -ℤ t)) q u v x y (above l m one) h
  where
    above : AreOnTwoSides a b → AreOnTwoSides s t → AreOnOneSide a s → pos 0 <ℤ ((a -ℤ b) *ℤ (s -ℤ t))
    above (inl h) (inl k) one = mul-pos (a -ℤ b) (s -ℤ t) (omega (arith, ints, h.0, h.1)) (omega (arith, ints, k.0, k.1))
    above (inr h) (inr k) one = mul-both_neg (a -ℤ b) (s -ℤ t) (omega (arith, ints, h.0, h.1)) (omega (arith, ints, k.0, k.1))
    above (inl h) (inr k) (inl o) = absurd (omega (arith, ints, k.0, o.1))
    above (inl h) (inr k) (inr o) = absurd (omega (arith, ints, h.0, o.0))
    above (inr h) (inl k) (inl o) = absurd (omega (arith, ints, h.0, o.0))
    above (inr h) (inl k) (inr o) = absurd (omega (arith, ints, k.0, o.1))

two_ways : (a b s t q u v x y : ℤ) → AreOnTwoSides a b → AreOnTwoSides s t → ¬ AreOnOneSide a s → pos 0 <ℤ q → ((a -ℤ b) *ℤ (s -ℤ t)) *ℤ (u -ℤ v) ≡ q *ℤ (x -ℤ y) → int_cmp y x ≡ int_cmp u v
two_ways a b s t q u v x y l m one h e = same_order ((a -ℤ b) *ℤ (t -ℤ s)) q u v y x (above l m one) h (flipped e)
  where
    above : AreOnTwoSides a b → AreOnTwoSides s t → ¬ AreOnOneSide a s → pos 0 <ℤ ((a -ℤ b) *ℤ (t -ℤ s))
    above (inl h) (inr k) one = mul-pos (a -ℤ b) (t -ℤ s) (omega (arith, ints, h.0, h.1)) (omega (arith, ints, k.0, k.1))
    above (inr h) (inl k) one = mul-both_neg (a -ℤ b) (t -ℤ s) (omega (arith, ints, h.0, h.1)) (omega (arith, ints, k.0, k.1))
    above (inl h) (inl k) one = absurd (one (inl (h.0, k.0)))
    above (inr h) (inr k) one = absurd (one (inr (h.0, k.0)))

    flipped : ((a -ℤ b) *ℤ (s -ℤ t)) *ℤ (u -ℤ v) ≡ q *ℤ (x -ℤ y) → ((a -ℤ b) *ℤ (t -ℤ s)) *ℤ (u -ℤ v) ≡ q *ℤ (y -ℤ x)
    flipped e = combine1 (negsuc 0) e (by_ring (a ∷ b ∷ s ∷ t ∷ q ∷ u ∷ v ∷ x ∷ y ∷ []) _ _ (search quoting depth 60 fits 200000) (search quoting depth 60 fits 200000) tt)

scale : (ray : Ray) (p q : Pt) (z w : Point) → AreOnTwoSides (side_value ray p) (side_value ray q) → pos 0 <ℤ (pos z.d *ℤ pos w.d *ℤ (ray.a *ℤ ray.a +ℤ ray.b *ℤ ray.b))
scale ray p q z w two = mul-pos (pos z.d *ℤ pos w.d) (ray.a *ℤ ray.a +ℤ ray.b *ℤ ray.b) (mul-pos (pos z.d) (pos w.d) (scale_above z) (scale_above w)) (some_way ray p q two)

-- the ray finds l1 and m1 on one side
pub order_one_way : (ray : Ray) (l1 l2 m1 m2 : Pt) → AreOnTwoSides (side_value ray l1) (side_value ray l2) → AreOnTwoSides (side_value ray m1) (side_value ray m2) → AreOnOneSide (side_value ray l1) (side_value ray m1)
    → IsCrossOrder ray l1 l2 m1 m2 (int_cmp (turned ray m1 m2 l1 l2) (turned ray m1 m2 l2 l1))
order_one_way ray l1 l2 m1 m2 l m one z w c d =
    one_way (side_value ray l1) (side_value ray l2) (side_value ray m1) (side_value ray m2) (pos z.d *ℤ pos w.d *ℤ (ray.a *ℤ ray.a +ℤ ray.b *ℤ ray.b)) (along ray z *ℤ pos w.d) (along ray w *ℤ pos z.d) (turned ray m1 m2 l1 l2) (turned ray m1 m2 l2 l1)
    l m one (scale ray l1 l2 z w l) (crossings_apart ray l1 l2 m1 m2 z w c d)

-- the ray finds them on two sides
pub order_two_ways : (ray : Ray) (l1 l2 m1 m2 : Pt) → AreOnTwoSides (side_value ray l1) (side_value ray l2) → AreOnTwoSides (side_value ray m1) (side_value ray m2) → ¬ AreOnOneSide (side_value ray l1) (side_value ray m1)
    → IsCrossOrder ray l1 l2 m1 m2 (int_cmp (turned ray m1 m2 l2 l1) (turned ray m1 m2 l1 l2))
order_two_ways ray l1 l2 m1 m2 l m one z w c d =
    two_ways (side_value ray l1) (side_value ray l2) (side_value ray m1) (side_value ray m2) (pos z.d *ℤ pos w.d *ℤ (ray.a *ℤ ray.a +ℤ ray.b *ℤ ray.b)) (along ray z *ℤ pos w.d) (along ray w *ℤ pos z.d) (turned ray m1 m2 l1 l2) (turned ray m1 m2 l2 l1)
    l m one (scale ray l1 l2 z w l) (crossings_apart ray l1 l2 m1 m2 z w c d)

cross_straight : (a b c px py qx qy s t d : ℤ) → s ≡ a *ℤ px +ℤ b *ℤ py +ℤ c *ℤ pos 1 → t ≡ a *ℤ qx +ℤ b *ℤ qy +ℤ c *ℤ pos 1 → d ≡ s -ℤ t → a *ℤ (s *ℤ qx -ℤ t *ℤ px) +ℤ b *ℤ (s *ℤ qy -ℤ t *ℤ py) +ℤ c *ℤ d ≡ pos 0
cross_straight a b c px py qx qy s t d h k e =
    combine3 t (neg_ℤ s) c h k e
    (by_ring (a ∷ b ∷ c ∷ px ∷ py ∷ qx ∷ qy ∷ s ∷ t ∷ d ∷ []) _ _ (search quoting depth 60 fits 200000) (search quoting depth 60 fits 200000) tt)

side_is : (ray : Ray) (p : Pt) → side_value ray p ≡ ray.a *ℤ p.x +ℤ ray.b *ℤ p.y +ℤ ray.c *ℤ pos 1
unfolding side_value
side_is ray p = refl

pub side_sum : (ray : Ray) (p : Pt) → side_value ray p ≡ ray.a *ℤ p.x +ℤ ray.b *ℤ p.y +ℤ ray.c
side_sum ray p = side_is ray p ∙ by_ring (ray.a ∷ ray.b ∷ ray.c ∷ p.x ∷ p.y ∷ []) _ _ (search quoting depth 60 fits 200000) (search quoting depth 60 fits 200000) tt

crossed : (ray : Ray) (p q : Pt) → pos 0 <ℤ side_value ray p → side_value ray q <ℤ pos 0 → (z : Point) × IsCrossingOf ray p q z
crossed ray p q h k =
    let s = side_value ray p in
    let t = side_value ray q in
    let z : Point = record { x = s *ℤ q.x -ℤ t *ℤ p.x; y = s *ℤ q.y -ℤ t *ℤ p.y; d = nat_abs (s -ℤ t); positive = some s t h k } in
    let e = abs_is s t h k in (
      z,
      (
        segment p q z (
          neg_ℤ t,
          s,
          record {
            first = nonneg_of_neg t k;
            second = nonneg_of_pos s h;
            weighted = turned s t h k;
            x = cross_weights s t p.x q.x ∙ ap (λ (d : ℤ). d *ℤ (neg_ℤ t *ℤ p.x +ℤ s *ℤ q.x)) (sym e);
            y = cross_weights s t p.y q.y ∙ ap (λ (d : ℤ). d *ℤ (neg_ℤ t *ℤ p.y +ℤ s *ℤ q.y)) (sym e);
          },
        ),
        cross_straight ray.a ray.b ray.c p.x p.y q.x q.y s t (pos (nat_abs (s -ℤ t))) (side_is ray p) (side_is ray q) e,
      ),
    )
  where
    some : (a b : ℤ) → pos 0 <ℤ a → b <ℤ pos 0 → 0 < nat_abs (a -ℤ b)
    some a b h k = omega (arith, ints)

    abs_is : (a b : ℤ) → pos 0 <ℤ a → b <ℤ pos 0 → pos (nat_abs (a -ℤ b)) ≡ a -ℤ b
    abs_is a b h k = omega (arith, ints)

    turned : (a b : ℤ) → pos 0 <ℤ a → b <ℤ pos 0 → pos 0 <ℤ (neg_ℤ b +ℤ a)
    turned a b h k = omega (arith, ints)

pub crossing_exists : (ray : Ray) (p q : Pt) → AreOnTwoSides (side_value ray p) (side_value ray q) → (z : Point) × IsCrossingOf ray p q z
crossing_exists ray p q (inl h) = crossed ray p q h.0 h.1
crossing_exists ray p q (inr h) =
    let w = crossed ray q p h.1 h.0 in
    (w.0, (other_way q p w.0 w.1.0, w.1.1))
