-- The points of a segment by two numbers: how far left of its line, and how far along it.
use Rattle.std.proofs.Common.{ℕ, ◌+◌, ◌<◌, ℤ, pos, negsuc, ◌+ℤ◌, ◌-ℤ◌, ◌*ℤ◌, neg_ℤ, nat_abs, ◌<ℤ◌, ◌≤ℤ◌, ◌≡◌, [], ◌∷◌, arith, refl, sym, ap, ◌∙◌, subst, inl, inr}
use Rattle.std.proofs.lemmas.Int.{ints}
use Rattle.math_base.proofs.Quoting.{quoting, by_ring, combine1, combine2, combine3}
use Rattle.math_base.proofs.Signs.{mul-nonneg, mul-pos, square-nonneg, zero-of-mul, nonneg-of-mul, same-of-mul, same-of-factor}
use Rattle.sight_names.specs.declared.names.Pt.{Pt}
use Rattle.sight_names.specs.Point.{Point, point_of, SamePoint, IsMean, OnSegment, turn_at}
use Rattle.geom_exact.specs.Formulas.{turn_of, reach_of}
use Rattle.math_base.proofs.Small.{zero_or_not, same_where_no_difference, nonneg_of_nonpos, cross_weights, abs_of_nonneg, some_of_sum, nat_nonneg}
use Rattle.math_base.proofs.MoreSigns.{square-pos}
use Rattle.sight_names.proofs.Records.{same_pt}
use Rattle.sight_names.proofs.Portals.{scale_above}

-- ---- the weights of whole points as whole numbers that aren't below 0
pub record IsWeighted (p q : Pt) (m n : ℤ) (z : Point) : Type 0 where
  pub first : pos 0 ≤ℤ m
  pub second : pos 0 ≤ℤ n
  pub weighted : pos 0 <ℤ (m +ℤ n)
  pub x : z.x *ℤ (m +ℤ n) ≡ pos z.d *ℤ (m *ℤ p.x +ℤ n *ℤ q.x)
  pub y : z.y *ℤ (m +ℤ n) ≡ pos z.d *ℤ (m *ℤ p.y +ℤ n *ℤ q.y)

abbrev pub IsOn : Pt → Pt → Point → Type 0
IsOn p q z = (m : ℤ) × (n : ℤ) × IsWeighted p q m n z

weighed_there : (x u v d a b : ℤ) → x *ℤ (u +ℤ v) -ℤ d *ℤ (u *ℤ a +ℤ v *ℤ b) ≡ pos 1 *ℤ (x *ℤ ((u +ℤ v) *ℤ (pos 1 *ℤ pos 1)) -ℤ (u *ℤ pos 1 *ℤ a +ℤ v *ℤ pos 1 *ℤ b) *ℤ d)
weighed_there x u v d a b = by_ring (x ∷ u ∷ v ∷ d ∷ a ∷ b ∷ []) _ _ (search quoting depth 40 fits 100000) (search quoting depth 40 fits 100000) tt

pub on : (p q : Pt) (z : Point) → OnSegment (point_of p) (point_of q) z → IsOn p q z
on p q z (u, v, h) = (
  pos u,
  pos v,
  record {
    first = nat_nonneg u;
    second = nat_nonneg v;
    weighted = some u v h.weighed;
    x = combine1 (pos 1) h.x (weighed_there z.x (pos u) (pos v) (pos z.d) p.x q.x);
    y = combine1 (pos 1) h.y (weighed_there z.y (pos u) (pos v) (pos z.d) p.y q.y);
  },
)
  where
    some : (k l : ℕ) → 0 < k + l → pos 0 <ℤ (pos k +ℤ pos l)
    some k l h = omega (arith, ints)

weighed_back : (x u v d a b : ℤ) → x *ℤ ((u +ℤ v) *ℤ (pos 1 *ℤ pos 1)) -ℤ (u *ℤ pos 1 *ℤ a +ℤ v *ℤ pos 1 *ℤ b) *ℤ d ≡ pos 1 *ℤ (x *ℤ (u +ℤ v) -ℤ d *ℤ (u *ℤ a +ℤ v *ℤ b))
weighed_back x u v d a b = by_ring (x ∷ u ∷ v ∷ d ∷ a ∷ b ∷ []) _ _ (search quoting depth 40 fits 100000) (search quoting depth 40 fits 100000) tt

weighted_is_mean : (p q : Pt) (u v : ℕ) (z : Point) → IsWeighted p q (pos u) (pos v) z → IsMean u v (point_of p) (point_of q) z
weighted_is_mean p q u v z h = record {
  weighed = some_of_sum u v h.weighted;
  x = combine1 (pos 1) h.x (weighed_back z.x (pos u) (pos v) (pos z.d) p.x q.x);
  y = combine1 (pos 1) h.y (weighed_back z.y (pos u) (pos v) (pos z.d) p.y q.y);
}

pub segment : (p q : Pt) (z : Point) → IsOn p q z → OnSegment (point_of p) (point_of q) z
segment p q z (m, n, h) = (
  nat_abs m,
  nat_abs n,
  weighted_is_mean p q (nat_abs m) (nat_abs n) z
      (subst (λ (k : ℤ). IsWeighted p q k (pos (nat_abs n)) z) (sym (abs_of_nonneg m h.first)) (subst (λ (k : ℤ). IsWeighted p q m k z) (sym (abs_of_nonneg n h.second)) h)),
)

-- ---- the two ends of a segment exchanged
pub other_way : (r s : Pt) (z : Point) → OnSegment (point_of r) (point_of s) z → OnSegment (point_of s) (point_of r) z
other_way r s z g =
    let h = on r s z g in
    segment s r z (
      h.1,
      h.0,
      record {
        first = h.2.second;
        second = h.2.first;
        weighted = turned h.0 h.1 h.2.weighted;
        x = exchanged z.x h.0 h.1 (pos z.d) r.x s.x h.2.x;
        y = exchanged z.y h.0 h.1 (pos z.d) r.y s.y h.2.y;
      },
    )
  where
    turned : (m n : ℤ) → pos 0 <ℤ (m +ℤ n) → pos 0 <ℤ (n +ℤ m)
    turned m n h = omega (arith, ints)

    exchanged : (x m n d u v : ℤ) → x *ℤ (m +ℤ n) ≡ d *ℤ (m *ℤ u +ℤ n *ℤ v) → x *ℤ (n +ℤ m) ≡ d *ℤ (n *ℤ v +ℤ m *ℤ u)
    exchanged x m n d u v h = combine1 (pos 1) h (by_ring (x ∷ m ∷ n ∷ d ∷ u ∷ v ∷ []) _ _ (search quoting depth 40 fits 100000) (search quoting depth 40 fits 100000) tt)

-- d times the turn of p, q and the point
unfoldable pub beside : Pt → Pt → Point → ℤ
beside p q z = (q.x -ℤ p.x) *ℤ (z.y -ℤ p.y *ℤ pos z.d) -ℤ (q.y -ℤ p.y) *ℤ (z.x -ℤ p.x *ℤ pos z.d)

-- d times the product of the place with the direction from p to q, counted from p
unfoldable pub along : Pt → Pt → Point → ℤ
along p q z = (q.x -ℤ p.x) *ℤ (z.x -ℤ p.x *ℤ pos z.d) +ℤ (q.y -ℤ p.y) *ℤ (z.y -ℤ p.y *ℤ pos z.d)

abbrev pub square_of : Pt → Pt → ℤ
square_of p q = reach_of p q q

-- the weights decide both numbers
pub beside-mean : (p q : Pt) (m n : ℤ) (z : Point) → IsWeighted p q m n z → (m +ℤ n) *ℤ beside p q z ≡ pos 0
unfolding beside
beside-mean p q m n z h =
    combine2 (q.x -ℤ p.x) (p.y -ℤ q.y) h.y h.x
    (by_ring (p.x ∷ p.y ∷ q.x ∷ q.y ∷ m ∷ n ∷ z.x ∷ z.y ∷ pos z.d ∷ []) _ _ (search quoting depth 40 fits 100000) (search quoting depth 40 fits 100000) tt)

pub along-mean : (p q : Pt) (m n : ℤ) (z : Point) → IsWeighted p q m n z → (m +ℤ n) *ℤ along p q z ≡ pos z.d *ℤ (n *ℤ square_of p q)
unfolding along reach_of
along-mean p q m n z h =
    combine2 (q.x -ℤ p.x) (q.y -ℤ p.y) h.x h.y
    (by_ring (p.x ∷ p.y ∷ q.x ∷ q.y ∷ m ∷ n ∷ z.x ∷ z.y ∷ pos z.d ∷ []) _ _ (search quoting depth 40 fits 100000) (search quoting depth 40 fits 100000) tt)

-- ---- a place is on the segment exactly where it is on the line and along it from 0 to the length
pub record IsAlong (p q : Pt) (z : Point) : Type 0 where
  pub straight : beside p q z ≡ pos 0
  pub from : pos 0 ≤ℤ along p q z
  pub to : along p q z ≤ℤ (pos z.d *ℤ square_of p q)

pub square_of-nonneg : (p q : Pt) → pos 0 ≤ℤ square_of p q
unfolding reach_of
square_of-nonneg p q =
    let a = square-nonneg (q.x -ℤ p.x) in
    let b = square-nonneg (q.y -ℤ p.y) in
    omega (arith, ints)

rest_along : (p q : Pt) (m n : ℤ) (z : Point) → IsWeighted p q m n z → (m +ℤ n) *ℤ (pos z.d *ℤ square_of p q -ℤ along p q z) ≡ pos z.d *ℤ (m *ℤ square_of p q)
unfolding along reach_of
rest_along p q m n z h =
    combine1 (negsuc 0) (along-mean p q m n z h)
    (by_ring (m ∷ n ∷ pos z.d ∷ square_of p q ∷ along p q z ∷ []) _ _ (search quoting depth 40 fits 100000) (search quoting depth 40 fits 100000) tt)

pub IsAlong-of-mean : (p q : Pt) (m n : ℤ) (z : Point) → IsWeighted p q m n z → IsAlong p q z
IsAlong-of-mean p q m n z h =
    let square = square_of-nonneg p q in
    let d : pos 0 ≤ℤ pos z.d = omega (arith, ints, scale_above z) in
    let late : pos 0 ≤ℤ (pos z.d *ℤ (n *ℤ square_of p q)) = mul-nonneg (pos z.d) _ d (mul-nonneg n _ h.second square) in
    let early : pos 0 ≤ℤ (pos z.d *ℤ (m *ℤ square_of p q)) = mul-nonneg (pos z.d) _ d (mul-nonneg m _ h.first square) in
    let e = along-mean p q m n z h in
    let f = rest_along p q m n z h in
    let rest : pos 0 ≤ℤ (pos z.d *ℤ square_of p q -ℤ along p q z) = nonneg-of-mul (m +ℤ n) _ h.weighted (subst (λ (t : ℤ). pos 0 ≤ℤ t) (sym f) early) in
    record {
      straight = zero-of-mul (m +ℤ n) _ h.weighted (beside-mean p q m n z h);
      from = nonneg-of-mul (m +ℤ n) _ h.weighted (subst (λ (t : ℤ). pos 0 ≤ℤ t) (sym e) late);
      to = from_difference (along p q z) (pos z.d *ℤ square_of p q) rest;
    }
  where
    from_difference : (a b : ℤ) → pos 0 ≤ℤ (b -ℤ a) → a ≤ℤ b
    from_difference a b h = omega (arith, ints)

-- the other way: the weights are what is left and what was passed
mean_x : (p q : Pt) (z : Point) → beside p q z ≡ pos 0 → z.x *ℤ square_of p q ≡ (pos z.d *ℤ square_of p q -ℤ along p q z) *ℤ p.x +ℤ along p q z *ℤ q.x
unfolding along beside reach_of
mean_x p q z h = combine1 (p.y -ℤ q.y) h (by_ring (p.x ∷ p.y ∷ q.x ∷ q.y ∷ z.x ∷ z.y ∷ pos z.d ∷ []) _ _ (search quoting depth 40 fits 100000) (search quoting depth 40 fits 100000) tt)

mean_y : (p q : Pt) (z : Point) → beside p q z ≡ pos 0 → z.y *ℤ square_of p q ≡ (pos z.d *ℤ square_of p q -ℤ along p q z) *ℤ p.y +ℤ along p q z *ℤ q.y
unfolding along beside reach_of
mean_y p q z h = combine1 (q.x -ℤ p.x) h (by_ring (p.x ∷ p.y ∷ q.x ∷ q.y ∷ z.x ∷ z.y ∷ pos z.d ∷ []) _ _ (search quoting depth 40 fits 100000) (search quoting depth 40 fits 100000) tt)

scaled : (x a d l s : ℤ) → x *ℤ l ≡ s → x *ℤ ((d *ℤ l -ℤ a) +ℤ a) ≡ d *ℤ s
scaled x a d l s h = combine1 d h (by_ring (x ∷ a ∷ d ∷ l ∷ s ∷ []) _ _ (search quoting depth 40 fits 100000) (search quoting depth 40 fits 100000) tt)

sum_back : (a b : ℤ) → (a -ℤ b) +ℤ b ≡ a
sum_back a b = omega (arith, ints)

pub IsOn-of-along : (p q : Pt) (z : Point) → pos 0 <ℤ square_of p q → IsAlong p q z → IsOn p q z
IsOn-of-along p q z h g =
    let l = square_of p q in
    let a = along p q z in (
      pos z.d *ℤ l -ℤ a,
      a,
      record {
        first = difference (pos z.d) l a g.to;
        second = g.from;
        weighted = subst (λ (t : ℤ). pos 0 <ℤ t) (sym (sum_back (pos z.d *ℤ l) a)) (mul-pos (pos z.d) l (scale_above z) h);
        x = scaled z.x a (pos z.d) l _ (mean_x p q z g.straight);
        y = scaled z.y a (pos z.d) l _ (mean_y p q z g.straight);
      },
    )
  where
    difference : (d l a : ℤ) → a ≤ℤ (d *ℤ l) → pos 0 ≤ℤ (d *ℤ l -ℤ a)
    difference d l a h = omega (arith, ints)

-- ---- two lines that are not parallel: the place is known
abbrev pub spread : Pt → Pt → Pt → Pt → ℤ
spread p q r s = turn_of p q r -ℤ turn_of p q s

pub meet_x : (p q r s : Pt) (z : Point) → beside p q z ≡ pos 0 → beside r s z ≡ pos 0 → spread p q r s *ℤ z.x ≡ pos z.d *ℤ (turn_of p q r *ℤ s.x -ℤ turn_of p q s *ℤ r.x)
unfolding beside turn_of
meet_x p q r s z h k =
    combine2 (r.x -ℤ s.x) (q.x -ℤ p.x) h k
    (by_ring (p.x ∷ p.y ∷ q.x ∷ q.y ∷ r.x ∷ r.y ∷ s.x ∷ s.y ∷ z.x ∷ z.y ∷ pos z.d ∷ []) _ _ (search quoting depth 60 fits 200000) (search quoting depth 60 fits 200000) tt)

pub meet_y : (p q r s : Pt) (z : Point) → beside p q z ≡ pos 0 → beside r s z ≡ pos 0 → spread p q r s *ℤ z.y ≡ pos z.d *ℤ (turn_of p q r *ℤ s.y -ℤ turn_of p q s *ℤ r.y)
unfolding beside turn_of
meet_y p q r s z h k =
    combine2 (r.y -ℤ s.y) (q.y -ℤ p.y) h k
    (by_ring (p.x ∷ p.y ∷ q.x ∷ q.y ∷ r.x ∷ r.y ∷ s.x ∷ s.y ∷ z.x ∷ z.y ∷ pos z.d ∷ []) _ _ (search quoting depth 60 fits 200000) (search quoting depth 60 fits 200000) tt)

-- two quotients with the same value
cross_same : (c k x d x' d' : ℤ) → c *ℤ x ≡ d *ℤ k → c *ℤ x' ≡ d' *ℤ k → c *ℤ (x *ℤ d') ≡ c *ℤ (x' *ℤ d)
cross_same c k x d x' d' h g = combine2 d' (neg_ℤ d) h g (by_ring (c ∷ k ∷ x ∷ d ∷ x' ∷ d' ∷ []) _ _ (search quoting depth 40 fits 100000) (search quoting depth 40 fits 100000) tt)

pub only_meeting : (p q r s : Pt) → ¬ (spread p q r s ≡ pos 0) → (z w : Point) → beside p q z ≡ pos 0 → beside r s z ≡ pos 0 → beside p q w ≡ pos 0 → beside r s w ≡ pos 0 → SamePoint z w
only_meeting p q r s n z w a b a' b' = record {
  x = same-of-factor (spread p q r s) _ _ n (cross_same (spread p q r s) _ z.x (pos z.d) w.x (pos w.d) (meet_x p q r s z a b) (meet_x p q r s w a' b'));
  y = same-of-factor (spread p q r s) _ _ n (cross_same (spread p q r s) _ z.y (pos z.d) w.y (pos w.d) (meet_y p q r s z a b) (meet_y p q r s w a' b'));
}

-- ---- map points on a line
pub beside-at : (p q v : Pt) → beside p q (point_of v) ≡ turn_of p q v
unfolding beside turn_of
beside-at p q v = by_ring (p.x ∷ p.y ∷ q.x ∷ q.y ∷ v.x ∷ v.y ∷ []) _ _ (search quoting depth 40 fits 100000) (search quoting depth 40 fits 100000) tt

-- a place at a map point is beside a line as the point is
pub turn-of_same : (r s p : Pt) (z : Point) → SamePoint z (point_of p) → beside r s z ≡ pos z.d *ℤ turn_of r s p
unfolding beside turn_of
turn-of_same r s p z h =
    combine2 (s.x -ℤ r.x) (r.y -ℤ s.y) h.y h.x
    (by_ring (p.x ∷ p.y ∷ r.x ∷ r.y ∷ s.x ∷ s.y ∷ z.x ∷ z.y ∷ pos z.d ∷ []) _ _ (search quoting depth 60 fits 200000) (search quoting depth 60 fits 200000) tt)

-- a point of the segment from r to s is beside another line as its weights say
pub beside-of_mean : (p q r s : Pt) (m n : ℤ) (z : Point) → IsWeighted r s m n z → (m +ℤ n) *ℤ beside p q z ≡ pos z.d *ℤ (m *ℤ turn_of p q r +ℤ n *ℤ turn_of p q s)
unfolding beside turn_of
beside-of_mean p q r s m n z h =
    combine2 (q.x -ℤ p.x) (p.y -ℤ q.y) h.y h.x
    (by_ring (p.x ∷ p.y ∷ q.x ∷ q.y ∷ r.x ∷ r.y ∷ s.x ∷ s.y ∷ m ∷ n ∷ z.x ∷ z.y ∷ pos z.d ∷ []) _ _ (search quoting depth 60 fits 200000) (search quoting depth 60 fits 200000) tt)

-- and along it likewise
pub along-of_mean : (p q r s : Pt) (m n : ℤ) (z : Point) → IsWeighted r s m n z → (m +ℤ n) *ℤ along p q z ≡ pos z.d *ℤ (m *ℤ along p q (point_of r) +ℤ n *ℤ along p q (point_of s))
unfolding along
along-of_mean p q r s m n z h =
    combine2 (q.x -ℤ p.x) (q.y -ℤ p.y) h.x h.y
    (by_ring (p.x ∷ p.y ∷ q.x ∷ q.y ∷ r.x ∷ r.y ∷ s.x ∷ s.y ∷ m ∷ n ∷ z.x ∷ z.y ∷ pos z.d ∷ []) _ _ (search quoting depth 60 fits 200000) (search quoting depth 60 fits 200000) tt)

-- the four turns of two segments
pub four_turns : (p q r s : Pt) → turn_of r s q -ℤ turn_of r s p ≡ turn_of p q r -ℤ turn_of p q s
unfolding turn_of
four_turns p q r s = by_ring (p.x ∷ p.y ∷ q.x ∷ q.y ∷ r.x ∷ r.y ∷ s.x ∷ s.y ∷ []) _ _ (search quoting depth 60 fits 200000) (search quoting depth 60 fits 200000) tt

pub same_meeting_x : (p q r s : Pt) → turn_of p q r *ℤ s.x -ℤ turn_of p q s *ℤ r.x ≡ turn_of r s q *ℤ p.x -ℤ turn_of r s p *ℤ q.x
unfolding turn_of
same_meeting_x p q r s = by_ring (p.x ∷ p.y ∷ q.x ∷ q.y ∷ r.x ∷ r.y ∷ s.x ∷ s.y ∷ []) _ _ (search quoting depth 60 fits 200000) (search quoting depth 60 fits 200000) tt

pub same_meeting_y : (p q r s : Pt) → turn_of p q r *ℤ s.y -ℤ turn_of p q s *ℤ r.y ≡ turn_of r s q *ℤ p.y -ℤ turn_of r s p *ℤ q.y
unfolding turn_of
same_meeting_y p q r s = by_ring (p.x ∷ p.y ∷ q.x ∷ q.y ∷ r.x ∷ r.y ∷ s.x ∷ s.y ∷ []) _ _ (search quoting depth 60 fits 200000) (search quoting depth 60 fits 200000) tt

pub some_abs : (a : ℤ) → pos 0 <ℤ a → 0 < nat_abs a
some_abs a h = omega (arith, ints)

abs_above : (a : ℤ) → pos 0 <ℤ a → a ≡ pos (nat_abs a)
abs_above a h = omega (arith, ints)

-- the place at which two lines meet, where the turns fall
abbrev pub meeting : (p q r s : Pt) → pos 0 <ℤ spread p q r s → Point
meeting p q r s h = record { x = turn_of p q r *ℤ s.x -ℤ turn_of p q s *ℤ r.x; y = turn_of p q r *ℤ s.y -ℤ turn_of p q s *ℤ r.y; d = nat_abs (spread p q r s); positive = some_abs (spread p q r s) h }

weights_across : (m d c e x y : ℤ) → m ≡ c *ℤ x -ℤ e *ℤ y → c -ℤ e ≡ d → m *ℤ (c +ℤ neg_ℤ e) ≡ d *ℤ (c *ℤ x +ℤ neg_ℤ e *ℤ y)
weights_across m d c e x y h g = combine2 (c -ℤ e) (c *ℤ x -ℤ e *ℤ y) h g (by_ring (m ∷ d ∷ c ∷ e ∷ x ∷ y ∷ []) _ _ (search quoting depth 40 fits 100000) (search quoting depth 40 fits 100000) tt)

pub meeting_is_on_second : (p q r s : Pt) (h : pos 0 <ℤ spread p q r s) → pos 0 ≤ℤ turn_of p q r → turn_of p q s ≤ℤ pos 0 → IsOn r s (meeting p q r s h)
meeting_is_on_second p q r s h a b = (
  neg_ℤ (turn_of p q s),
  turn_of p q r,
  record {
    first = nonneg_of_nonpos (turn_of p q s) b;
    second = a;
    weighted = turned (turn_of p q r) (turn_of p q s) h;
    x = cross_weights (turn_of p q r) (turn_of p q s) r.x s.x ∙ ap (λ (d : ℤ). d *ℤ (neg_ℤ (turn_of p q s) *ℤ r.x +ℤ turn_of p q r *ℤ s.x)) (abs_above (spread p q r s) h);
    y = cross_weights (turn_of p q r) (turn_of p q s) r.y s.y ∙ ap (λ (d : ℤ). d *ℤ (neg_ℤ (turn_of p q s) *ℤ r.y +ℤ turn_of p q r *ℤ s.y)) (abs_above (spread p q r s) h);
  },
)
  where
    turned : (t u : ℤ) → pos 0 <ℤ (t -ℤ u) → pos 0 <ℤ (neg_ℤ u +ℤ t)
    turned t u h = omega (arith, ints)

pub meeting_is_on_first : (p q r s : Pt) (h : pos 0 <ℤ spread p q r s) → pos 0 ≤ℤ turn_of r s q → turn_of r s p ≤ℤ pos 0 → IsOn p q (meeting p q r s h)
meeting_is_on_first p q r s h a b = (
  turn_of r s q,
  neg_ℤ (turn_of r s p),
  record {
    first = a;
    second = nonneg_of_nonpos (turn_of r s p) b;
    weighted = positive_too (turn_of r s q) (turn_of r s p) (spread p q r s) (four_turns p q r s) h;
    x = weights_across _ _ (turn_of r s q) (turn_of r s p) p.x q.x (same_meeting_x p q r s) (four_turns p q r s ∙ abs_above (spread p q r s) h);
    y = weights_across _ _ (turn_of r s q) (turn_of r s p) p.y q.y (same_meeting_y p q r s) (four_turns p q r s ∙ abs_above (spread p q r s) h);
  },
)
  where
    positive_too : (t u d : ℤ) → t -ℤ u ≡ d → pos 0 <ℤ d → pos 0 <ℤ (t +ℤ neg_ℤ u)
    positive_too t u d e h = omega (arith, ints)

-- ---- places on one line, by how far along it they are
pub same_reach : (p q : Pt) (z w : Point) → pos 0 <ℤ square_of p q → beside p q z ≡ pos 0 → beside p q w ≡ pos 0 → along p q z *ℤ pos w.d ≡ along p q w *ℤ pos z.d → SamePoint z w
same_reach p q z w l a b e = record {
  x = same-of-mul (square_of p q) _ _ l (quotient (square_of p q) z.x (pos z.d) (along p q z) w.x (pos w.d) (along p q w) p.x q.x (mean_x p q z a) (mean_x p q w b) e);
  y = same-of-mul (square_of p q) _ _ l (quotient (square_of p q) z.y (pos z.d) (along p q z) w.y (pos w.d) (along p q w) p.y q.y (mean_y p q z a) (mean_y p q w b) e);
}
  where
    quotient : (l x d a x' d' a' u v : ℤ) → x *ℤ l ≡ (d *ℤ l -ℤ a) *ℤ u +ℤ a *ℤ v → x' *ℤ l ≡ (d' *ℤ l -ℤ a') *ℤ u +ℤ a' *ℤ v → a *ℤ d' ≡ a' *ℤ d → l *ℤ (x *ℤ d') ≡ l *ℤ (x' *ℤ d)
    quotient l x d a x' d' a' u v h k e = combine3 d' (neg_ℤ d) (v -ℤ u) h k e (by_ring (l ∷ x ∷ d ∷ a ∷ x' ∷ d' ∷ a' ∷ u ∷ v ∷ []) _ _ (search quoting depth 60 fits 200000) (search quoting depth 60 fits 200000) tt)

pub along-at : (p q v : Pt) → along p q (point_of v) ≡ reach_of p q v
unfolding along reach_of
along-at p q v = by_ring (p.x ∷ p.y ∷ q.x ∷ q.y ∷ v.x ∷ v.y ∷ []) _ _ (search quoting depth 40 fits 100000) (search quoting depth 40 fits 100000) tt

pub square_of-pos : (p q : Pt) → ¬ (p ≡ q) → pos 0 <ℤ square_of p q
unfolding reach_of
square_of-pos p q n =
    let a = square-nonneg (q.x -ℤ p.x) in
    let b = square-nonneg (q.y -ℤ p.y) in
    elim (zero_or_not (q.x -ℤ p.x)) as (λ _. pos 0 <ℤ square_of p q) [
      | inr h ↦ left_pos _ _ (square-pos (q.x -ℤ p.x) h) b
      | inl e ↦ elim (zero_or_not (q.y -ℤ p.y)) as (λ _. pos 0 <ℤ square_of p q) [
        | inr h ↦ right_pos _ _ a (square-pos (q.y -ℤ p.y) h)
        | inl f ↦ absurd (n (same_pt p q (same_where_no_difference p.x q.x e) (same_where_no_difference p.y q.y f)))
      ]
    ]
  where
    left_pos : (a b : ℤ) → pos 0 <ℤ a → pos 0 ≤ℤ b → pos 0 <ℤ (a +ℤ b)
    left_pos a b h k = omega (arith, ints)

    right_pos : (a b : ℤ) → pos 0 ≤ℤ a → pos 0 <ℤ b → pos 0 <ℤ (a +ℤ b)
    right_pos a b h k = omega (arith, ints)

-- ---- the turns of the definitions
pub beside_is : (p q : Pt) (z : Point) → beside p q z ≡ turn_at p q z
unfolding beside
beside_is p q z = refl

pub turn_is_at : (a b c : Pt) → turn_of a b c ≡ turn_at a b (point_of c)
turn_is_at a b c = sym (beside-at a b c) ∙ beside_is a b (point_of c)
