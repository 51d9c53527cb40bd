-- From points and whole weights to vectors, and back.
use Rattle.std.proofs.Common.{◌≡◌, ℕ, ◌+◌, ◌*◌, ◌<◌, ℤ, pos, ◌+ℤ◌, ◌*ℤ◌, ◌-ℤ◌, ◌<ℤ◌, neg_ℤ, nat_abs, arith, refl, sym, ap, ◌∙◌, subst, [], ◌∷◌}
use borrow.Author.Differences.{ints}
use Rattle.math_base.proofs.Quoting.{quoting, by_ring, combine1, combine2}
use Rattle.math_base.proofs.Signs.{mul-pos, mul-nonneg}
use Rattle.sight_names.specs.declared.names.Pt.{Pt}
use Rattle.sight_names.specs.Point.{Point, point_of, IsMean, OnSegment, value_at, turn_at}
use Rattle.plane_base.proofs.Vec.{V, at, edge, det, IsComb, On}
use Rattle.math_base.proofs.Small.{abs_of_nonneg, nat_nonneg}

abbrev pub vec : Point → V
vec p = record { x = p.x; y = p.y; d = pos p.d }

pub value_at_is : (a b c : ℤ) (p : Point) → value_at a b c p ≡ at (record { a = a; b = b; c = c }) (vec p)
unfolding at
value_at_is a b c p = refl

turn_ring : (px py qx qy rx ry rd : ℤ) → (qx -ℤ px) *ℤ (ry -ℤ py *ℤ rd) -ℤ (qy -ℤ py) *ℤ (rx -ℤ px *ℤ rd)
    ≡ (py *ℤ pos 1 -ℤ pos 1 *ℤ qy) *ℤ rx +ℤ (pos 1 *ℤ qx -ℤ px *ℤ pos 1) *ℤ ry +ℤ (px *ℤ qy -ℤ py *ℤ qx) *ℤ rd
turn_ring px py qx qy rx ry rd = by_ring (px ∷ py ∷ qx ∷ qy ∷ rx ∷ ry ∷ rd ∷ []) _ _ (search quoting depth 60 fits 1000000) (search quoting depth 60 fits 1000000) tt

pub turn_at_is : (p q : Pt) (r : Point) → turn_at p q r ≡ det (vec (point_of p)) (vec (point_of q)) (vec r)
unfolding at edge
turn_at_is p q r = turn_ring p.x p.y q.x q.y r.x r.y (pos r.d)

-- ---- weights
pos_of_sum : (u v d e : ℕ) → pos ((u + v) * (d * e)) ≡ pos (u * e) *ℤ pos d +ℤ pos (v * d) *ℤ pos e
pos_of_sum u v d e = ap pos (omega arith)

mean_ring : (n a b r rx px qx : ℤ) → n *ℤ rx -ℤ (a *ℤ r *ℤ px +ℤ b *ℤ r *ℤ qx) ≡ pos 1 *ℤ (rx *ℤ n -ℤ (a *ℤ px +ℤ b *ℤ qx) *ℤ r)
mean_ring n a b r rx px qx = by_ring (n ∷ a ∷ b ∷ r ∷ rx ∷ px ∷ qx ∷ []) _ _ (search quoting depth 60 fits 1000000) (search quoting depth 60 fits 1000000) tt

last_ring : (a b r d e : ℤ) → (a *ℤ d +ℤ b *ℤ e) *ℤ r ≡ a *ℤ r *ℤ d +ℤ b *ℤ r *ℤ e
last_ring a b r d e = by_ring (a ∷ b ∷ r ∷ d ∷ e ∷ []) _ _ (search quoting depth 60 fits 1000000) (search quoting depth 60 fits 1000000) tt

pos_above : (n : ℕ) → 0 < n → pos 0 <ℤ pos n
pos_above n h = omega (arith, ints)

weight_above : (u v d e : ℕ) → 0 < u + v → 0 < d → 0 < e → pos 0 <ℤ pos ((u + v) * (d * e))
weight_above u v d e h hd he = mul-pos (pos (u + v)) (pos (d * e)) (pos_above (u + v) h) (mul-pos (pos d) (pos e) (pos_above d hd) (pos_above e he))

pub mean_is_comb : (u v : ℕ) (p q r : Point) → IsMean u v p q r → IsComb (pos (u * q.d) *ℤ pos r.d) (pos (v * p.d) *ℤ pos r.d) (pos ((u + v) * (p.d * q.d))) (vec p) (vec q) (vec r)
mean_is_comb u v p q r h = record {
  left = mul-nonneg (pos (u * q.d)) (pos r.d) (nat_nonneg (u * q.d)) (nat_nonneg r.d);
  right = mul-nonneg (pos (v * p.d)) (pos r.d) (nat_nonneg (v * p.d)) (nat_nonneg r.d);
  scale = weight_above u v p.d q.d h.weighed p.positive q.positive;
  x = combine1 (pos 1) h.x (mean_ring (pos ((u + v) * (p.d * q.d))) (pos (u * q.d)) (pos (v * p.d)) (pos r.d) r.x p.x q.x);
  y = combine1 (pos 1) h.y (mean_ring (pos ((u + v) * (p.d * q.d))) (pos (u * q.d)) (pos (v * p.d)) (pos r.d) r.y p.y q.y);
  d = ap (λ (k : ℤ). k *ℤ pos r.d) (pos_of_sum u v p.d q.d) ∙ last_ring (pos (u * q.d)) (pos (v * p.d)) (pos r.d) (pos p.d) (pos q.d);
}

pub on_of_segment : (p q r : Point) → OnSegment p q r → On (vec p) (vec q) (vec r)
on_of_segment p q r (u, v, h) = (_, _, _, mean_is_comb u v p q r h)

back_ring : (l m n D E R rx px qx : ℤ) → rx *ℤ ((l *ℤ D +ℤ m *ℤ E) *ℤ (D *ℤ E)) -ℤ (l *ℤ D *ℤ E *ℤ px +ℤ m *ℤ E *ℤ D *ℤ qx) *ℤ R
    ≡ (D *ℤ E *ℤ R) *ℤ (n *ℤ rx -ℤ (l *ℤ px +ℤ m *ℤ qx)) +ℤ neg_ℤ (rx *ℤ (D *ℤ E)) *ℤ (n *ℤ R -ℤ (l *ℤ D +ℤ m *ℤ E))
back_ring l m n D E R rx px qx = by_ring (l ∷ m ∷ n ∷ D ∷ E ∷ R ∷ rx ∷ px ∷ qx ∷ []) _ _ (search quoting depth 80 fits 1000000) (search quoting depth 80 fits 1000000) tt

-- whole weights that are naturals
comb_is_mean_nat : (l m : ℕ) (n : ℤ) (p q r : Point) → IsComb (pos l) (pos m) n (vec p) (vec q) (vec r) → IsMean (l * p.d) (m * q.d) p q r
comb_is_mean_nat l m n p q r h = record {
  weighed = some (n *ℤ pos r.d) (l * p.d + m * q.d) (mul-pos n (pos r.d) h.scale (pos_above r.d r.positive)) h.d;
  x = combine2 (pos p.d *ℤ pos q.d *ℤ pos r.d) (neg_ℤ (r.x *ℤ (pos p.d *ℤ pos q.d))) h.x h.d (back_ring (pos l) (pos m) n (pos p.d) (pos q.d) (pos r.d) r.x p.x q.x);
  y = combine2 (pos p.d *ℤ pos q.d *ℤ pos r.d) (neg_ℤ (r.y *ℤ (pos p.d *ℤ pos q.d))) h.y h.d (back_ring (pos l) (pos m) n (pos p.d) (pos q.d) (pos r.d) r.y p.y q.y);
}
  where
    some : (z : ℤ) (k : ℕ) → pos 0 <ℤ z → z ≡ pos k → 0 < k
    some z k h e = omega (arith, ints)

pub comb_is_mean : (l m n : ℤ) (p q r : Point) → IsComb l m n (vec p) (vec q) (vec r) → IsMean (nat_abs l * p.d) (nat_abs m * q.d) p q r
comb_is_mean l m n p q r h = comb_is_mean_nat (nat_abs l) (nat_abs m) n p q r
    (subst (λ (k : ℤ). IsComb k (pos (nat_abs m)) n (vec p) (vec q) (vec r)) (sym (abs_of_nonneg l h.left)) (subst (λ (k : ℤ). IsComb l k n (vec p) (vec q) (vec r)) (sym (abs_of_nonneg m h.right)) h))

pub segment_of_on : (p q r : Point) → On (vec p) (vec q) (vec r) → OnSegment p q r
segment_of_on p q r (l, m, n, h) = (_, _, comb_is_mean l m n p q r h)
