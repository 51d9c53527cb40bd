-- Sign arguments about segments that enter a wedge.
use Rattle.std.proofs.Common.{◌≡◌, ℤ, pos, ◌+ℤ◌, ◌*ℤ◌, ◌-ℤ◌, ◌≤ℤ◌, ◌<ℤ◌, neg_ℤ, arith, ap, ◌∙◌, [], ◌∷◌}
use borrow.Author.Differences.{ints}
use lib.IntN.{zero-*ℤ, *ℤ_comm}
use Rattle.math_base.proofs.Quoting.{quoting, by_ring}
use Rattle.math_base.proofs.IntLaws.{neg-*ℤ}
use Rattle.math_base.proofs.Signs.{mul-pos, mul-nonneg, pos-of-mul}
use Rattle.plane_base.proofs.Vec.{V, Lin, at, edge, det, IsComb, On, sum3, value, mean, bary, det-cycle, comb_of_bary}
use Rattle.math_base.proofs.MoreSigns.{mul-neg}

-- ---- products with a factor that isn't positive
pub mul_np : (a b : ℤ) → a ≤ℤ pos 0 → pos 0 ≤ℤ b → (a *ℤ b) ≤ℤ pos 0
mul_np a b h k = omega (arith, ints, neg-*ℤ a b, mul-nonneg (neg_ℤ a) b (omega (arith, ints)) k)

-- ---- a segment contains the segments between its points
within0 : (n n1 n2 l m l1 m1 l2 m2 w y z p q : ℤ) →
    n *ℤ n1 *ℤ n2 *ℤ w -ℤ ((l *ℤ n2 *ℤ l1 +ℤ m *ℤ n1 *ℤ l2) *ℤ p +ℤ (l *ℤ n2 *ℤ m1 +ℤ m *ℤ n1 *ℤ m2) *ℤ q)
    ≡ n1 *ℤ n2 *ℤ (n *ℤ w -ℤ (l *ℤ y +ℤ m *ℤ z)) +ℤ l *ℤ n2 *ℤ (n1 *ℤ y -ℤ (l1 *ℤ p +ℤ m1 *ℤ q)) +ℤ m *ℤ n1 *ℤ (n2 *ℤ z -ℤ (l2 *ℤ p +ℤ m2 *ℤ q))
within0 n n1 n2 l m l1 m1 l2 m2 w y z p q = by_ring (n ∷ n1 ∷ n2 ∷ l ∷ m ∷ l1 ∷ m1 ∷ l2 ∷ m2 ∷ w ∷ y ∷ z ∷ p ∷ q ∷ []) _ _ (search quoting depth 80 fits 1000000) (search quoting depth 80 fits 1000000) tt

nn3 : (l n k : ℤ) → pos 0 ≤ℤ l → pos 0 <ℤ n → pos 0 ≤ℤ k → pos 0 ≤ℤ (l *ℤ n *ℤ k)
nn3 l n k hl hn hk = mul-nonneg (l *ℤ n) k (mul-nonneg l n hl (omega (arith, ints))) hk

pub within : (p q y z w : V) (l m n l1 m1 n1 l2 m2 n2 : ℤ) → IsComb l1 m1 n1 p q y → IsComb l2 m2 n2 p q z → IsComb l m n y z w
    → IsComb (l *ℤ n2 *ℤ l1 +ℤ m *ℤ n1 *ℤ l2) (l *ℤ n2 *ℤ m1 +ℤ m *ℤ n1 *ℤ m2) (n *ℤ n1 *ℤ n2) p q w
within p q y z w l m n l1 m1 n1 l2 m2 n2 hy hz hw = record {
  left = let a = nn3 l n2 l1 hw.left hz.scale hy.left in let b = nn3 m n1 l2 hw.right hy.scale hz.left in omega (arith, ints);
  right = let a = nn3 l n2 m1 hw.left hz.scale hy.right in let b = nn3 m n1 m2 hw.right hy.scale hz.right in omega (arith, ints);
  scale = mul-pos (n *ℤ n1) n2 (mul-pos n n1 hw.scale hy.scale) hz.scale;
  x = sum3 (n1 *ℤ n2) (l *ℤ n2) (m *ℤ n1) hw.x hy.x hz.x (within0 n n1 n2 l m l1 m1 l2 m2 w.x y.x z.x p.x q.x);
  y = sum3 (n1 *ℤ n2) (l *ℤ n2) (m *ℤ n1) hw.y hy.y hz.y (within0 n n1 n2 l m l1 m1 l2 m2 w.y y.y z.y p.y q.y);
  d = sum3 (n1 *ℤ n2) (l *ℤ n2) (m *ℤ n1) hw.d hy.d hz.d (within0 n n1 n2 l m l1 m1 l2 m2 w.d y.d z.d p.d q.d);
}

pub on_within : (p q y z w : V) → On p q y → On p q z → On y z w → On p q w
on_within p q y z w (l1, m1, n1, h1) (l2, m2, n2, h2) (l, m, n, h) = (l *ℤ n2 *ℤ l1 +ℤ m *ℤ n1 *ℤ l2, l *ℤ n2 *ℤ m1 +ℤ m *ℤ n1 *ℤ m2, n *ℤ n1 *ℤ n2, within p q y z w l m n l1 m1 n1 l2 m2 n2 h1 h2 h)

-- ---- strictly inside
pub record Inside (p q r : V) : Type 0 where
  pub l : ℤ
  pub m : ℤ
  pub n : ℤ
  pub comb : IsComb l m n p q r
  pub left : pos 0 <ℤ l
  pub right : pos 0 <ℤ m

-- ---- the wall p q: a segment r s with a point y below it and a point z not below, both in the sector from U to M, meets it strictly inside
pub base_blocks : (a p q r s y z : V) (U : Lin) → pos 0 <ℤ det p q a → at U p <ℤ pos 0 → pos 0 <ℤ at U q → On r s y → On r s z
    → pos 0 <ℤ det p q y → det p q z ≤ℤ pos 0 → pos 0 <ℤ at U y → pos 0 ≤ℤ at U z → pos 0 ≤ℤ det q a y → pos 0 <ℤ det q a z
    → (w : V) × On r s w × Inside p q w
base_blocks a p q r s y z U ea up uq oy oz ey ez uy uz my mz =
    let c = mean (neg_ℤ (det p q z)) (det p q y) y z (omega (arith, ints)) (omega (arith, ints)) in
    let w = c.0 in
    let e = value (edge p q) _ _ _ y z w c.1 in
    let u = value U _ _ _ y z w c.1 in
    let m = value (edge q a) _ _ _ y z w c.1 in
    let e0 : det p q w ≡ pos 0 = omega (arith, ints, neg-*ℤ (det p q z) (det p q y), *ℤ_comm (det p q z) (det p q y)) in
    let u0 : pos 0 ≤ℤ at U w = omega (arith, ints, mul-nonneg (neg_ℤ (det p q z)) (at U y) (omega (arith, ints)) (omega (arith, ints)), mul-nonneg (det p q y) (at U z) (omega (arith, ints)) uz) in
    let m0 : pos 0 <ℤ det q a w = omega (arith, ints, mul-nonneg (neg_ℤ (det p q z)) (det q a y) (omega (arith, ints)) my, mul-pos (det p q y) (det q a z) ey mz) in
    let b = bary U a p q w in
    let cyc = det-cycle a p q in
    let t : det p q w *ℤ at U a ≡ pos 0 = ap (λ (k : ℤ). k *ℤ at U a) e0 ∙ zero-*ℤ (at U a) in
    let f : pos 0 ≤ℤ (det a p q *ℤ at U w) = mul-nonneg (det a p q) (at U w) (omega (arith, ints)) u0 in
    let g : (det q a w *ℤ at U p) <ℤ pos 0 = mul-neg (det q a w) (at U p) m0 up in
    let k : pos 0 <ℤ (at U q *ℤ det a p w) = omega (arith, ints, *ℤ_comm (det a p w) (at U q)) in
    let lw : pos 0 <ℤ det a p w = pos-of-mul (at U q) (det a p w) uq k in (
      w,
      on_within r s y z w oy oz (_, _, _, c.1),
      record { l = det q a w; m = det a p w; n = det p q a; comb = comb_of_bary p q a w ea e0 (omega (arith, ints)) (omega (arith, ints)); left = m0; right = lw },
    )

pub inside_swap : (p q y : V) → Inside p q y → Inside q p y
inside_swap p q y h = record {
  l = h.m;
  m = h.l;
  n = h.n;
  left = h.right;
  right = h.left;
  comb = record { left = h.comb.right; right = h.comb.left; scale = h.comb.scale; x = let e = h.comb.x in omega (arith, ints); y = let e = h.comb.y in omega (arith, ints); d = let e = h.comb.d in omega (arith, ints) };
}
