-- Places along a line: the points at which a functional is 0, in the order of the direction (b, -a).
use Rattle.std.proofs.Common.{◌≡◌, ℤ, pos, ◌+ℤ◌, ◌*ℤ◌, ◌-ℤ◌, ◌≤ℤ◌, ◌<ℤ◌, neg_ℤ, arith, sym, ap, ◌∙◌, inl, inr, [], ◌∷◌}
use borrow.Author.Differences.{ints}
use lib.IntN.{*ℤ-zero, zero-*ℤ, *ℤ_comm}
use Rattle.math_base.proofs.IntLaws.{neg-*ℤ}
use Rattle.math_base.proofs.Quoting.{quoting, by_ring, combine2}
use Rattle.math_base.proofs.Signs.{mul-pos, mul-nonneg, nonneg-of-mul, zero-of-mul, same-of-mul, le_or_lt}
use Rattle.plane_base.proofs.Vec.{V, Lin, at, edge, det, On, value}
use Rattle.math_base.proofs.Ring.{same_of_difference}
use Rattle.math_base.proofs.Small.{zero_by_first, nonneg_of_same}

-- the place along the line, times d
abbrev pub ahead : Lin → Lin
ahead g = record { a = g.b; b = neg_ℤ g.a; c = pos 0 }

abbrev pub place : Lin → V → ℤ
place g r = at (ahead g) r

abbrev pub norm : Lin → ℤ
norm g = g.a *ℤ g.a +ℤ g.b *ℤ g.b

-- r isn't behind s
abbrev pub NotAfter : Lin → V → V → Type 0
NotAfter g r s = (place g r *ℤ s.d) ≤ℤ (place g s *ℤ r.d)

-- r is strictly before s
abbrev pub Before : Lin → V → V → Type 0
Before g r s = (place g r *ℤ s.d) <ℤ (place g s *ℤ r.d)

-- one point under two names
pub record SameV (r s : V) : Type 0 where
  pub x : r.x *ℤ s.d ≡ s.x *ℤ r.d
  pub y : r.y *ℤ s.d ≡ s.y *ℤ r.d

same_x_ring : (a b c rx ry rd sx sy sd : ℤ) → (a *ℤ a +ℤ b *ℤ b) *ℤ (rx *ℤ sd -ℤ sx *ℤ rd)
    ≡ a *ℤ ((a *ℤ rx +ℤ b *ℤ ry +ℤ c *ℤ rd) *ℤ sd -ℤ (a *ℤ sx +ℤ b *ℤ sy +ℤ c *ℤ sd) *ℤ rd)
    +ℤ b *ℤ ((b *ℤ rx +ℤ neg_ℤ a *ℤ ry +ℤ pos 0 *ℤ rd) *ℤ sd -ℤ (b *ℤ sx +ℤ neg_ℤ a *ℤ sy +ℤ pos 0 *ℤ sd) *ℤ rd)
same_x_ring a b c rx ry rd sx sy sd = by_ring (a ∷ b ∷ c ∷ rx ∷ ry ∷ rd ∷ sx ∷ sy ∷ sd ∷ []) _ _ (search quoting depth 60 fits 400000) (search quoting depth 60 fits 400000) tt

same_y_ring : (a b c rx ry rd sx sy sd : ℤ) → (a *ℤ a +ℤ b *ℤ b) *ℤ (ry *ℤ sd -ℤ sy *ℤ rd)
    ≡ b *ℤ ((a *ℤ rx +ℤ b *ℤ ry +ℤ c *ℤ rd) *ℤ sd -ℤ (a *ℤ sx +ℤ b *ℤ sy +ℤ c *ℤ sd) *ℤ rd)
    -ℤ a *ℤ ((b *ℤ rx +ℤ neg_ℤ a *ℤ ry +ℤ pos 0 *ℤ rd) *ℤ sd -ℤ (b *ℤ sx +ℤ neg_ℤ a *ℤ sy +ℤ pos 0 *ℤ sd) *ℤ rd)
same_y_ring a b c rx ry rd sx sy sd = by_ring (a ∷ b ∷ c ∷ rx ∷ ry ∷ rd ∷ sx ∷ sy ∷ sd ∷ []) _ _ (search quoting depth 60 fits 400000) (search quoting depth 60 fits 400000) tt

-- two points of the line at one place are one point
pub same_from_places : (g : Lin) (r s : V) → pos 0 <ℤ norm g → at g r ≡ pos 0 → at g s ≡ pos 0 → place g r *ℤ s.d ≡ place g s *ℤ r.d → SameV r s
unfolding at
same_from_places g r s hn er es e =
    let zr : at g r *ℤ s.d ≡ pos 0 = ap (λ (k : ℤ). k *ℤ s.d) er ∙ zero-*ℤ s.d in
    let zs : at g s *ℤ r.d ≡ pos 0 = ap (λ (k : ℤ). k *ℤ r.d) es ∙ zero-*ℤ r.d in
    let v : at g r *ℤ s.d -ℤ at g s *ℤ r.d ≡ pos 0 = gap _ _ (zr ∙ sym zs) in
    let h : place g r *ℤ s.d -ℤ place g s *ℤ r.d ≡ pos 0 = gap _ _ e in
    record {
      x = same_of_difference _ _ (zero-of-mul (norm g) _ hn (same_x_ring g.a g.b g.c r.x r.y r.d s.x s.y s.d ∙ added g.a g.b _ _ v h));
      y = same_of_difference _ _ (zero-of-mul (norm g) _ hn (same_y_ring g.a g.b g.c r.x r.y r.d s.x s.y s.d ∙ taken g.b g.a _ _ v h));
    }
  where
    gap : (x y : ℤ) → x ≡ y → x -ℤ y ≡ pos 0
    gap x y e = omega (arith, ints)

    added : (k l x y : ℤ) → x ≡ pos 0 → y ≡ pos 0 → k *ℤ x +ℤ l *ℤ y ≡ pos 0
    added k l x y e f = let p : k *ℤ x ≡ pos 0 = ap (λ (z : ℤ). k *ℤ z) e ∙ *ℤ-zero k in let q : l *ℤ y ≡ pos 0 = ap (λ (z : ℤ). l *ℤ z) f ∙ *ℤ-zero l in omega (arith, ints)

    taken : (k l x y : ℤ) → x ≡ pos 0 → y ≡ pos 0 → k *ℤ x -ℤ l *ℤ y ≡ pos 0
    taken k l x y e f = let p : k *ℤ x ≡ pos 0 = ap (λ (z : ℤ). k *ℤ z) e ∙ *ℤ-zero k in let q : l *ℤ y ≡ pos 0 = ap (λ (z : ℤ). l *ℤ z) f ∙ *ℤ-zero l in omega (arith, ints)

-- ---- between two places
mix_ring : (a b c g l m rx ry rd px py pd qx qy qd : ℤ) →
    a *ℤ (g *ℤ rx -ℤ (l *ℤ px +ℤ m *ℤ qx)) +ℤ b *ℤ (g *ℤ ry -ℤ (l *ℤ py +ℤ m *ℤ qy)) +ℤ c *ℤ (g *ℤ rd -ℤ (l *ℤ pd +ℤ m *ℤ qd))
    ≡ g *ℤ (a *ℤ rx +ℤ b *ℤ ry +ℤ c *ℤ rd) -ℤ (l *ℤ (a *ℤ px +ℤ b *ℤ py +ℤ c *ℤ pd) +ℤ m *ℤ (a *ℤ qx +ℤ b *ℤ qy +ℤ c *ℤ qd))
mix_ring a b c g l m rx ry rd px py pd qx qy qd =
    by_ring (a ∷ b ∷ c ∷ g ∷ l ∷ m ∷ rx ∷ ry ∷ rd ∷ px ∷ py ∷ pd ∷ qx ∷ qy ∷ qd ∷ []) _ _ (search quoting depth 80 fits 1000000) (search quoting depth 80 fits 1000000) tt

-- g r less l p and m q
abbrev mixed : ℤ → ℤ → ℤ → V → V → V → V
mixed g l m r p q = record { x = g *ℤ r.x -ℤ (l *ℤ p.x +ℤ m *ℤ q.x); y = g *ℤ r.y -ℤ (l *ℤ p.y +ℤ m *ℤ q.y); d = g *ℤ r.d -ℤ (l *ℤ p.d +ℤ m *ℤ q.d) }

at_mixed : (f : Lin) (g l m : ℤ) (r p q : V) → at f (mixed g l m r p q) ≡ g *ℤ at f r -ℤ (l *ℤ at f p +ℤ m *ℤ at f q)
unfolding at
at_mixed f g l m r p q = mix_ring f.a f.b f.c g l m r.x r.y r.d p.x p.y p.d q.x q.y q.d

flat_x_ring : (a b c x y d : ℤ) → (a *ℤ a +ℤ b *ℤ b) *ℤ x ≡ a *ℤ (a *ℤ x +ℤ b *ℤ y +ℤ c *ℤ d) +ℤ b *ℤ (b *ℤ x +ℤ neg_ℤ a *ℤ y +ℤ pos 0 *ℤ d) -ℤ a *ℤ c *ℤ d
flat_x_ring a b c x y d = by_ring (a ∷ b ∷ c ∷ x ∷ y ∷ d ∷ []) _ _ (search quoting depth 60 fits 400000) (search quoting depth 60 fits 400000) tt

flat_y_ring : (a b c x y d : ℤ) → (a *ℤ a +ℤ b *ℤ b) *ℤ y ≡ b *ℤ (a *ℤ x +ℤ b *ℤ y +ℤ c *ℤ d) -ℤ a *ℤ (b *ℤ x +ℤ neg_ℤ a *ℤ y +ℤ pos 0 *ℤ d) -ℤ b *ℤ c *ℤ d
flat_y_ring a b c x y d = by_ring (a ∷ b ∷ c ∷ x ∷ y ∷ d ∷ []) _ _ (search quoting depth 60 fits 400000) (search quoting depth 60 fits 400000) tt

-- a vector at which the functional, the place and the last number are 0 is 0
flat_x : (g : Lin) (v : V) → pos 0 <ℤ norm g → at g v ≡ pos 0 → place g v ≡ pos 0 → v.d ≡ pos 0 → v.x ≡ pos 0
unfolding at
flat_x g v hn e f z = zero-of-mul (norm g) v.x hn (flat_x_ring g.a g.b g.c v.x v.y v.d ∙ nothing g.a g.b (g.a *ℤ g.c) _ _ v.d e f z)
  where
    nothing : (k l m x y d : ℤ) → x ≡ pos 0 → y ≡ pos 0 → d ≡ pos 0 → k *ℤ x +ℤ l *ℤ y -ℤ m *ℤ d ≡ pos 0
    nothing k l m x y d e f z = let p : k *ℤ x ≡ pos 0 = ap (λ (z : ℤ). k *ℤ z) e ∙ *ℤ-zero k in let q : l *ℤ y ≡ pos 0 = ap (λ (z : ℤ). l *ℤ z) f ∙ *ℤ-zero l in let s : m *ℤ d ≡ pos 0 = ap (λ (z : ℤ). m *ℤ z) z ∙ *ℤ-zero m in omega (arith, ints)

flat_y : (g : Lin) (v : V) → pos 0 <ℤ norm g → at g v ≡ pos 0 → place g v ≡ pos 0 → v.d ≡ pos 0 → v.y ≡ pos 0
unfolding at
flat_y g v hn e f z = zero-of-mul (norm g) v.y hn (flat_y_ring g.a g.b g.c v.x v.y v.d ∙ nothing g.b g.a (g.b *ℤ g.c) _ _ v.d e f z)
  where
    nothing : (k l m x y d : ℤ) → x ≡ pos 0 → y ≡ pos 0 → d ≡ pos 0 → k *ℤ x -ℤ l *ℤ y -ℤ m *ℤ d ≡ pos 0
    nothing k l m x y d e f z = let p : k *ℤ x ≡ pos 0 = ap (λ (z : ℤ). k *ℤ z) e ∙ *ℤ-zero k in let q : l *ℤ y ≡ pos 0 = ap (λ (z : ℤ). l *ℤ z) f ∙ *ℤ-zero l in let s : m *ℤ d ≡ pos 0 = ap (λ (z : ℤ). m *ℤ z) z ∙ *ℤ-zero m in omega (arith, ints)

mix_place : (hp dp hq dq hr dr : ℤ) → (hq *ℤ dp -ℤ hp *ℤ dq) *ℤ hr -ℤ ((hq *ℤ dr -ℤ hr *ℤ dq) *ℤ hp +ℤ (hr *ℤ dp -ℤ hp *ℤ dr) *ℤ hq) ≡ pos 0
mix_place hp dp hq dq hr dr = by_ring (hp ∷ dp ∷ hq ∷ dq ∷ hr ∷ dr ∷ []) _ _ (search quoting depth 60 fits 400000) (search quoting depth 60 fits 400000) tt

mix_last : (hp dp hq dq hr dr : ℤ) → (hq *ℤ dp -ℤ hp *ℤ dq) *ℤ dr -ℤ ((hq *ℤ dr -ℤ hr *ℤ dq) *ℤ dp +ℤ (hr *ℤ dp -ℤ hp *ℤ dr) *ℤ dq) ≡ pos 0
mix_last hp dp hq dq hr dr = by_ring (hp ∷ dp ∷ hq ∷ dq ∷ hr ∷ dr ∷ []) _ _ (search quoting depth 60 fits 400000) (search quoting depth 60 fits 400000) tt

-- a point of the line that isn't before p nor after q is on the segment
pub between : (g : Lin) (p q r : V) → pos 0 <ℤ norm g → pos 0 <ℤ p.d → pos 0 <ℤ q.d → pos 0 <ℤ r.d → at g p ≡ pos 0 → at g q ≡ pos 0 → at g r ≡ pos 0 → NotAfter g p r → NotAfter g r q → On p q r
between g p q r hn pd qd rd ep eq er h k =
    let l = place g q *ℤ r.d -ℤ place g r *ℤ q.d in
    let m = place g r *ℤ p.d -ℤ place g p *ℤ r.d in
    let n = place g q *ℤ p.d -ℤ place g p *ℤ q.d in
    let hl : pos 0 ≤ℤ l = above _ _ k in
    let hm : pos 0 ≤ℤ m = above _ _ h in
    elim (le_or_lt n (pos 0)) as (λ _. On p q r) [
      | inl z ↦ at_start g p q r hn pd rd ep er (whole _ _ h (no_more l m n p.d q.d r.d pd qd rd hl hm z (mix_last (place g p) p.d (place g q) q.d (place g r) r.d)))
      | inr z ↦
          let v = mixed n l m r p q in
          let zero : at g v ≡ pos 0 = at_mixed g n l m r p q ∙ none n l m _ _ _ er ep eq in
          let still : place g v ≡ pos 0 = at_mixed (ahead g) n l m r p q ∙ mix_place (place g p) p.d (place g q) q.d (place g r) r.d in
          let last : v.d ≡ pos 0 = mix_last (place g p) p.d (place g q) q.d (place g r) r.d in (
            l,
            m,
            n,
            record {
              left = hl;
              right = hm;
              scale = z;
              x = same_of_difference _ _ (flat_x g v hn zero still last);
              y = same_of_difference _ _ (flat_y g v hn zero still last);
              d = same_of_difference _ _ last;
            },
          )
    ]
  where
    above : (x y : ℤ) → x ≤ℤ y → pos 0 ≤ℤ (y -ℤ x)
    above x y e = omega (arith, ints)

    whole : (x y : ℤ) → x ≤ℤ y → (y -ℤ x) ≤ℤ pos 0 → x ≡ y
    whole x y e f = omega (arith, ints)

    none : (n l m x y z : ℤ) → x ≡ pos 0 → y ≡ pos 0 → z ≡ pos 0 → n *ℤ x -ℤ (l *ℤ y +ℤ m *ℤ z) ≡ pos 0
    none n l m x y z e f g = let p : n *ℤ x ≡ pos 0 = ap (λ (z : ℤ). n *ℤ z) e ∙ *ℤ-zero n in let q : l *ℤ y ≡ pos 0 = ap (λ (z : ℤ). l *ℤ z) f ∙ *ℤ-zero l in let s : m *ℤ z ≡ pos 0 = ap (λ (z : ℤ). m *ℤ z) g ∙ *ℤ-zero m in omega (arith, ints)

    -- n isn't above 0, so m isn't
    no_more : (l m n pd qd rd : ℤ) → pos 0 <ℤ pd → pos 0 <ℤ qd → pos 0 <ℤ rd → pos 0 ≤ℤ l → pos 0 ≤ℤ m → n ≤ℤ pos 0 → n *ℤ rd -ℤ (l *ℤ pd +ℤ m *ℤ qd) ≡ pos 0 → m ≤ℤ pos 0
    no_more l m n pd qd rd hp hq hr hl hm hn e = elim (le_or_lt m (pos 0)) as (λ _. m ≤ℤ pos 0) [
      | inl k ↦ k
      | inr k ↦ absurd (omega (arith, ints, mul-pos m qd k hq, mul-nonneg l pd hl (omega (arith, ints)), mul-nonneg (neg_ℤ n) rd (omega (arith, ints)) (omega (arith, ints)), neg-*ℤ n rd))
    ]

    at_start : (g : Lin) (p q r : V) → pos 0 <ℤ norm g → pos 0 <ℤ p.d → pos 0 <ℤ r.d → at g p ≡ pos 0 → at g r ≡ pos 0 → place g p *ℤ r.d ≡ place g r *ℤ p.d → On p q r
    at_start g p q r hn pd rd ep er e =
        let s = same_from_places g p r hn ep er e in
        (r.d, pos 0, p.d, record { left = omega (arith, ints); right = omega (arith, ints); scale = pd; x = alone p.d r.x r.d p.x q.x s.x; y = alone p.d r.y r.d p.y q.y s.y; d = alone p.d r.d r.d p.d q.d (*ℤ_comm p.d r.d) })
      where
        alone : (pd rx rd px qx : ℤ) → px *ℤ rd ≡ rx *ℤ pd → pd *ℤ rx ≡ rd *ℤ px +ℤ pos 0 *ℤ qx
        alone pd rx rd px qx e = omega (arith, ints)

-- ---- a point of a segment on the line
on_place_ring : (hp dp hq dq l m : ℤ) → (l *ℤ hp +ℤ m *ℤ hq) *ℤ dp -ℤ hp *ℤ (l *ℤ dp +ℤ m *ℤ dq) ≡ m *ℤ (hq *ℤ dp -ℤ hp *ℤ dq)
on_place_ring hp dp hq dq l m = by_ring (hp ∷ dp ∷ hq ∷ dq ∷ l ∷ m ∷ []) _ _ (search quoting depth 60 fits 400000) (search quoting depth 60 fits 400000) tt

off_place_ring : (hp dp hq dq l m : ℤ) → hq *ℤ (l *ℤ dp +ℤ m *ℤ dq) -ℤ (l *ℤ hp +ℤ m *ℤ hq) *ℤ dq ≡ l *ℤ (hq *ℤ dp -ℤ hp *ℤ dq)
off_place_ring hp dp hq dq l m = by_ring (hp ∷ dp ∷ hq ∷ dq ∷ l ∷ m ∷ []) _ _ (search quoting depth 60 fits 400000) (search quoting depth 60 fits 400000) tt

-- it is on the line
pub on_line : (g : Lin) (p q r : V) → at g p ≡ pos 0 → at g q ≡ pos 0 → On p q r → at g r ≡ pos 0
on_line g p q r ep eq (l, m, n, h) =
    let e = value g l m n p q r h in
    let z : l *ℤ at g p ≡ pos 0 = ap (λ (k : ℤ). l *ℤ k) ep ∙ *ℤ-zero l in
    let t : m *ℤ at g q ≡ pos 0 = ap (λ (k : ℤ). m *ℤ k) eq ∙ *ℤ-zero m in
    zero-of-mul n (at g r) h.scale (omega (arith, ints))

scaled_gap : (n hr d dr x : ℤ) → n *ℤ hr ≡ x → (d2 y : ℤ) → n *ℤ dr ≡ y → n *ℤ (hr *ℤ d -ℤ d2 *ℤ dr) ≡ x *ℤ d -ℤ d2 *ℤ y
scaled_gap n hr d dr x e d2 y f = combine2 d (neg_ℤ d2) e f (by_ring (n ∷ hr ∷ d ∷ dr ∷ x ∷ d2 ∷ y ∷ []) _ _ (search quoting depth 60 fits 400000) (search quoting depth 60 fits 400000) tt)

scaled_gap_back : (n hr d dr x : ℤ) → n *ℤ hr ≡ x → (d2 y : ℤ) → n *ℤ dr ≡ y → n *ℤ (d2 *ℤ dr -ℤ hr *ℤ d) ≡ d2 *ℤ y -ℤ x *ℤ d
scaled_gap_back n hr d dr x e d2 y f = combine2 (neg_ℤ d) d2 e f (by_ring (n ∷ hr ∷ d ∷ dr ∷ x ∷ d2 ∷ y ∷ []) _ _ (search quoting depth 60 fits 400000) (search quoting depth 60 fits 400000) tt)

-- it isn't before the segment's first end, if the ends are in order
pub not_before_start : (g : Lin) (p q r : V) → NotAfter g p q → On p q r → NotAfter g p r
not_before_start g p q r h (l, m, n, c) =
    let e = value (ahead g) l m n p q r c in
    let k : pos 0 ≤ℤ (m *ℤ (place g q *ℤ p.d -ℤ place g p *ℤ q.d)) = mul-nonneg m _ c.right (omega (arith, ints)) in
    let i = scaled_gap n (place g r) p.d r.d _ e (place g p) _ c.d ∙ on_place_ring (place g p) p.d (place g q) q.d l m in
    let w : pos 0 ≤ℤ (place g r *ℤ p.d -ℤ place g p *ℤ r.d) = nonneg-of-mul n _ c.scale (nonneg_of_same _ _ i k) in
    omega (arith, ints)

-- nor after its second
pub not_after_stop : (g : Lin) (p q r : V) → NotAfter g p q → On p q r → NotAfter g r q
not_after_stop g p q r h (l, m, n, c) =
    let e = value (ahead g) l m n p q r c in
    let k : pos 0 ≤ℤ (l *ℤ (place g q *ℤ p.d -ℤ place g p *ℤ q.d)) = mul-nonneg l _ c.left (omega (arith, ints)) in
    let i = scaled_gap_back n (place g r) q.d r.d _ e (place g q) _ c.d ∙ off_place_ring (place g p) p.d (place g q) q.d l m in
    let w : pos 0 ≤ℤ (place g q *ℤ r.d -ℤ place g r *ℤ q.d) = nonneg-of-mul n _ c.scale (nonneg_of_same _ _ i k) in
    omega (arith, ints)

-- ---- where the line crosses a segment whose ends are strictly on different sides
-- the crossing's place is num / den
abbrev pub num : Lin → V → V → ℤ
num g u v = at g u *ℤ place g v -ℤ at g v *ℤ place g u

abbrev pub den : Lin → V → V → ℤ
den g u v = at g u *ℤ v.d -ℤ at g v *ℤ u.d

crossing_ring : (gu gv hu hv ud vd l m : ℤ) → (l *ℤ hu +ℤ m *ℤ hv) *ℤ (gu *ℤ vd -ℤ gv *ℤ ud) -ℤ (gu *ℤ hv -ℤ gv *ℤ hu) *ℤ (l *ℤ ud +ℤ m *ℤ vd) ≡ (l *ℤ gu +ℤ m *ℤ gv) *ℤ (hu *ℤ vd -ℤ hv *ℤ ud)
crossing_ring gu gv hu hv ud vd l m = by_ring (gu ∷ gv ∷ hu ∷ hv ∷ ud ∷ vd ∷ l ∷ m ∷ []) _ _ (search quoting depth 60 fits 400000) (search quoting depth 60 fits 400000) tt

pub crossing_place : (g : Lin) (u v r : V) → On u v r → at g r ≡ pos 0 → place g r *ℤ den g u v ≡ num g u v *ℤ r.d
crossing_place g u v r (l, m, n, c) e =
    let f = value g l m n u v r c in
    let h = value (ahead g) l m n u v r c in
    let i = scaled_gap n (place g r) (den g u v) r.d _ h (num g u v) _ c.d ∙ crossing_ring (at g u) (at g v) (place g u) (place g v) u.d v.d l m in
    same_of_difference _ _ (zero-of-mul n _ c.scale (i ∙ zero_by_first _ _ (sym f ∙ ap (λ (k : ℤ). n *ℤ k) e ∙ *ℤ-zero n)))

-- it is one point
pub crossing_one : (g : Lin) (u v r s : V) → pos 0 <ℤ den g u v → On u v r → at g r ≡ pos 0 → On u v s → at g s ≡ pos 0 → place g r *ℤ s.d ≡ place g s *ℤ r.d
crossing_one g u v r s hd or er os es = same-of-mul (den g u v) _ _ hd (cross (den g u v) (num g u v) (place g r) r.d (place g s) s.d (crossing_place g u v r or er) (crossing_place g u v s os es))
  where
    cross : (k n hr dr hs ds : ℤ) → hr *ℤ k ≡ n *ℤ dr → hs *ℤ k ≡ n *ℤ ds → k *ℤ (hr *ℤ ds) ≡ k *ℤ (hs *ℤ dr)
    cross k n hr dr hs ds e f = combine2 ds (neg_ℤ dr) e f (by_ring (k ∷ n ∷ hr ∷ dr ∷ hs ∷ ds ∷ []) _ _ (search quoting depth 60 fits 400000) (search quoting depth 60 fits 400000) tt)

-- ---- the turn at a crossed segment tells whether a point of the line is behind its crossing
turn_ring : (a b c ux uy ud vx vy vd rx ry rd : ℤ) → (a *ℤ a +ℤ b *ℤ b) *ℤ ((uy *ℤ vd -ℤ ud *ℤ vy) *ℤ rx +ℤ (ud *ℤ vx -ℤ ux *ℤ vd) *ℤ ry +ℤ (ux *ℤ vy -ℤ uy *ℤ vx) *ℤ rd)
    ≡ ((b *ℤ rx +ℤ neg_ℤ a *ℤ ry +ℤ pos 0 *ℤ rd) *ℤ ((a *ℤ ux +ℤ b *ℤ uy +ℤ c *ℤ ud) *ℤ vd -ℤ (a *ℤ vx +ℤ b *ℤ vy +ℤ c *ℤ vd) *ℤ ud)
    -ℤ ((a *ℤ ux +ℤ b *ℤ uy +ℤ c *ℤ ud) *ℤ (b *ℤ vx +ℤ neg_ℤ a *ℤ vy +ℤ pos 0 *ℤ vd) -ℤ (a *ℤ vx +ℤ b *ℤ vy +ℤ c *ℤ vd) *ℤ (b *ℤ ux +ℤ neg_ℤ a *ℤ uy +ℤ pos 0 *ℤ ud)) *ℤ rd)
    -ℤ (a *ℤ rx +ℤ b *ℤ ry +ℤ c *ℤ rd) *ℤ ((b *ℤ ux +ℤ neg_ℤ a *ℤ uy +ℤ pos 0 *ℤ ud) *ℤ vd -ℤ (b *ℤ vx +ℤ neg_ℤ a *ℤ vy +ℤ pos 0 *ℤ vd) *ℤ ud)
turn_ring a b c ux uy ud vx vy vd rx ry rd = by_ring (a ∷ b ∷ c ∷ ux ∷ uy ∷ ud ∷ vx ∷ vy ∷ vd ∷ rx ∷ ry ∷ rd ∷ []) _ _ (search quoting depth 80 fits 900000) (search quoting depth 80 fits 900000) tt

pub turn_tells : (g : Lin) (u v r : V) → at g r ≡ pos 0 → norm g *ℤ det u v r ≡ place g r *ℤ den g u v -ℤ num g u v *ℤ r.d
unfolding at edge
turn_tells g u v r e = turn_ring g.a g.b g.c u.x u.y u.d v.x v.y v.d r.x r.y r.d ∙ dropped _ _ _ e
  where
    dropped : (x z k : ℤ) → z ≡ pos 0 → x -ℤ z *ℤ k ≡ x
    dropped x z k e = let p : z *ℤ k ≡ pos 0 = ap (λ (s : ℤ). s *ℤ k) e ∙ zero-*ℤ k in omega (arith, ints)

-- against the crossing itself
pub turn_at_crossing : (g : Lin) (u v x r : V) → On u v x → at g x ≡ pos 0 → at g r ≡ pos 0 → norm g *ℤ x.d *ℤ det u v r ≡ den g u v *ℤ (place g r *ℤ x.d -ℤ place g x *ℤ r.d)
turn_at_crossing g u v x r o ex er = combine2 x.d r.d (turn_tells g u v r er) (crossing_place g u v x o ex) (behind_ring (norm g) (det u v r) (place g r) (den g u v) (num g u v) r.d (place g x) x.d)
  where
    behind_ring : (n t hr k m rd hx xd : ℤ) → n *ℤ xd *ℤ t -ℤ k *ℤ (hr *ℤ xd -ℤ hx *ℤ rd) ≡ xd *ℤ (n *ℤ t -ℤ (hr *ℤ k -ℤ m *ℤ rd)) +ℤ rd *ℤ (hx *ℤ k -ℤ m *ℤ xd)
    behind_ring n t hr k m rd hx xd = by_ring (n ∷ t ∷ hr ∷ k ∷ m ∷ rd ∷ hx ∷ xd ∷ []) _ _ (search quoting depth 60 fits 400000) (search quoting depth 60 fits 400000) tt
