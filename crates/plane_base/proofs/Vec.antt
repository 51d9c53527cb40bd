-- Vectors of three whole numbers, functionals, weighted means. A point (x, y, d) is the vector; a whole point has d = 1.
use Rattle.std.proofs.Common.{◌≡◌, ℤ, pos, ◌+ℤ◌, ◌*ℤ◌, ◌-ℤ◌, ◌≤ℤ◌, ◌<ℤ◌, neg_ℤ, arith, sym, ap, ◌∙◌, [], ◌∷◌}
use borrow.Author.Differences.{ints}
use lib.IntN.{*ℤ-zero, zero-*ℤ}
use Rattle.math_base.proofs.Quoting.{quoting, by_ring}

pub record V : Type 0 where
  pub x : ℤ
  pub y : ℤ
  pub d : ℤ

pub record Lin : Type 0 where
  pub a : ℤ
  pub b : ℤ
  pub c : ℤ

-- the value of a functional
unfoldable pub at : Lin → V → ℤ
at f r = f.a *ℤ r.x +ℤ f.b *ℤ r.y +ℤ f.c *ℤ r.d

-- the functional of the directed edge from p to q: positive on the left
unfoldable pub edge : V → V → Lin
edge p q = record { a = p.y *ℤ q.d -ℤ p.d *ℤ q.y; b = p.d *ℤ q.x -ℤ p.x *ℤ q.d; c = p.x *ℤ q.y -ℤ p.y *ℤ q.x }

abbrev pub det : V → V → V → ℤ
det p q r = at (edge p q) r

-- n r = l p + m q as vectors
pub record IsComb (l m n : ℤ) (p q r : V) : Type 0 where
  pub left : pos 0 ≤ℤ l
  pub right : pos 0 ≤ℤ m
  pub scale : pos 0 <ℤ n
  pub x : n *ℤ r.x ≡ l *ℤ p.x +ℤ m *ℤ q.x
  pub y : n *ℤ r.y ≡ l *ℤ p.y +ℤ m *ℤ q.y
  pub d : n *ℤ r.d ≡ l *ℤ p.d +ℤ m *ℤ q.d

abbrev pub On : V → V → V → Type 0
On p q r = (l m n : ℤ) × IsComb l m n p q r

pub sum3 : {x y a b c d u v : ℤ} (k l m : ℤ) → a ≡ b → c ≡ d → u ≡ v → x -ℤ y ≡ k *ℤ (a -ℤ b) +ℤ l *ℤ (c -ℤ d) +ℤ m *ℤ (u -ℤ v) → x ≡ y
sum3 {x} {y} {a} {b} {c} {d} {u} {v} k l m h i j e =
    let z : a -ℤ b ≡ pos 0 = omega (arith, ints) in
    let w : c -ℤ d ≡ pos 0 = omega (arith, ints) in
    let t : u -ℤ v ≡ pos 0 = omega (arith, ints) in
    let p : k *ℤ (a -ℤ b) ≡ pos 0 = ap (λ (s : ℤ). k *ℤ s) z ∙ *ℤ-zero k in
    let q : l *ℤ (c -ℤ d) ≡ pos 0 = ap (λ (s : ℤ). l *ℤ s) w ∙ *ℤ-zero l in
    let r : m *ℤ (u -ℤ v) ≡ pos 0 = ap (λ (s : ℤ). m *ℤ s) t ∙ *ℤ-zero m in
    omega (arith, ints)

value_ring : (a b c n l m rx ry rd px py pd qx qy qd : ℤ) →
    n *ℤ (a *ℤ rx +ℤ b *ℤ ry +ℤ c *ℤ rd) -ℤ (l *ℤ (a *ℤ px +ℤ b *ℤ py +ℤ c *ℤ pd) +ℤ m *ℤ (a *ℤ qx +ℤ b *ℤ qy +ℤ c *ℤ qd))
    ≡ a *ℤ (n *ℤ rx -ℤ (l *ℤ px +ℤ m *ℤ qx)) +ℤ b *ℤ (n *ℤ ry -ℤ (l *ℤ py +ℤ m *ℤ qy)) +ℤ c *ℤ (n *ℤ rd -ℤ (l *ℤ pd +ℤ m *ℤ qd))
value_ring a b c n l m rx ry rd px py pd qx qy qd = by_ring (a ∷ b ∷ c ∷ n ∷ l ∷ m ∷ rx ∷ ry ∷ rd ∷ px ∷ py ∷ pd ∷ qx ∷ qy ∷ qd ∷ []) _ _ (search quoting depth 60 fits 1000000) (search quoting depth 60 fits 1000000) tt

-- the value at a mean
pub value : (f : Lin) (l m n : ℤ) (p q r : V) → IsComb l m n p q r → n *ℤ at f r ≡ l *ℤ at f p +ℤ m *ℤ at f q
unfolding at
value f l m n p q r h = sum3 f.a f.b f.c h.x h.y h.d (value_ring f.a f.b f.c n l m r.x r.y r.d p.x p.y p.d q.x q.y q.d)

-- the mean with given weights
pub mean : (l m : ℤ) (p q : V) → pos 0 ≤ℤ l → pos 0 ≤ℤ m → (r : V) × IsComb l m (pos 1) p q r
mean l m p q hl hm = (record { x = l *ℤ p.x +ℤ m *ℤ q.x; y = l *ℤ p.y +ℤ m *ℤ q.y; d = l *ℤ p.d +ℤ m *ℤ q.d }, record { left = hl; right = hm; scale = omega (arith, ints); x = omega (arith, ints); y = omega (arith, ints); d = omega (arith, ints) })

-- ---- the one identity
bary_x0 : (ax ay ad bx by bd cx cy cd rx ry rd : ℤ) →
    let a : V = record { x = ax; y = ay; d = ad } in let b : V = record { x = bx; y = by; d = bd } in let c : V = record { x = cx; y = cy; d = cd } in let r : V = record { x = rx; y = ry; d = rd } in
    det a b c *ℤ r.x ≡ det b c r *ℤ a.x +ℤ det c a r *ℤ b.x +ℤ det a b r *ℤ c.x
unfolding at edge
bary_x0 ax ay ad bx by bd cx cy cd rx ry rd = by_ring (ax ∷ ay ∷ ad ∷ bx ∷ by ∷ bd ∷ cx ∷ cy ∷ cd ∷ rx ∷ ry ∷ rd ∷ []) _ _ (search quoting depth 60 fits 1000000) (search quoting depth 60 fits 1000000) tt

bary_y0 : (ax ay ad bx by bd cx cy cd rx ry rd : ℤ) →
    let a : V = record { x = ax; y = ay; d = ad } in let b : V = record { x = bx; y = by; d = bd } in let c : V = record { x = cx; y = cy; d = cd } in let r : V = record { x = rx; y = ry; d = rd } in
    det a b c *ℤ r.y ≡ det b c r *ℤ a.y +ℤ det c a r *ℤ b.y +ℤ det a b r *ℤ c.y
unfolding at edge
bary_y0 ax ay ad bx by bd cx cy cd rx ry rd = by_ring (ax ∷ ay ∷ ad ∷ bx ∷ by ∷ bd ∷ cx ∷ cy ∷ cd ∷ rx ∷ ry ∷ rd ∷ []) _ _ (search quoting depth 60 fits 1000000) (search quoting depth 60 fits 1000000) tt

bary_d0 : (ax ay ad bx by bd cx cy cd rx ry rd : ℤ) →
    let a : V = record { x = ax; y = ay; d = ad } in let b : V = record { x = bx; y = by; d = bd } in let c : V = record { x = cx; y = cy; d = cd } in let r : V = record { x = rx; y = ry; d = rd } in
    det a b c *ℤ r.d ≡ det b c r *ℤ a.d +ℤ det c a r *ℤ b.d +ℤ det a b r *ℤ c.d
unfolding at edge
bary_d0 ax ay ad bx by bd cx cy cd rx ry rd = by_ring (ax ∷ ay ∷ ad ∷ bx ∷ by ∷ bd ∷ cx ∷ cy ∷ cd ∷ rx ∷ ry ∷ rd ∷ []) _ _ (search quoting depth 60 fits 1000000) (search quoting depth 60 fits 1000000) tt

pub bary_x : (a b c r : V) → det a b c *ℤ r.x ≡ det b c r *ℤ a.x +ℤ det c a r *ℤ b.x +ℤ det a b r *ℤ c.x
bary_x a b c r = bary_x0 a.x a.y a.d b.x b.y b.d c.x c.y c.d r.x r.y r.d

pub bary_y : (a b c r : V) → det a b c *ℤ r.y ≡ det b c r *ℤ a.y +ℤ det c a r *ℤ b.y +ℤ det a b r *ℤ c.y
bary_y a b c r = bary_y0 a.x a.y a.d b.x b.y b.d c.x c.y c.d r.x r.y r.d

pub bary_d : (a b c r : V) → det a b c *ℤ r.d ≡ det b c r *ℤ a.d +ℤ det c a r *ℤ b.d +ℤ det a b r *ℤ c.d
bary_d a b c r = bary_d0 a.x a.y a.d b.x b.y b.d c.x c.y c.d r.x r.y r.d

bary_ring : (fa fb fc D k l m rx ry rd ax ay ad bx by bd cx cy cd : ℤ) →
    D *ℤ (fa *ℤ rx +ℤ fb *ℤ ry +ℤ fc *ℤ rd) -ℤ (k *ℤ (fa *ℤ ax +ℤ fb *ℤ ay +ℤ fc *ℤ ad) +ℤ l *ℤ (fa *ℤ bx +ℤ fb *ℤ by +ℤ fc *ℤ bd) +ℤ m *ℤ (fa *ℤ cx +ℤ fb *ℤ cy +ℤ fc *ℤ cd))
    ≡ fa *ℤ (D *ℤ rx -ℤ (k *ℤ ax +ℤ l *ℤ bx +ℤ m *ℤ cx)) +ℤ fb *ℤ (D *ℤ ry -ℤ (k *ℤ ay +ℤ l *ℤ by +ℤ m *ℤ cy)) +ℤ fc *ℤ (D *ℤ rd -ℤ (k *ℤ ad +ℤ l *ℤ bd +ℤ m *ℤ cd))
bary_ring fa fb fc D k l m rx ry rd ax ay ad bx by bd cx cy cd = by_ring (fa ∷ fb ∷ fc ∷ D ∷ k ∷ l ∷ m ∷ rx ∷ ry ∷ rd ∷ ax ∷ ay ∷ ad ∷ bx ∷ by ∷ bd ∷ cx ∷ cy ∷ cd ∷ []) _ _ (search quoting depth 80 fits 1000000) (search quoting depth 80 fits 1000000) tt

-- and at a functional
pub bary : (f : Lin) (a b c r : V) → det a b c *ℤ at f r ≡ det b c r *ℤ at f a +ℤ det c a r *ℤ at f b +ℤ det a b r *ℤ at f c
unfolding at
bary f a b c r = sum3 f.a f.b f.c (bary_x a b c r) (bary_y a b c r) (bary_d a b c r) (bary_ring f.a f.b f.c (det a b c) (det b c r) (det c a r) (det a b r) r.x r.y r.d a.x a.y a.d b.x b.y b.d c.x c.y c.d)

-- ---- the determinant alternates
swap0 : (ax ay ad bx by bd cx cy cd : ℤ) →
    let a : V = record { x = ax; y = ay; d = ad } in let b : V = record { x = bx; y = by; d = bd } in let c : V = record { x = cx; y = cy; d = cd } in
    det b a c ≡ neg_ℤ (det a b c)
unfolding at edge
swap0 ax ay ad bx by bd cx cy cd = by_ring (ax ∷ ay ∷ ad ∷ bx ∷ by ∷ bd ∷ cx ∷ cy ∷ cd ∷ []) _ _ (search quoting depth 60 fits 1000000) (search quoting depth 60 fits 1000000) tt

pub det-swap : (a b c : V) → det b a c ≡ neg_ℤ (det a b c)
det-swap a b c = swap0 a.x a.y a.d b.x b.y b.d c.x c.y c.d

cycle0 : (ax ay ad bx by bd cx cy cd : ℤ) →
    let a : V = record { x = ax; y = ay; d = ad } in let b : V = record { x = bx; y = by; d = bd } in let c : V = record { x = cx; y = cy; d = cd } in
    det b c a ≡ det a b c
unfolding at edge
cycle0 ax ay ad bx by bd cx cy cd = by_ring (ax ∷ ay ∷ ad ∷ bx ∷ by ∷ bd ∷ cx ∷ cy ∷ cd ∷ []) _ _ (search quoting depth 60 fits 1000000) (search quoting depth 60 fits 1000000) tt

pub det-cycle : (a b c : V) → det b c a ≡ det a b c
det-cycle a b c = cycle0 a.x a.y a.d b.x b.y b.d c.x c.y c.d

pub det-first : (a b : V) → det a b a ≡ pos 0
det-first a b = let s = det-swap a a b in let c = det-cycle a a b in let e = det-cycle a b a in omega (arith, ints)

pub det-last : (a b : V) → det a b b ≡ pos 0
det-last a b = let s = det-swap b b a in let c = det-cycle b b a in let e = det-cycle a b b in omega (arith, ints)

-- ---- a vector on the line of a and b
pub comb_of_bary : (a b c r : V) → pos 0 <ℤ det a b c → det a b r ≡ pos 0 → pos 0 ≤ℤ det b c r → pos 0 ≤ℤ det c a r → IsComb (det b c r) (det c a r) (det a b c) a b r
comb_of_bary a b c r h z k l = record {
  left = k;
  right = l;
  scale = h;
  x = let e = bary_x a b c r in let t : det a b r *ℤ c.x ≡ pos 0 = ap (λ (s : ℤ). s *ℤ c.x) z ∙ zero-*ℤ c.x in omega (arith, ints);
  y = let e = bary_y a b c r in let t : det a b r *ℤ c.y ≡ pos 0 = ap (λ (s : ℤ). s *ℤ c.y) z ∙ zero-*ℤ c.y in omega (arith, ints);
  d = let e = bary_d a b c r in let t : det a b r *ℤ c.d ≡ pos 0 = ap (λ (s : ℤ). s *ℤ c.d) z ∙ zero-*ℤ c.d in omega (arith, ints);
}

-- ---- the fan identity: any functional that is 0 at a
pub fan : (f : Lin) (a x y z : V) → at f a ≡ pos 0 → det a x z *ℤ at f y ≡ det a y z *ℤ at f x +ℤ det a x y *ℤ at f z
fan f a x y z e =
    let b = bary f a x z y in
    let t : det x z y *ℤ at f a ≡ pos 0 = ap (λ (s : ℤ). det x z y *ℤ s) e ∙ *ℤ-zero (det x z y) in
    let c : det z a y *ℤ at f x ≡ det a y z *ℤ at f x = ap (λ (s : ℤ). s *ℤ at f x) (sym (det-cycle z a y)) in
    omega (arith, ints)

-- ---- sums and multiples
abbrev pub plus : V → V → V
plus p q = record { x = p.x +ℤ q.x; y = p.y +ℤ q.y; d = p.d +ℤ q.d }

abbrev pub times : ℤ → V → V
times k p = record { x = k *ℤ p.x; y = k *ℤ p.y; d = k *ℤ p.d }

plus_ring : (a b c x y d u v e : ℤ) → a *ℤ (x +ℤ u) +ℤ b *ℤ (y +ℤ v) +ℤ c *ℤ (d +ℤ e) ≡ (a *ℤ x +ℤ b *ℤ y +ℤ c *ℤ d) +ℤ (a *ℤ u +ℤ b *ℤ v +ℤ c *ℤ e)
plus_ring a b c x y d u v e = by_ring (a ∷ b ∷ c ∷ x ∷ y ∷ d ∷ u ∷ v ∷ e ∷ []) _ _ (search quoting depth 60 fits 400000) (search quoting depth 60 fits 400000) tt

pub at_plus : (f : Lin) (p q : V) → at f (plus p q) ≡ at f p +ℤ at f q
unfolding at
at_plus f p q = plus_ring f.a f.b f.c p.x p.y p.d q.x q.y q.d

scale_ring : (a b c k x y d : ℤ) → a *ℤ (k *ℤ x) +ℤ b *ℤ (k *ℤ y) +ℤ c *ℤ (k *ℤ d) ≡ k *ℤ (a *ℤ x +ℤ b *ℤ y +ℤ c *ℤ d)
scale_ring a b c k x y d = by_ring (a ∷ b ∷ c ∷ k ∷ x ∷ y ∷ d ∷ []) _ _ (search quoting depth 60 fits 400000) (search quoting depth 60 fits 400000) tt

pub at_times : (f : Lin) (k : ℤ) (p : V) → at f (times k p) ≡ k *ℤ at f p
unfolding at
at_times f k p = scale_ring f.a f.b f.c k p.x p.y p.d

-- ---- a mean the other way round
pub comb_back : (l m n : ℤ) (p q r : V) → IsComb l m n p q r → IsComb m l n q p r
comb_back l m n p q r h = record { left = h.right; right = h.left; scale = h.scale; x = let e = h.x in omega (arith, ints); y = let e = h.y in omega (arith, ints); d = let e = h.d in omega (arith, ints) }

pub on_back : (p q r : V) → On p q r → On q p r
on_back p q r (l, m, n, h) = (m, l, n, comb_back l m n p q r h)

-- ---- products

-- the last end is on the segment
pub on_last : (r s : V) → On r s s
on_last r s = (pos 0, pos 1, pos 1, record { left = omega (arith, ints); right = omega (arith, ints); scale = omega (arith, ints); x = omega (arith, ints); y = omega (arith, ints); d = omega (arith, ints) })
