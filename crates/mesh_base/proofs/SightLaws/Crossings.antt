-- Where a line crosses directed edges: the crossings' order along it, and what part of a triangle lies between two of them.
use Rattle.std.proofs.Common.{ℤ, pos, ◌+ℤ◌, ◌-ℤ◌, ◌*ℤ◌, neg_ℤ, ◌≡◌, ap, ◌∙◌, [], ◌∷◌, arith, ◌≤ℤ◌, ◌<ℤ◌, inl, inr}
use Rattle.std.proofs.lemmas.Int.{ints}
use lib.IntN.{zero-*ℤ, *ℤ_comm}
use Rattle.math_base.proofs.IntLaws.{neg-*ℤ}
use Rattle.math_base.proofs.Quoting.{quoting, by_ring, combine1}
use Rattle.math_base.proofs.Signs.{mul-pos, mul-nonneg, pos-of-mul, nonneg-of-mul, zero-of-mul, le_or_lt, sign_cases, square-nonneg}
use Rattle.math_base.proofs.MoreSigns.{square-pos, mul-neg_ℤ}
use Rattle.plane_base.proofs.Linear.{linear}
use Rattle.plane_base.proofs.Vec.{V, Lin, at, edge, det, On, bary, det-swap, det-first, det-last, plus, times, at_plus, at_times}
use Rattle.plane_base.proofs.Wedge.{mul_np}
use Rattle.plane_base.proofs.Near.{unit, height}
use Rattle.mesh_base.proofs.SightLaws.Places.{ahead, place, norm, Before, NotAfter, turn_tells as turn_by_ends}
use Rattle.math_base.proofs.Small.{times_one, one_times, zero_by_second}

-- ---- the order on the line
pub chain_le : (ha da hb db hc dc : ℤ) → pos 0 <ℤ da → pos 0 <ℤ db → pos 0 <ℤ dc → (ha *ℤ db) ≤ℤ (hb *ℤ da) → (hb *ℤ dc) ≤ℤ (hc *ℤ db) → (ha *ℤ dc) ≤ℤ (hc *ℤ da)
chain_le ha da hb db hc dc pa pb pc l m =
    let x = mul-nonneg dc (hb *ℤ da -ℤ ha *ℤ db) (omega (arith, linear, pc)) (omega (arith, linear, l)) in
    let y = mul-nonneg da (hc *ℤ db -ℤ hb *ℤ dc) (omega (arith, linear, pa)) (omega (arith, linear, m)) in
    let e : dc *ℤ (hb *ℤ da -ℤ ha *ℤ db) +ℤ da *ℤ (hc *ℤ db -ℤ hb *ℤ dc) ≡ db *ℤ (hc *ℤ da -ℤ ha *ℤ dc) = by_ring (ha ∷ da ∷ hb ∷ db ∷ hc ∷ dc ∷ []) _ _ (search quoting depth 60 fits 400000) (search quoting depth 60 fits 400000) tt in
    let k : pos 0 ≤ℤ (hc *ℤ da -ℤ ha *ℤ dc) = nonneg-of-mul db (hc *ℤ da -ℤ ha *ℤ dc) pb (omega (arith, linear, x, y, e)) in
    omega (arith, linear, k)

pub not_after_chain : (g : Lin) (a b c : V) → pos 0 <ℤ a.d → pos 0 <ℤ b.d → pos 0 <ℤ c.d → NotAfter g a b → NotAfter g b c → NotAfter g a c
not_after_chain g a b c pa pb pc l m = chain_le (at (ahead g) a) a.d (at (ahead g) b) b.d (at (ahead g) c) c.d pa pb pc l m

less_chain : (ha da hb db hc dc : ℤ) → pos 0 <ℤ da → pos 0 <ℤ db → pos 0 <ℤ dc → (ha *ℤ db) <ℤ (hb *ℤ da) → (hb *ℤ dc) <ℤ (hc *ℤ db) → (ha *ℤ dc) <ℤ (hc *ℤ da)
less_chain ha da hb db hc dc pa pb pc l m =
    let x = mul-pos dc (hb *ℤ da -ℤ ha *ℤ db) pc (omega (arith, linear, l)) in
    let y = mul-pos da (hc *ℤ db -ℤ hb *ℤ dc) pa (omega (arith, linear, m)) in
    let e : dc *ℤ (hb *ℤ da -ℤ ha *ℤ db) +ℤ da *ℤ (hc *ℤ db -ℤ hb *ℤ dc) ≡ db *ℤ (hc *ℤ da -ℤ ha *ℤ dc) = by_ring (ha ∷ da ∷ hb ∷ db ∷ hc ∷ dc ∷ []) _ _ (search quoting depth 60 fits 400000) (search quoting depth 60 fits 400000) tt in
    let k : pos 0 <ℤ (hc *ℤ da -ℤ ha *ℤ dc) = pos-of-mul db (hc *ℤ da -ℤ ha *ℤ dc) pb (omega (arith, linear, x, y, e)) in
    omega (arith, linear, k)

pub before_chain : (g : Lin) (a b c : V) → pos 0 <ℤ a.d → pos 0 <ℤ b.d → pos 0 <ℤ c.d → Before g a b → Before g b c → Before g a c
before_chain g a b c pa pb pc l m = less_chain (at (ahead g) a) a.d (at (ahead g) b) b.d (at (ahead g) c) c.d pa pb pc l m

opened : (g : Lin) (p : V) → at g p ≡ pos 0 → g.a *ℤ p.x +ℤ g.b *ℤ p.y +ℤ g.c *ℤ p.d ≡ pos 0
unfolding at
opened g p e = e

last_zero : (a b c x y d : ℤ) → pos 0 <ℤ d → a ≡ pos 0 → b ≡ pos 0 → a *ℤ x +ℤ b *ℤ y +ℤ c *ℤ d ≡ pos 0 → c ≡ pos 0
last_zero a b c x y d h e f k =
    let i : a *ℤ x ≡ pos 0 = ap (λ (s : ℤ). s *ℤ x) e ∙ zero-*ℤ x in
    let j : b *ℤ y ≡ pos 0 = ap (λ (s : ℤ). s *ℤ y) f ∙ zero-*ℤ y in
    let l : d *ℤ c ≡ c *ℤ d = by_ring (c ∷ d ∷ []) _ _ (search quoting depth 40 fits 100000) (search quoting depth 40 fits 100000) tt in
    zero-of-mul d c h (omega (arith, ints))

all_zero : (a b c x y d : ℤ) → a ≡ pos 0 → b ≡ pos 0 → c ≡ pos 0 → at (record { a = a; b = b; c = c }) (record { x = x; y = y; d = d }) ≡ pos 0
unfolding at
all_zero a b c x y d e f k =
    let i : a *ℤ x ≡ pos 0 = ap (λ (s : ℤ). s *ℤ x) e ∙ zero-*ℤ x in
    let j : b *ℤ y ≡ pos 0 = ap (λ (s : ℤ). s *ℤ y) f ∙ zero-*ℤ y in
    let l : c *ℤ d ≡ pos 0 = ap (λ (s : ℤ). s *ℤ d) k ∙ zero-*ℤ d in
    omega (arith, ints)

-- a form that is 0 at some point and not everywhere isn't constant
pub norm_above : (g : Lin) (p z : V) → pos 0 <ℤ p.d → at g p ≡ pos 0 → ¬ (at g z ≡ pos 0) → pos 0 <ℤ norm g
norm_above g p z pd gp n = elim (sign_cases g.a) as (λ _. pos 0 <ℤ norm g) [
  | inl s ↦ let x = square-pos g.a (λ e. omega (arith, ints)) in let y = square-nonneg g.b in omega (arith, ints)
  | inr (inr s) ↦ let x = square-pos g.a (λ e. omega (arith, ints)) in let y = square-nonneg g.b in omega (arith, ints)
  | inr (inl a0) ↦ elim (sign_cases g.b) as (λ _. pos 0 <ℤ norm g) [
    | inl s ↦ let x = square-nonneg g.a in let y = square-pos g.b (λ e. omega (arith, ints)) in omega (arith, ints)
    | inr (inr s) ↦ let x = square-nonneg g.a in let y = square-pos g.b (λ e. omega (arith, ints)) in omega (arith, ints)
    | inr (inl b0) ↦ absurd (n (all_zero g.a g.b g.c z.x z.y z.d a0 b0 (last_zero g.a g.b g.c p.x p.y p.d pd a0 b0 (opened g p gp))))
  ]
]

-- ---- crossings
-- where the line crosses the edge from u, on its left, to v, on its right
abbrev pub crossing : Lin → V → V → V
crossing g u v = plus (times (neg_ℤ (at g v)) u) (times (at g u) v)

along_crossing : (g : Lin) (u v : V) → at (ahead g) (crossing g u v) ≡ neg_ℤ (at g v) *ℤ at (ahead g) u +ℤ at g u *ℤ at (ahead g) v
along_crossing g u v =
    let s = at_plus (ahead g) (times (neg_ℤ (at g v)) u) (times (at g u) v) in
    let t = at_times (ahead g) (neg_ℤ (at g v)) u in
    let w = at_times (ahead g) (at g u) v in
    omega (arith, linear, s, t, w)

-- on the line, the turn at an edge tells on which side of its crossing a point is
pub turn_tells : (g : Lin) (u v r : V) → at g r ≡ pos 0 → norm g *ℤ det u v r ≡ place g r *ℤ (crossing g u v).d -ℤ place g (crossing g u v) *ℤ r.d
turn_tells g u v r e = turn_by_ends g u v r e ∙ same (at g u) (at g v) (place g u) (place g v) u.d v.d (place g r) r.d (place g (crossing g u v)) (along_crossing g u v)
  where
    same : (x y h k p q z d c : ℤ) → c ≡ neg_ℤ y *ℤ h +ℤ x *ℤ k → z *ℤ (x *ℤ q -ℤ y *ℤ p) -ℤ (x *ℤ k -ℤ y *ℤ h) *ℤ d ≡ z *ℤ (neg_ℤ y *ℤ p +ℤ x *ℤ q) -ℤ c *ℤ d
    same x y h k p q z d c e = combine1 d e (by_ring (x ∷ y ∷ h ∷ k ∷ p ∷ q ∷ z ∷ d ∷ c ∷ []) _ _ (search quoting depth 60 fits 400000) (search quoting depth 60 fits 400000) tt)

nonneg_turn : (n t : ℤ) → pos 0 <ℤ n → pos 0 ≤ℤ t → pos 0 ≤ℤ (n *ℤ t)
nonneg_turn n t h k = mul-nonneg n t (omega (arith, linear, h)) k

pub after : (g : Lin) (u v r : V) → pos 0 <ℤ norm g → at g r ≡ pos 0 → pos 0 <ℤ det u v r → Before g (crossing g u v) r
after g u v r hn e h = let i = turn_tells g u v r e in let m = mul-pos (norm g) (det u v r) hn h in omega (arith, linear, i, m)

pub not_before : (g : Lin) (u v r : V) → pos 0 <ℤ norm g → at g r ≡ pos 0 → pos 0 ≤ℤ det u v r → NotAfter g (crossing g u v) r
not_before g u v r hn e h = let i = turn_tells g u v r e in let m = nonneg_turn (norm g) (det u v r) hn h in omega (arith, linear, i, m)

pub turn_nonneg : (g : Lin) (u v r : V) → pos 0 <ℤ norm g → at g r ≡ pos 0 → NotAfter g (crossing g u v) r → pos 0 ≤ℤ det u v r
turn_nonneg g u v r hn e h = let i = turn_tells g u v r e in nonneg-of-mul (norm g) (det u v r) hn (omega (arith, linear, i, h))

pub turn_pos : (g : Lin) (u v r : V) → pos 0 <ℤ norm g → at g r ≡ pos 0 → Before g (crossing g u v) r → pos 0 <ℤ det u v r
turn_pos g u v r hn e h = let i = turn_tells g u v r e in pos-of-mul (norm g) (det u v r) hn (omega (arith, linear, i, h))

-- the other way round: the edge as the triangle behind has it
pub back_nonneg : (g : Lin) (u v r : V) → pos 0 <ℤ norm g → at g r ≡ pos 0 → NotAfter g r (crossing g u v) → pos 0 ≤ℤ det v u r
back_nonneg g u v r hn e h =
    let i = turn_tells g u v r e in
    let s = det-swap u v r in
    let n : norm g *ℤ neg_ℤ (det u v r) ≡ neg_ℤ (norm g *ℤ det u v r) = mul-neg_ℤ (norm g) (det u v r) in
    let k : pos 0 ≤ℤ neg_ℤ (det u v r) = nonneg-of-mul (norm g) (neg_ℤ (det u v r)) hn (omega (arith, linear, i, h, n)) in
    omega (arith, linear, s, k)

-- the crossing is on the line
pub crossing_on : (g : Lin) (u v : V) → at g (crossing g u v) ≡ pos 0
crossing_on g u v =
    let s = at_plus g (times (neg_ℤ (at g v)) u) (times (at g u) v) in
    let t = at_times g (neg_ℤ (at g v)) u in
    let w = at_times g (at g u) v in
    let n = neg-*ℤ (at g v) (at g u) in
    let c = *ℤ_comm (at g v) (at g u) in
    omega (arith, linear, s, t, w, n, c)

-- a functional at the crossing
pub at_crossing : (f g : Lin) (u v : V) → at f (crossing g u v) ≡ neg_ℤ (at g v) *ℤ at f u +ℤ at g u *ℤ at f v
at_crossing f g u v =
    let s = at_plus f (times (neg_ℤ (at g v)) u) (times (at g u) v) in
    let t = at_times f (neg_ℤ (at g v)) u in
    let w = at_times f (at g u) v in
    omega (arith, linear, s, t, w)

-- with the third corner t on the right the line leaves through u, t; with t on the left through t, v. Both crossings are later.
pub later_left : (g : Lin) (u v t : V) → pos 0 <ℤ norm g → pos 0 <ℤ det u v t → pos 0 <ℤ at g u → Before g (crossing g u v) (crossing g u t)
later_left g u v t hn turn hu =
    let i = at_crossing (edge u v) g u t in
    let z = zero_by_second (neg_ℤ (at g t)) (det u v u) (det-first u v) in
    let m = mul-pos (at g u) (det u v t) hu turn in
    after g u v (crossing g u t) hn (crossing_on g u t) (omega (arith, linear, i, z, m))

pub later_right : (g : Lin) (u v t : V) → pos 0 <ℤ norm g → pos 0 <ℤ det u v t → at g v <ℤ pos 0 → Before g (crossing g u v) (crossing g t v)
later_right g u v t hn turn hv =
    let i = at_crossing (edge u v) g t v in
    let z = zero_by_second (at g t) (det u v v) (det-last u v) in
    let m = mul-pos (neg_ℤ (at g v)) (det u v t) (omega (arith, linear, hv)) turn in
    after g u v (crossing g t v) hn (crossing_on g t v) (omega (arith, linear, i, z, m))

-- between the two crossings a point of the line is in the closed triangle
pub third_left : (g : Lin) (u v t r : V) → pos 0 <ℤ det u v t → at g r ≡ pos 0 → pos 0 <ℤ at g u → at g v ≤ℤ pos 0 → at g t ≤ℤ pos 0 → pos 0 ≤ℤ det u v r → pos 0 ≤ℤ det t u r → pos 0 ≤ℤ det v t r
third_left g u v t r turn e hu hv ht uv tu =
    let b = bary g u v t r in
    let z = zero_by_second (det u v t) (at g r) e in
    let m = mul-nonneg (det t u r) (neg_ℤ (at g v)) tu (omega (arith, linear, hv)) in
    let n = mul-nonneg (det u v r) (neg_ℤ (at g t)) uv (omega (arith, linear, ht)) in
    let p = mul-neg_ℤ (det t u r) (at g v) in
    let q = mul-neg_ℤ (det u v r) (at g t) in
    let c = *ℤ_comm (det v t r) (at g u) in
    nonneg-of-mul (at g u) (det v t r) hu (omega (arith, linear, b, z, m, n, p, q, c))

-- the crossing is on the segment that it crosses
pub crossing_in : (g : Lin) (u v : V) → pos 0 <ℤ at g u → at g v <ℤ pos 0 → On u v (crossing g u v)
crossing_in g u v hu hv = (neg_ℤ (at g v), at g u, pos 1, record { left = omega (arith, linear, hv); right = omega (arith, linear, hu); scale = omega (arith, ints); x = one_times _; y = one_times _; d = one_times _ })

-- the point is before the crossing of an edge that has it on its right
pub before_crossing : (g : Lin) (u v r : V) → pos 0 <ℤ norm g → at g r ≡ pos 0 → pos 0 <ℤ det v u r → Before g r (crossing g u v)
before_crossing g u v r hn e h =
    let i = turn_tells g u v r e in
    let s = det-swap v u r in
    let m = mul-pos (norm g) (det v u r) hn h in
    let n : norm g *ℤ det u v r ≡ neg_ℤ (norm g *ℤ det v u r) = ap (λ (x : ℤ). norm g *ℤ x) s ∙ mul-neg_ℤ (norm g) (det v u r) in
    omega (arith, linear, i, m, n)

pub not_after_crossing : (g : Lin) (u v r : V) → pos 0 <ℤ norm g → at g r ≡ pos 0 → pos 0 ≤ℤ det v u r → NotAfter g r (crossing g u v)
not_after_crossing g u v r hn e h =
    let i = turn_tells g u v r e in
    let s = det-swap v u r in
    let m = mul-nonneg (norm g) (det v u r) (omega (arith, linear, hn)) h in
    let n : norm g *ℤ det u v r ≡ neg_ℤ (norm g *ℤ det v u r) = ap (λ (x : ℤ). norm g *ℤ x) s ∙ mul-neg_ℤ (norm g) (det v u r) in
    omega (arith, linear, i, m, n)

-- before the crossing of an edge, a point of the line is on the edge's right
pub before_turn : (g : Lin) (u v r : V) → pos 0 <ℤ norm g → at g r ≡ pos 0 → Before g r (crossing g u v) → pos 0 <ℤ det v u r
before_turn g u v r hn e h =
    let i = turn_tells g u v r e in
    let s = det-swap u v r in
    let n : norm g *ℤ neg_ℤ (det u v r) ≡ neg_ℤ (norm g *ℤ det u v r) = mul-neg_ℤ (norm g) (det u v r) in
    let k : pos 0 <ℤ neg_ℤ (det u v r) = pos-of-mul (norm g) (neg_ℤ (det u v r)) hn (omega (arith, linear, i, h, n)) in
    omega (arith, linear, s, k)

-- at the crossing the turn is 0
at_turn : (g : Lin) (u v r : V) → pos 0 <ℤ norm g → at g r ≡ pos 0 → NotAfter g (crossing g u v) r → NotAfter g r (crossing g u v) → det u v r ≡ pos 0
at_turn g u v r hn e h k = let i = turn_tells g u v r e in zero-of-mul (norm g) (det u v r) hn (omega (arith, linear, i, h, k))

-- the side that the line doesn't cross, where the third corner is on its left
pub third_right : (g : Lin) (u v t r : V) → pos 0 <ℤ det u v t → at g r ≡ pos 0 → pos 0 ≤ℤ at g u → at g v <ℤ pos 0 → pos 0 ≤ℤ at g t → pos 0 ≤ℤ det u v r → pos 0 ≤ℤ det v t r → pos 0 ≤ℤ det t u r
third_right g u v t r turn e hu hv ht uv vt =
    let b = bary g u v t r in
    let z = zero_by_second (det u v t) (at g r) e in
    let m = mul-nonneg (det v t r) (at g u) vt hu in
    let n = mul-nonneg (det u v r) (at g t) uv ht in
    let c = *ℤ_comm (det t u r) (at g v) in
    let d = neg-*ℤ (at g v) (det t u r) in
    nonneg-of-mul (neg_ℤ (at g v)) (det t u r) (omega (arith, linear, hv)) (omega (arith, linear, b, z, m, n, c, d))

-- ---- inside the triangle u, v, t behind the edge from u to v that the line crosses
pub record Deep (u v t r : V) : Type 0 where
  pub uv : pos 0 ≤ℤ det u v r
  pub vt : pos 0 <ℤ det v t r
  pub tu : pos 0 <ℤ det t u r

pub deep_left : (g : Lin) (u v t r : V) → pos 0 <ℤ norm g → at g r ≡ pos 0 → pos 0 <ℤ at g u → at g v <ℤ pos 0 → at g t <ℤ pos 0 → NotAfter g (crossing g u v) r → Before g r (crossing g u t) → Deep u v t r
deep_left g u v t r hn e hu hv ht h k =
    let uv = turn_nonneg g u v r hn e h in
    let tu = before_turn g u t r hn e k in
    let b = bary g u v t r in
    let z = zero_by_second (det u v t) (at g r) e in
    let m = mul-pos (det t u r) (neg_ℤ (at g v)) tu (omega (arith, linear, hv)) in
    let n = mul-nonneg (det u v r) (neg_ℤ (at g t)) uv (omega (arith, linear, ht)) in
    let p = mul-neg_ℤ (det t u r) (at g v) in
    let q = mul-neg_ℤ (det u v r) (at g t) in
    let c = *ℤ_comm (det v t r) (at g u) in
    record { uv = uv; vt = pos-of-mul (at g u) (det v t r) hu (omega (arith, linear, b, z, m, n, p, q, c)); tu = tu }

pub deep_right : (g : Lin) (u v t r : V) → pos 0 <ℤ norm g → at g r ≡ pos 0 → pos 0 <ℤ at g u → at g v <ℤ pos 0 → pos 0 <ℤ at g t → NotAfter g (crossing g u v) r → Before g r (crossing g t v) → Deep u v t r
deep_right g u v t r hn e hu hv ht h k =
    let uv = turn_nonneg g u v r hn e h in
    let vt = before_turn g t v r hn e k in
    let b = bary g u v t r in
    let z = zero_by_second (det u v t) (at g r) e in
    let m = mul-pos (det v t r) (at g u) vt hu in
    let n = mul-nonneg (det u v r) (at g t) uv (omega (arith, linear, ht)) in
    let c = *ℤ_comm (det t u r) (at g v) in
    let d = neg-*ℤ (at g v) (det t u r) in
    record { uv = uv; vt = vt; tu = pos-of-mul (neg_ℤ (at g v)) (det t u r) (omega (arith, linear, hv)) (omega (arith, linear, b, z, m, n, c, d)) }

-- weights of one sign, and not both 0
pub balanced : (k l x y : ℤ) → pos 0 <ℤ x → pos 0 <ℤ y → k *ℤ x ≡ l *ℤ y → pos 0 <ℤ (k +ℤ l) → (pos 0 <ℤ k) × (pos 0 <ℤ l)
balanced k l x y hx hy e s = elim (le_or_lt k (pos 0)) as (λ _. (pos 0 <ℤ k) × (pos 0 <ℤ l)) [
  | inl z ↦ absurd (let p = mul_np k x z (omega (arith, linear, hx)) in let q = mul-pos l y (omega (arith, linear, z, s)) hy in omega (arith, linear, p, q, e))
  | inr p ↦ (p, (let q = mul-pos k x p hx in let c = *ℤ_comm l y in pos-of-mul y l hy (omega (arith, linear, q, e, c))))
]

pub deep_at : (g : Lin) (u v t r : V) → pos 0 <ℤ norm g → pos 0 <ℤ det u v t → pos 0 <ℤ r.d → u.d ≡ pos 1 → v.d ≡ pos 1 → at g r ≡ pos 0 → pos 0 <ℤ at g u → at g v <ℤ pos 0 → NotAfter g (crossing g u v) r → NotAfter g r (crossing g u v) → Deep u v t r
deep_at g u v t r hn turn rd ud vd e hu hv h k =
    let uv = at_turn g u v r hn e h k in
    let b = bary g u v t r in
    let z = zero_by_second (det u v t) (at g r) e in
    let y : det u v r *ℤ at g t ≡ pos 0 = ap (λ (s : ℤ). s *ℤ at g t) uv ∙ zero-*ℤ (at g t) in
    let w = bary unit u v t r in
    let x : det u v r *ℤ at unit t ≡ pos 0 = ap (λ (s : ℤ). s *ℤ at unit t) uv ∙ zero-*ℤ (at unit t) in
    let hr = height r in let hu1 = height u in let hv1 = height v in
    let q1 : det v t r *ℤ at unit u ≡ det v t r = ap (λ (s : ℤ). det v t r *ℤ s) (hu1 ∙ ud) ∙ times_one (det v t r) in
    let q2 : det t u r *ℤ at unit v ≡ det t u r = ap (λ (s : ℤ). det t u r *ℤ s) (hv1 ∙ vd) ∙ times_one (det t u r) in
    let s = mul-pos (det u v t) (at unit r) turn (omega (arith, linear, hr, rd)) in
    let p = mul-neg_ℤ (det t u r) (at g v) in
    let both : (pos 0 <ℤ det v t r) × (pos 0 <ℤ det t u r) = balanced (det v t r) (det t u r) (at g u) (neg_ℤ (at g v)) hu (omega (arith, linear, hv)) (omega (arith, linear, b, z, y, p)) (omega (arith, linear, w, x, q1, q2, s)) in
    record { uv = omega (arith, linear, uv); vt = both.0; tu = both.1 }
