-- A ray's line in the words of points: order along it, the point where it crosses a segment, what is between two of its points.
use Rattle.std.proofs.Common.{◌≡◌, zero, suc, not, true, false, ◌+◌, ◌<◌, subst₂, Bool, ℕ, ℤ, pos, ◌+ℤ◌, ◌*ℤ◌, ◌-ℤ◌, ◌≤ℤ◌, ◌<ℤ◌, neg_ℤ, arith, sym, ap, ap₂, subst, ◌∙◌, ◌⊎◌, inl, inr, [], ◌∷◌}
use borrow.Author.Differences.{ints}
use lib.IntN.{*ℤ-zero, zero-*ℤ, *ℤ_comm}
use Rattle.math_base.proofs.IntLaws.{neg-*ℤ}
use Rattle.math_base.proofs.Quoting.{quoting, by_ring, combine1, combine2}
use Rattle.math_base.proofs.Signs.{mul-pos, mul-nonneg, pos-of-mul, nonneg-of-mul, zero-of-mul, le_or_lt, sign_cases, square-nonneg, mul-le, le-of-mul}
use Rattle.math_base.proofs.MoreSigns.{mul-neg, square-pos, neg-of-mul, nonpos-of-mul}
use Rattle.sight_names.specs.declared.names.Pt.{Pt}
use Rattle.sight_names.specs.declared.names.Ray.{Ray}
use Rattle.sight_names.specs.Point.{Point, point_of, SamePoint, IsMean, OnSegment, InsideSegment, value_at, turn_at}
use Rattle.sight_names.specs.Map.{MapLine}
use Rattle.sight_names.specs.Ray.{ray_value, along, NotBehind, SplitsLine, IsCrossing}
use Rattle.sight_names.proofs.Affine.{value_pos, neg_value, value_mean}
use Rattle.sight_names.proofs.Laws.{on_segment_sym}
use Rattle.plane_base.proofs.Vec.{V, Lin, at, On, value, mean, det-swap}
use Rattle.mesh_base.proofs.SightLaws.Bridge.{vec, value_at_is, turn_at_is, on_of_segment, segment_of_on}
use Rattle.mesh_base.proofs.SightLaws.Paths.{point_at, same_on, same_value}
use Rattle.mesh_base.proofs.SightLaws.Places.{place, norm, NotAfter, den, between, on_line, not_before_start, not_after_stop, same_from_places, crossing_one, turn_at_crossing}
use Rattle.math_base.proofs.Small.{neg_not_zero, pos_not_zero, neg_of_negated_pos, pos_of_negated_neg, nonneg_of_pos, lt_of_difference, pos_difference, le_of_difference, nonneg_of_neg}
use Rattle.sight_names.proofs.Portals.{scale_above}

-- the functional of a ray
abbrev pub lin : Ray → Lin
lin r = record { a = r.a; b = r.b; c = r.c }

pub value_is : (r : Ray) (p : Point) → ray_value r p ≡ at (lin r) (vec p)
value_is r p = value_at_is r.a r.b r.c p

along_ring : (a b x y d : ℤ) → b *ℤ x -ℤ a *ℤ y ≡ b *ℤ x +ℤ neg_ℤ a *ℤ y +ℤ pos 0 *ℤ d
along_ring a b x y d = by_ring (a ∷ b ∷ x ∷ y ∷ d ∷ []) _ _ (search quoting depth 60 fits 200000) (search quoting depth 60 fits 200000) tt

pub along_is : (r : Ray) (p : Point) → along r p ≡ place (lin r) (vec p)
unfolding at
along_is r p = along_ring r.a r.b p.x p.y (pos p.d)

-- p is strictly behind q along the ray
abbrev pub Behind : Ray → Point → Point → Type 0
Behind r p q = (along r q *ℤ pos p.d) <ℤ (along r p *ℤ pos q.d)

pub order : (r : Ray) (p q : Point) → NotBehind r p q ⊎ Behind r p q
order r p q = le_or_lt (along r p *ℤ pos q.d) (along r q *ℤ pos p.d)

pub not_both : (r : Ray) (p q : Point) → NotBehind r p q → Behind r p q → ⊥
not_both r p q h k = omega (arith, ints)

pub behind_not : (r : Ray) (p q : Point) → Behind r p q → NotBehind r q p
behind_not r p q h = omega (arith, ints)

to_places : (r : Ray) (p q : Point) → NotBehind r p q → NotAfter (lin r) (vec p) (vec q)
to_places r p q h = let e = along_is r p in let f = along_is r q in subst (λ (x : ℤ). (x *ℤ pos q.d) ≤ℤ (place (lin r) (vec q) *ℤ pos p.d)) e (subst (λ (x : ℤ). (along r p *ℤ pos q.d) ≤ℤ (x *ℤ pos p.d)) f h)

from_places : (r : Ray) (p q : Point) → NotAfter (lin r) (vec p) (vec q) → NotBehind r p q
from_places r p q h = let e = sym (along_is r p) in let f = sym (along_is r q) in subst (λ (x : ℤ). (x *ℤ pos q.d) ≤ℤ (along r q *ℤ pos p.d)) e (subst (λ (x : ℤ). (place (lin r) (vec p) *ℤ pos q.d) ≤ℤ (x *ℤ pos p.d)) f h)

-- a ray with a and b not both 0
abbrev pub HasDirection : Ray → Type 0
HasDirection r = pos 0 <ℤ norm (lin r)

-- a ray with a point strictly on each side has a direction
pub has_direction : (r : Ray) (u v : Pt) → pos 0 <ℤ ray_value r (point_of u) → ray_value r (point_of v) <ℤ pos 0 → HasDirection r
has_direction r u v hu hv = elim (sign_cases r.a) as (λ _. HasDirection r) [
  | inl n ↦ wide (r.a) (r.b) (square-pos r.a (λ e. neg_not_zero r.a n e)) (square-nonneg r.b)
  | inr k ↦ elim k as (λ _. HasDirection r) [
    | inl a0 ↦ elim (sign_cases r.b) as (λ _. HasDirection r) [
      | inl n ↦ wide2 (r.a) (r.b) (square-nonneg r.a) (square-pos r.b (λ e. neg_not_zero r.b n e))
      | inr j ↦ elim j as (λ _. HasDirection r) [
        | inl b0 ↦ absurd (flat r.a r.b r.c u.x u.y v.x v.y a0 b0 hu hv)
        | inr p ↦ wide2 (r.a) (r.b) (square-nonneg r.a) (square-pos r.b (λ e. pos_not_zero r.b p e))
      ]
    ]
    | inr p ↦ wide (r.a) (r.b) (square-pos r.a (λ e. pos_not_zero r.a p e)) (square-nonneg r.b)
  ]
]
  where
    wide : (a b : ℤ) → pos 0 <ℤ (a *ℤ a) → pos 0 ≤ℤ (b *ℤ b) → pos 0 <ℤ (a *ℤ a +ℤ b *ℤ b)
    wide a b h k = omega (arith, ints)

    wide2 : (a b : ℤ) → pos 0 ≤ℤ (a *ℤ a) → pos 0 <ℤ (b *ℤ b) → pos 0 <ℤ (a *ℤ a +ℤ b *ℤ b)
    wide2 a b h k = omega (arith, ints)

    flat : (a b c ux uy vx vy : ℤ) → a ≡ pos 0 → b ≡ pos 0 → pos 0 <ℤ (a *ℤ ux +ℤ b *ℤ uy +ℤ c *ℤ pos 1) → (a *ℤ vx +ℤ b *ℤ vy +ℤ c *ℤ pos 1) <ℤ pos 0 → ⊥
    flat a b c ux uy vx vy e f h k =
        let p1 : a *ℤ ux ≡ pos 0 = ap (λ (z : ℤ). z *ℤ ux) e ∙ zero-*ℤ ux in
        let p2 : b *ℤ uy ≡ pos 0 = ap (λ (z : ℤ). z *ℤ uy) f ∙ zero-*ℤ uy in
        let p3 : a *ℤ vx ≡ pos 0 = ap (λ (z : ℤ). z *ℤ vx) e ∙ zero-*ℤ vx in
        let p4 : b *ℤ vy ≡ pos 0 = ap (λ (z : ℤ). z *ℤ vy) f ∙ zero-*ℤ vy in
        omega (arith, ints)

-- a point of the ray's line that isn't behind t nor before s is on the segment from s to t
pub on_stretch : (r : Ray) (s t z : Point) → HasDirection r → ray_value r s ≡ pos 0 → ray_value r t ≡ pos 0 → ray_value r z ≡ pos 0 → NotBehind r s z → NotBehind r z t → OnSegment s t z
on_stretch r s t z hn es et ez h k =
    segment_of_on s t z (between (lin r) (vec s) (vec t) (vec z) hn (scale_above s) (scale_above t) (scale_above z) (sym (value_is r s) ∙ es) (sym (value_is r t) ∙ et) (sym (value_is r z) ∙ ez) (to_places r s z h) (to_places r z t k))

-- the points of a segment between points of the ray's line are on the line
pub stretch_on_ray : (r : Ray) (s t z : Point) → ray_value r s ≡ pos 0 → ray_value r t ≡ pos 0 → OnSegment s t z → ray_value r z ≡ pos 0
stretch_on_ray r s t z es et o = value_is r z ∙ on_line (lin r) (vec s) (vec t) (vec z) (sym (value_is r s) ∙ es) (sym (value_is r t) ∙ et) (on_of_segment s t z o)

-- and between its ends
pub stretch_after : (r : Ray) (s t z : Point) → NotBehind r s t → OnSegment s t z → NotBehind r s z
stretch_after r s t z h o = from_places r s z (not_before_start (lin r) (vec s) (vec t) (vec z) (to_places r s t h) (on_of_segment s t z o))

pub stretch_before : (r : Ray) (s t z : Point) → NotBehind r s t → OnSegment s t z → NotBehind r z t
stretch_before r s t z h o = from_places r z t (not_after_stop (lin r) (vec s) (vec t) (vec z) (to_places r s t h) (on_of_segment s t z o))

-- two points of the line at one place are one point
pub same_place : (r : Ray) (z w : Point) → HasDirection r → ray_value r z ≡ pos 0 → ray_value r w ≡ pos 0 → along r z *ℤ pos w.d ≡ along r w *ℤ pos z.d → SamePoint z w
same_place r z w hn ez ew e =
    let f : place (lin r) (vec z) *ℤ pos w.d ≡ place (lin r) (vec w) *ℤ pos z.d = ap (λ (x : ℤ). x *ℤ pos w.d) (sym (along_is r z)) ∙ e ∙ ap (λ (x : ℤ). x *ℤ pos z.d) (along_is r w) in
    let s = same_from_places (lin r) (vec z) (vec w) hn (sym (value_is r z) ∙ ez) (sym (value_is r w) ∙ ew) f in
    record { x = s.x; y = s.y }

-- ---- the crossing with a segment from u, on the ray's left, to v, on its right
pub record Parts (r : Ray) (u v : Pt) : Type 0 where
  pub left : pos 0 <ℤ ray_value r (point_of u)
  pub right : ray_value r (point_of v) <ℤ pos 0

pub parts_direction : (r : Ray) (u v : Pt) → Parts r u v → HasDirection r
parts_direction r u v h = has_direction r u v h.left h.right

parts_den : (r : Ray) (u v : Pt) → Parts r u v → pos 0 <ℤ den (lin r) (vec (point_of u)) (vec (point_of v))
parts_den r u v h = wide _ _ (subst (λ (x : ℤ). pos 0 <ℤ x) (value_is r (point_of u)) h.left) (subst (λ (x : ℤ). x <ℤ pos 0) (value_is r (point_of v)) h.right)
  where
    wide : (x y : ℤ) → pos 0 <ℤ x → y <ℤ pos 0 → pos 0 <ℤ (x *ℤ pos 1 -ℤ y *ℤ pos 1)
    wide x y h k = omega (arith, ints)

-- there is one
pub crossing_there : (r : Ray) (u v : Pt) → Parts r u v → (z : Point) × OnSegment (point_of u) (point_of v) z × (ray_value r z ≡ pos 0)
crossing_there r u v h =
    let U = vec (point_of u) in
    let W = vec (point_of v) in
    let hu : pos 0 <ℤ at (lin r) U = subst (λ (x : ℤ). pos 0 <ℤ x) (value_is r (point_of u)) h.left in
    let hv : at (lin r) W <ℤ pos 0 = subst (λ (x : ℤ). x <ℤ pos 0) (value_is r (point_of v)) h.right in
    let m = mean (neg_ℤ (at (lin r) W)) (at (lin r) U) U W (nonneg_of_neg _ hv) (nonneg_of_pos _ hu) in
    let e = value (lin r) _ _ _ U W m.0 m.1 in
    let z : at (lin r) m.0 ≡ pos 0 = vanish (at (lin r) U) (at (lin r) W) (at (lin r) m.0) e in
    let p = point_at m.0 (wide (at (lin r) U) (at (lin r) W) m.0.d hu hv m.1.d) in
    let on : On U W (vec p.0) = subst (λ (x : V). On U W x) (sym p.1) (_, _, _, m.1) in
    (p.0, segment_of_on (point_of u) (point_of v) p.0 on, value_is r p.0 ∙ ap (λ (x : V). at (lin r) x) p.1 ∙ z)
  where
    vanish : (x y z : ℤ) → pos 1 *ℤ z ≡ neg_ℤ y *ℤ x +ℤ x *ℤ y → z ≡ pos 0
    vanish x y z e = omega (arith, ints, neg-*ℤ y x, *ℤ_comm x y)

    wide : (x y d : ℤ) → pos 0 <ℤ x → y <ℤ pos 0 → pos 1 *ℤ d ≡ neg_ℤ y *ℤ pos 1 +ℤ x *ℤ pos 1 → pos 0 <ℤ d
    wide x y d h k e = omega (arith, ints)

-- and no other
pub crossing_only : (r : Ray) (u v : Pt) (z w : Point) → Parts r u v → OnSegment (point_of u) (point_of v) z → ray_value r z ≡ pos 0 → OnSegment (point_of u) (point_of v) w → ray_value r w ≡ pos 0 → SamePoint z w
crossing_only r u v z w h oz ez ow ew =
    let e = crossing_one (lin r) (vec (point_of u)) (vec (point_of v)) (vec z) (vec w) (parts_den r u v h) (on_of_segment _ _ z oz) (sym (value_is r z) ∙ ez) (on_of_segment _ _ w ow) (sym (value_is r w) ∙ ew) in
    same_place r z w (parts_direction r u v h) ez ew (ap (λ (x : ℤ). x *ℤ pos w.d) (along_is r z) ∙ e ∙ ap (λ (x : ℤ). x *ℤ pos z.d) (sym (along_is r w)))

-- ---- the turn at the segment tells the order
turn_order : (r : Ray) (u v : Pt) (x z : Point) → Parts r u v → OnSegment (point_of u) (point_of v) x → ray_value r x ≡ pos 0 → ray_value r z ≡ pos 0
    → norm (lin r) *ℤ pos x.d *ℤ turn_at u v z ≡ den (lin r) (vec (point_of u)) (vec (point_of v)) *ℤ (along r z *ℤ pos x.d -ℤ along r x *ℤ pos z.d)
turn_order r u v x z h o ex ez =
    ap (λ (t : ℤ). norm (lin r) *ℤ pos x.d *ℤ t) (turn_at_is u v z)
    ∙ turn_at_crossing (lin r) (vec (point_of u)) (vec (point_of v)) (vec x) (vec z) (on_of_segment _ _ x o) (sym (value_is r x) ∙ ex) (sym (value_is r z) ∙ ez)
    ∙ ap₂ (λ (s t : ℤ). den (lin r) (vec (point_of u)) (vec (point_of v)) *ℤ (s *ℤ pos x.d -ℤ t *ℤ pos z.d)) (sym (along_is r z)) (sym (along_is r x))

scale : (r : Ray) (u v : Pt) (x : Point) → Parts r u v → pos 0 <ℤ (norm (lin r) *ℤ pos x.d)
scale r u v x h = mul-pos _ _ (parts_direction r u v h) (scale_above x)

-- where the turn isn't below 0 the point isn't before the crossing
pub turn_not_before : (r : Ray) (u v : Pt) (x z : Point) → Parts r u v → OnSegment (point_of u) (point_of v) x → ray_value r x ≡ pos 0 → ray_value r z ≡ pos 0 → pos 0 ≤ℤ turn_at u v z → NotBehind r x z
turn_not_before r u v x z h o ex ez t =
    let e = turn_order r u v x z h o ex ez in
    let p : pos 0 ≤ℤ (norm (lin r) *ℤ pos x.d *ℤ turn_at u v z) = mul-nonneg _ _ (let s = scale r u v x h in nonneg_of_pos _ s) t in
    le_of_difference _ _ (nonneg-of-mul _ _ (parts_den r u v h) (subst (λ (y : ℤ). pos 0 ≤ℤ y) e p))

pub turn_behind : (r : Ray) (u v : Pt) (x z : Point) → Parts r u v → OnSegment (point_of u) (point_of v) x → ray_value r x ≡ pos 0 → ray_value r z ≡ pos 0 → pos 0 <ℤ turn_at u v z → Behind r z x
turn_behind r u v x z h o ex ez t =
    let e = turn_order r u v x z h o ex ez in
    let p : pos 0 <ℤ (norm (lin r) *ℤ pos x.d *ℤ turn_at u v z) = mul-pos _ _ (scale r u v x h) t in
    lt_of_difference _ _ (pos-of-mul _ _ (parts_den r u v h) (subst (λ (y : ℤ). pos 0 <ℤ y) e p))

-- where it isn't above 0 the point isn't behind the crossing
pub turn_not_behind : (r : Ray) (u v : Pt) (x z : Point) → Parts r u v → OnSegment (point_of u) (point_of v) x → ray_value r x ≡ pos 0 → ray_value r z ≡ pos 0 → turn_at u v z ≤ℤ pos 0 → NotBehind r z x
turn_not_behind r u v x z h o ex ez t =
    let e = turn_order r u v x z h o ex ez in
    let p : (norm (lin r) *ℤ pos x.d *ℤ turn_at u v z) ≤ℤ pos 0 = down _ _ (scale r u v x h) t in
    gap _ _ (nonpos-of-mul _ _ (parts_den r u v h) (subst (λ (y : ℤ). y ≤ℤ pos 0) e p))
  where
    down : (s t : ℤ) → pos 0 <ℤ s → t ≤ℤ pos 0 → (s *ℤ t) ≤ℤ pos 0
    down s t h k = omega (arith, ints, mul-nonneg (neg_ℤ t) s (omega (arith, ints)) (omega (arith, ints)), neg-*ℤ t s, *ℤ_comm s t)

    gap : (x y : ℤ) → (x -ℤ y) ≤ℤ pos 0 → x ≤ℤ y
    gap x y h = omega (arith, ints)

pub turn_before : (r : Ray) (u v : Pt) (x z : Point) → Parts r u v → OnSegment (point_of u) (point_of v) x → ray_value r x ≡ pos 0 → ray_value r z ≡ pos 0 → turn_at u v z <ℤ pos 0 → Behind r x z
turn_before r u v x z h o ex ez t =
    let e = turn_order r u v x z h o ex ez in
    let p : (norm (lin r) *ℤ pos x.d *ℤ turn_at u v z) <ℤ pos 0 = mul-neg _ _ (scale r u v x h) t in
    gap _ _ (neg-of-mul _ _ (parts_den r u v h) (subst (λ (y : ℤ). y <ℤ pos 0) e p))
  where
    gap : (x y : ℤ) → (x -ℤ y) <ℤ pos 0 → x <ℤ y
    gap x y h = omega (arith, ints)

-- ---- points before or behind a point stay so along a segment
before_ring : (a b h d x y k : ℤ) → (neg_ℤ b *ℤ d) *ℤ x +ℤ (a *ℤ d) *ℤ y +ℤ h *ℤ k ≡ h *ℤ k -ℤ (b *ℤ x -ℤ a *ℤ y) *ℤ d
before_ring a b h d x y k = by_ring (a ∷ b ∷ h ∷ d ∷ x ∷ y ∷ k ∷ []) _ _ (search quoting depth 60 fits 200000) (search quoting depth 60 fits 200000) tt

behind_ring : (a b h d x y k : ℤ) → (b *ℤ d) *ℤ x +ℤ (neg_ℤ a *ℤ d) *ℤ y +ℤ neg_ℤ h *ℤ k ≡ (b *ℤ x -ℤ a *ℤ y) *ℤ d -ℤ h *ℤ k
behind_ring a b h d x y k = by_ring (a ∷ b ∷ h ∷ d ∷ x ∷ y ∷ k ∷ []) _ _ (search quoting depth 60 fits 200000) (search quoting depth 60 fits 200000) tt

-- a segment between points strictly before s is strictly before s
pub all_before : (r : Ray) (s p q z : Point) → Behind r s p → Behind r s q → OnSegment p q z → Behind r s z
all_before r s p q z hp hq o =
    let a = neg_ℤ r.b *ℤ pos s.d in
    let b = r.a *ℤ pos s.d in
    let f : (w : Point) → value_at a b (along r s) w ≡ along r s *ℤ pos w.d -ℤ along r w *ℤ pos s.d = λ w. before_ring r.a r.b (along r s) (pos s.d) w.x w.y (pos w.d) in
    lt_of_difference _ _ (subst (λ (y : ℤ). pos 0 <ℤ y) (f z) (value_pos a b (along r s) p q z (subst (λ (y : ℤ). pos 0 <ℤ y) (sym (f p)) (pos_difference _ _ hp)) (subst (λ (y : ℤ). pos 0 <ℤ y) (sym (f q)) (pos_difference _ _ hq)) o))

-- and one between points strictly behind t is strictly behind t
pub all_behind : (r : Ray) (t p q z : Point) → Behind r p t → Behind r q t → OnSegment p q z → Behind r z t
all_behind r t p q z hp hq o =
    let a = r.b *ℤ pos t.d in
    let b = neg_ℤ r.a *ℤ pos t.d in
    let c = neg_ℤ (along r t) in
    let f : (w : Point) → value_at a b c w ≡ along r w *ℤ pos t.d -ℤ along r t *ℤ pos w.d = λ w. behind_ring r.a r.b (along r t) (pos t.d) w.x w.y (pos w.d) in
    lt_of_difference _ _ (subst (λ (y : ℤ). pos 0 <ℤ y) (f z) (value_pos a b c p q z (subst (λ (y : ℤ). pos 0 <ℤ y) (sym (f p)) (pos_difference _ _ hp)) (subst (λ (y : ℤ). pos 0 <ℤ y) (sym (f q)) (pos_difference _ _ hq)) o))

-- ---- a segment with one end on the ray's line
-- a point of the segment from p to p is one of each segment from p
pub alone_on : (p q z : Point) → OnSegment p p z → OnSegment p q z
alone_on p q z o = segment_of_on p q z (turned (vec p) (vec q) (vec z) (on_of_segment p p z o))
  where
    turned : (p q z : V) → On p p z → On p q z
    turned p q z (l, m, n, h) = (
      l +ℤ m,
      pos 0,
      n,
      record {
        left = let a = h.left in let b = h.right in omega (arith, ints);
        right = omega (arith, ints);
        scale = h.scale;
        x = both l m p.x q.x _ h.x;
        y = both l m p.y q.y _ h.y;
        d = both l m p.d q.d _ h.d;
      },
    )
      where
        both : (l m x y z : ℤ) → z ≡ l *ℤ x +ℤ m *ℤ x → z ≡ (l +ℤ m) *ℤ x +ℤ pos 0 *ℤ y
        both l m x y z e = e ∙ by_ring (l ∷ m ∷ x ∷ y ∷ []) _ _ (search quoting depth 60 fits 200000) (search quoting depth 60 fits 200000) tt

-- where p is on the line and q isn't, no point of the segment is on the line but p
pub only_end : (r : Ray) (p q z : Point) → ray_value r p ≡ pos 0 → ¬ (ray_value r q ≡ pos 0) → OnSegment p q z → ray_value r z ≡ pos 0 → OnSegment p p z
only_end r p q z ep nq o ez = segment_of_on p p z (turned (lin r) (vec p) (vec q) (vec z) (sym (value_is r p) ∙ ep) (λ e. nq (value_is r q ∙ e)) (on_of_segment p q z o) (sym (value_is r z) ∙ ez))
  where
    gone : (m y : ℤ) → pos 0 ≤ℤ m → ¬ (y ≡ pos 0) → m *ℤ y ≡ pos 0 → m ≡ pos 0
    gone m y hm hy e = elim (le_or_lt m (pos 0)) as (λ _. m ≡ pos 0) [
      | inl h ↦ omega (arith, ints)
      | inr h ↦ absurd (hy (zero-of-mul m y h e))
    ]

    turned : (f : Lin) (p q z : V) → at f p ≡ pos 0 → ¬ (at f q ≡ pos 0) → On p q z → at f z ≡ pos 0 → On p p z
    turned f p q z ep nq (l, m, n, h) ez =
        let e = value f l m n p q z h in
        let lz : l *ℤ at f p ≡ pos 0 = ap (λ (x : ℤ). l *ℤ x) ep ∙ *ℤ-zero l in
        let nz : n *ℤ at f z ≡ pos 0 = ap (λ (x : ℤ). n *ℤ x) ez ∙ *ℤ-zero n in
        let m0 = gone m (at f q) h.right nq (omega (arith, ints)) in (
          l,
          pos 0,
          n,
          record {
            left = h.left;
            right = omega (arith, ints);
            scale = h.scale;
            x = alone l m p.x q.x _ m0 h.x;
            y = alone l m p.y q.y _ m0 h.y;
            d = alone l m p.d q.d _ m0 h.d;
          },
        )
      where
        alone : (l m x y z : ℤ) → m ≡ pos 0 → z ≡ l *ℤ x +ℤ m *ℤ y → z ≡ l *ℤ x +ℤ pos 0 *ℤ x
        alone l m x y z e f = let k : m *ℤ y ≡ pos 0 = ap (λ (t : ℤ). t *ℤ y) e ∙ zero-*ℤ y in let j : pos 0 *ℤ x ≡ pos 0 = zero-*ℤ x in omega (arith, ints)

-- a point has one place under each of its names
pub along_same : (r : Ray) (p s : Point) → SamePoint p s → along r p *ℤ pos s.d ≡ along r s *ℤ pos p.d
along_same r p s h = combine2 r.b (neg_ℤ r.a) h.x h.y (by_ring (r.a ∷ r.b ∷ p.x ∷ p.y ∷ s.x ∷ s.y ∷ pos p.d ∷ pos s.d ∷ []) _ _ (search quoting depth 60 fits 200000) (search quoting depth 60 fits 200000) tt)

-- ---- the order of points under other names
pub not_behind_same : (r : Ray) (p q s t : Point) → SamePoint p s → SamePoint q t → NotBehind r p q → NotBehind r s t
not_behind_same r p q s t h k f =
    le-of-mul (pos p.d *ℤ pos q.d) (along r s *ℤ pos t.d) (along r t *ℤ pos s.d) (mul-pos _ _ (scale_above p) (scale_above q))
    (carried (along r p) (along r q) (along r s) (along r t) (pos p.d) (pos q.d) (pos s.d) (pos t.d) (mul-nonneg _ _ (nonneg_of_pos _ (scale_above s)) (nonneg_of_pos _ (scale_above t))) (along_same r p s h) (along_same r q t k) f)
  where
    one : (ps ss qd td sd pd : ℤ) → ps *ℤ sd ≡ ss *ℤ pd → (pd *ℤ qd) *ℤ (ss *ℤ td) ≡ (sd *ℤ td) *ℤ (ps *ℤ qd)
    one ps ss qd td sd pd e = combine1 (neg_ℤ (qd *ℤ td)) e (by_ring (ps ∷ ss ∷ qd ∷ td ∷ sd ∷ pd ∷ []) _ _ (search quoting depth 60 fits 200000) (search quoting depth 60 fits 200000) tt)

    two : (qs ts pd sd td qd : ℤ) → qs *ℤ td ≡ ts *ℤ qd → (pd *ℤ qd) *ℤ (ts *ℤ sd) ≡ (sd *ℤ td) *ℤ (qs *ℤ pd)
    two qs ts pd sd td qd e = combine1 (neg_ℤ (pd *ℤ sd)) e (by_ring (qs ∷ ts ∷ pd ∷ sd ∷ td ∷ qd ∷ []) _ _ (search quoting depth 60 fits 200000) (search quoting depth 60 fits 200000) tt)

    carried : (hp hq hs ht pd qd sd td : ℤ) → pos 0 ≤ℤ (sd *ℤ td) → hp *ℤ sd ≡ hs *ℤ pd → hq *ℤ td ≡ ht *ℤ qd → (hp *ℤ qd) ≤ℤ (hq *ℤ pd) → ((pd *ℤ qd) *ℤ (hs *ℤ td)) ≤ℤ ((pd *ℤ qd) *ℤ (ht *ℤ sd))
    carried hp hq hs ht pd qd sd td w e f h =
        let a = one hp hs qd td sd pd e in
        let b = two hq ht pd sd td qd f in
        let c = mul-le (sd *ℤ td) (hp *ℤ qd) (hq *ℤ pd) w h in
        omega (arith, ints)

-- a segment between points under other names
pub segment_same : (p q s t z : Point) → SamePoint p s → SamePoint q t → OnSegment p q z → OnSegment s t z
segment_same p q s t z h k o = on_segment_sym t s z (same_on q t s z k (on_segment_sym s q z (same_on p s q z h o)))

-- ---- the turn of a point before the crossing
pub before_turn : (r : Ray) (u v : Pt) (x z : Point) → Parts r u v → OnSegment (point_of u) (point_of v) x → ray_value r x ≡ pos 0 → ray_value r z ≡ pos 0 → Behind r x z → turn_at u v z <ℤ pos 0
before_turn r u v x z h o ex ez b =
    let e = turn_order r u v x z h o ex ez in
    let p : (den (lin r) (vec (point_of u)) (vec (point_of v)) *ℤ (along r z *ℤ pos x.d -ℤ along r x *ℤ pos z.d)) <ℤ pos 0 = mul-neg _ _ (parts_den r u v h) (down _ _ b) in
    neg-of-mul (norm (lin r) *ℤ pos x.d) (turn_at u v z) (scale r u v x h) (subst (λ (y : ℤ). y <ℤ pos 0) (sym e) p)
  where
    down : (x y : ℤ) → x <ℤ y → (x -ℤ y) <ℤ pos 0
    down x y h = omega (arith, ints)

pub turn_swap : (u v : Pt) (z : Point) → turn_at v u z ≡ neg_ℤ (turn_at u v z)
turn_swap u v z = turn_at_is v u z ∙ det-swap (vec (point_of u)) (vec (point_of v)) (vec z) ∙ ap neg_ℤ (sym (turn_at_is u v z))

-- ---- the ray the other way
abbrev pub turned : Ray → Ray
turned r = record { first = r.last; last = r.first; a = neg_ℤ r.a; b = neg_ℤ r.b; c = neg_ℤ r.c }

pub turned_value : (r : Ray) (p : Point) → ray_value (turned r) p ≡ neg_ℤ (ray_value r p)
turned_value r p = neg_value r.a r.b r.c p

pub turned_zero : (r : Ray) (p : Point) → ray_value r p ≡ pos 0 → ray_value (turned r) p ≡ pos 0
turned_zero r p e = turned_value r p ∙ ap neg_ℤ e

pub turned_along : (r : Ray) (p : Point) → along (turned r) p ≡ neg_ℤ (along r p)
turned_along r p = ring r.a r.b p.x p.y
  where
    ring : (a b x y : ℤ) → neg_ℤ b *ℤ x -ℤ neg_ℤ a *ℤ y ≡ neg_ℤ (b *ℤ x -ℤ a *ℤ y)
    ring a b x y = by_ring (a ∷ b ∷ x ∷ y ∷ []) _ _ (search quoting depth 60 fits 200000) (search quoting depth 60 fits 200000) tt

pub turned_not_behind : (r : Ray) (p q : Point) → NotBehind r p q → NotBehind (turned r) q p
turned_not_behind r p q h = subst₂ (λ (x y : ℤ). (x *ℤ pos p.d) ≤ℤ (y *ℤ pos q.d)) (sym (turned_along r q)) (sym (turned_along r p)) (flip (along r p) (along r q) (pos p.d) (pos q.d) h)
  where
    flip : (x y d e : ℤ) → (x *ℤ e) ≤ℤ (y *ℤ d) → (neg_ℤ y *ℤ d) ≤ℤ (neg_ℤ x *ℤ e)
    flip x y d e h = omega (arith, ints, neg-*ℤ y d, neg-*ℤ x e)

pub turned_behind : (r : Ray) (p q : Point) → Behind (turned r) p q → Behind r q p
turned_behind r p q h = flip (along r p) (along r q) (pos p.d) (pos q.d) (subst₂ (λ (x y : ℤ). (x *ℤ pos p.d) <ℤ (y *ℤ pos q.d)) (turned_along r q) (turned_along r p) h)
  where
    flip : (x y d e : ℤ) → (neg_ℤ y *ℤ d) <ℤ (neg_ℤ x *ℤ e) → (x *ℤ e) <ℤ (y *ℤ d)
    flip x y d e h = omega (arith, ints, neg-*ℤ y d, neg-*ℤ x e)

pub turned_splits : (r : Ray) (l : MapLine) (b : Bool) → SplitsLine r l (not b) → SplitsLine (turned r) l b
turned_splits r l true h = (pos_of_negated_neg _ _ (turned_value r (point_of l.first)) h.0, neg_of_negated_pos _ _ (turned_value r (point_of l.second)) h.1)
turned_splits r l false h = (neg_of_negated_pos _ _ (turned_value r (point_of l.first)) h.0, pos_of_negated_neg _ _ (turned_value r (point_of l.second)) h.1)

pub turned_crossing : (r : Ray) (l : MapLine) (p : Point) → IsCrossing r l p → IsCrossing (turned r) l p
turned_crossing r l p h = (h.0, turned_zero r p h.1)

-- ---- a line that the ray splits is crossed once, strictly inside
pub split_crossing : (r : Ray) (l : MapLine) (b : Bool) → SplitsLine r l b → (z : Point) × IsCrossing r l z
split_crossing r l true h = let x = crossing_there r l.first l.second (record { left = h.0; right = h.1 }) in (x.0, (x.1, x.2))
split_crossing r l false h = let x = crossing_there r l.second l.first (record { left = h.1; right = h.0 }) in (x.0, (on_segment_sym (point_of l.second) (point_of l.first) x.0 x.1, x.2))

pub split_once : (r : Ray) (l : MapLine) (b : Bool) (z w : Point) → SplitsLine r l b → IsCrossing r l z → IsCrossing r l w → SamePoint z w
split_once r l true z w h c d = crossing_only r l.first l.second z w (record { left = h.0; right = h.1 }) c.0 c.1 d.0 d.1
split_once r l false z w h c d =
    crossing_only r l.second l.first z w (record { left = h.1; right = h.0 }) (on_segment_sym (point_of l.first) (point_of l.second) z c.0) c.1 (on_segment_sym (point_of l.first) (point_of l.second) w d.0) d.1

pub split_direction : (r : Ray) (l : MapLine) (b : Bool) → SplitsLine r l b → HasDirection r
split_direction r l true h = has_direction r l.first l.second h.0 h.1
split_direction r l false h = has_direction r l.second l.first h.1 h.0

-- a crossing isn't a point off the ray's line
pub not_at : (r : Ray) (z : Point) (p : Pt) → ray_value r z ≡ pos 0 → ¬ (ray_value r (point_of p) ≡ pos 0) → ¬ SamePoint z (point_of p)
not_at r z p e n h =
    let f = same_value (lin r) z (point_of p) h in
    n (value_is r (point_of p) ∙ gone (at (lin r) (vec z)) (at (lin r) (vec (point_of p))) (pos z.d) (scale_above z) (sym (value_is r z) ∙ e) f)
  where
    gone : (x y d : ℤ) → pos 0 <ℤ d → x ≡ pos 0 → x *ℤ pos 1 ≡ y *ℤ d → y ≡ pos 0
    gone x y d h e f = zero-of-mul d y h (let g = *ℤ_comm y d in omega (arith, ints))

-- the crossing is strictly inside the line
pub split_inside : (r : Ray) (l : MapLine) (b : Bool) (z : Point) → SplitsLine r l b → IsCrossing r l z → InsideSegment (point_of l.first) (point_of l.second) z
split_inside r l b z h ((u, v, k), e) =
    let n = off_ends r l b h in
    let w : pos u *ℤ ray_value r (point_of l.first) +ℤ pos v *ℤ ray_value r (point_of l.second) ≡ pos 0 = weights r l z u v k e in (
      u,
      v,
      some u v (ray_value r (point_of l.first)) (ray_value r (point_of l.second)) k.weighed n.1 w,
      some v u (ray_value r (point_of l.second)) (ray_value r (point_of l.first)) (swap u v k.weighed) n.0 (turn (pos u) (pos v) _ _ w),
      k,
      not_at r z l.first e n.0,
      not_at r z l.second e n.1,
    )
  where
    off_ends : (r : Ray) (l : MapLine) (b : Bool) → SplitsLine r l b → (¬ (ray_value r (point_of l.first) ≡ pos 0)) × (¬ (ray_value r (point_of l.second) ≡ pos 0))
    off_ends r l true h = let a = h.0 in let b = h.1 in ((λ e. pos_not_zero _ a e), (λ e. neg_not_zero _ b e))
    off_ends r l false h = let a = h.0 in let b = h.1 in ((λ e. neg_not_zero _ a e), (λ e. pos_not_zero _ b e))

    swap : (u v : ℕ) → 0 < u + v → 0 < v + u
    swap u v h = omega arith

    turn : (u v x y : ℤ) → u *ℤ x +ℤ v *ℤ y ≡ pos 0 → v *ℤ y +ℤ u *ℤ x ≡ pos 0
    turn u v x y e = omega (arith, ints)

    some : (u v : ℕ) (x y : ℤ) → 0 < u + v → ¬ (y ≡ pos 0) → pos u *ℤ x +ℤ pos v *ℤ y ≡ pos 0 → 0 < u
    some zero v x y h n e = absurd (n (zero-of-mul (pos v) y (omega (arith, ints)) (let z : pos zero *ℤ x ≡ pos 0 = zero-*ℤ x in omega (arith, ints))))
    some (suc u) v x y h n e = omega arith

    cleared : (u v x y z d k : ℤ) → pos 0 <ℤ d → z ≡ pos 0 → z *ℤ k ≡ (u *ℤ pos 1 *ℤ x +ℤ v *ℤ pos 1 *ℤ y) *ℤ d → u *ℤ x +ℤ v *ℤ y ≡ pos 0
    cleared u v x y z d k h e f =
        let g : z *ℤ k ≡ pos 0 = ap (λ (t : ℤ). t *ℤ k) e ∙ zero-*ℤ k in
        let j : d *ℤ (u *ℤ x +ℤ v *ℤ y) ≡ (u *ℤ pos 1 *ℤ x +ℤ v *ℤ pos 1 *ℤ y) *ℤ d = by_ring (u ∷ v ∷ x ∷ y ∷ d ∷ []) _ _ (search quoting depth 60 fits 200000) (search quoting depth 60 fits 200000) tt in
        zero-of-mul d _ h (j ∙ sym f ∙ g)

    weights : (r : Ray) (l : MapLine) (z : Point) (u v : ℕ) → IsMean u v (point_of l.first) (point_of l.second) z → ray_value r z ≡ pos 0 → pos u *ℤ ray_value r (point_of l.first) +ℤ pos v *ℤ ray_value r (point_of l.second) ≡ pos 0
    weights r l z u v k e =
        let f = value_mean r.a r.b r.c u v (point_of l.first) (point_of l.second) z k in
        cleared (pos u) (pos v) (ray_value r (point_of l.first)) (ray_value r (point_of l.second)) (ray_value r z) (pos z.d) ((pos u +ℤ pos v) *ℤ (pos 1 *ℤ pos 1)) (scale_above z) e f
