-- Paths through linked triangles, and out of the hull at an edge that has no triangle.
use Rattle.std.proofs.Common.{◌≡◌, ◌≢◌, ℕ, ◌<◌, ℤ, pos, neg_ℤ, ◌+ℤ◌, ◌-ℤ◌, ◌*ℤ◌, ◌≤ℤ◌, ◌<ℤ◌, arith, sym, ap, ◌∙◌, subst, inl, inr, List, [], ◌∷◌, length, Some, lit<}
use borrow.Author.Differences.{ints}
use lib.IntN.{*ℤ-zero}
use Rattle.math_base.proofs.Quoting.{quoting, by_ring, combine3}
use Rattle.math_base.proofs.Signs.{le_or_lt, mul-pos, pos-of-mul, same-of-mul}
use Rattle.math_base.proofs.MoreSigns.{sum-nonpos}
use Rattle.sight_names.specs.declared.names.Pt.{Pt}
use Rattle.sight_names.specs.Point.{Point, point_of, turn_at, SamePoint, OnSegment, InsideSegment}
use Rattle.sight_names.specs.Map.{Map, MapLine, line_at}
use Rattle.sight_names.specs.Path.{MissesAll, OnNoLine, OnLine, IsPath, Leads}
use Rattle.sight_names.specs.Points.{Edge, points_of, place, point_number}
use Rattle.sight_names.specs.Sound.{IsOutside}
use Rattle.sight_names.proofs.Laws.{same_point_refl, same_point_sym}
use Rattle.plane_base.proofs.Vec.{V, Lin, at, edge, det, IsComb, value, det-first, det-last, det-cycle, comb_back}
use Rattle.plane_base.proofs.Walk.{Tri, turned, side, Closed}
use Rattle.mesh_base.proofs.SightLaws.Bridge.{vec, value_at_is, turn_at_is, on_of_segment, segment_of_on}
use Rattle.mesh_base.proofs.SightLaws.Paths.{same_on, on_same, same_value, misses_all_sym, path_back}
use Rattle.mesh_base.proofs.SightLaws.StepOff.{distance, distance_pos}
use Rattle.mesh_base.proofs.Face.{SameSegment}
use Rattle.mesh_base.proofs.GoodMesh.{PointFacts}
use Rattle.mesh_shape.specs.Fills.{HasLeft}
use Rattle.mesh_base.proofs.Joined.{Strict, CleanAll, whole, tri, free_inside, free_side, inside_free, joined, strict_mean, centre_strict, centre, middle, middle_value, middle_on}
use Rattle.math_base.proofs.Small.{zero_times}
use Rattle.geom_exact.proofs.Uniqueness.{same_trans}

-- ---- one point under two names

zero_ring : (l m n px pd qx qd rx rd : ℤ) → n *ℤ (rx *ℤ pd) -ℤ n *ℤ (px *ℤ rd) ≡ (pd *ℤ (n *ℤ rx -ℤ (l *ℤ px +ℤ m *ℤ qx)) +ℤ neg_ℤ px *ℤ (n *ℤ rd -ℤ (l *ℤ pd +ℤ m *ℤ qd))) +ℤ (qx *ℤ pd -ℤ qd *ℤ px) *ℤ (m -ℤ pos 0)
zero_ring l m n px pd qx qd rx rd = by_ring (l ∷ m ∷ n ∷ px ∷ pd ∷ qx ∷ qd ∷ rx ∷ rd ∷ []) _ _ (search quoting depth 80 fits 1000000) (search quoting depth 80 fits 1000000) tt

-- a mean with no weight on the second point
pub same_of_zero : (l m n : ℤ) (p q r : Point) → IsComb l m n (vec p) (vec q) (vec r) → m ≡ pos 0 → SamePoint r p
same_of_zero l m n p q r h z = record {
  x = same-of-mul n _ _ h.scale (combine3 (pos p.d) (neg_ℤ p.x) (q.x *ℤ pos p.d -ℤ pos q.d *ℤ p.x) h.x h.d z (zero_ring l m n p.x (pos p.d) q.x (pos q.d) r.x (pos r.d)));
  y = same-of-mul n _ _ h.scale (combine3 (pos p.d) (neg_ℤ p.y) (q.y *ℤ pos p.d -ℤ pos q.d *ℤ p.y) h.y h.d z (zero_ring l m n p.y (pos p.d) q.y (pos q.d) r.y (pos r.d)));
}

-- ---- one path behind another

misses_from : (m : Map) (p q a : Point) → SamePoint p q → MissesAll m q a → MissesAll m p a
misses_from m p q a h k i l is r on on_line = k i l is r (same_on p q a r h on) on_line

pub path_join : (m : Map) (p : Point) (rs : List Point) (q : Point) (ss : List Point) (r : Point) → IsPath m p rs q → IsPath m q ss r → Leads m p r
path_join m p [] q [] r h k = ([], (h.0, same_trans p q r h.1 k.1))
path_join m p [] q (a ∷ ss) r h k = (a ∷ ss, (h.0, misses_from m p q a h.1 k.1, k.2))
path_join m p (a ∷ rs) q ss r h k = let t = path_join m a rs q ss r h.2 k in (a ∷ t.0, (h.0, h.1, t.1))

pub leads_join : (m : Map) (p q r : Point) → Leads m p q → Leads m q r → Leads m p r
leads_join m p q r h k = path_join m p h.0 q k.0 r h.1 k.1

-- one segment
pub one_leg : (m : Map) (p q : Point) → OnNoLine m p → MissesAll m p q → OnNoLine m q → Leads m p q
one_leg m p q f h g = (q ∷ [], (f, h, (g, same_point_refl q)))

-- ---- the middle of an edge, and the centre of a triangle

pub centre_turned : (a b c : Pt) → centre b c a ≡ centre a b c
unfolding centre
centre_turned a b c = same (b.x +ℤ c.x +ℤ a.x) (a.x +ℤ b.x +ℤ c.x) (b.y +ℤ c.y +ℤ a.y) (a.y +ℤ b.y +ℤ c.y) (omega (arith, ints)) (omega (arith, ints))
  where
    same : (x z y w : ℤ) → x ≡ z → y ≡ w → ◌≡◌ {A = Point} (record { x = x; y = y; d = 3; positive = lit< tt }) (record { x = z; y = w; d = 3; positive = lit< tt })
    same x z y w e f = λ i. record { x = e i; y = f i; d = 3; positive = lit< tt }

pub middle_closed : (a b c : Pt) → pos 0 <ℤ det (whole a) (whole b) (whole c) → Closed (tri a b c) (vec (middle a b))
middle_closed a b c h =
    let A = whole a in let B = whole b in let C = whole c in
    let e1 = det-cycle A B C in let e2 = det-cycle B C A in
    let v1 = middle_value (edge A B) a b in let v2 = middle_value (edge B C) a b in let v3 = middle_value (edge C A) a b in
    let x1 = det-first A B in let y1 = det-last A B in let x2 = det-first B C in let y3 = det-last C A in
    record { ab = omega (arith, ints); bc = omega (arith, ints); ca = omega (arith, ints) }

pub middle_sides : (a b c : Pt) → pos 0 <ℤ det (whole a) (whole b) (whole c) → (pos 0 <ℤ side (turned (tri a b c)) (vec (middle a b))) × (pos 0 <ℤ side (turned (turned (tri a b c))) (vec (middle a b)))
middle_sides a b c h =
    let A = whole a in let B = whole b in let C = whole c in
    let e1 = det-cycle A B C in let e2 = det-cycle B C A in
    let v2 = middle_value (edge B C) a b in let v3 = middle_value (edge C A) a b in
    let x2 = det-first B C in let y3 = det-last C A in
    (omega (arith, ints), omega (arith, ints))

pub middle_flat : (a b : Pt) → det (whole a) (whole b) (vec (middle a b)) ≡ pos 0
middle_flat a b = let v = middle_value (edge (whole a) (whole b)) a b in let x = det-first (whole a) (whole b) in let y = det-last (whole a) (whole b) in omega (arith, ints)

-- the middle of a line is strictly inside it
off_end : (f : Lin) (a b : Pt) (z : Point) → at f (whole a) ≡ pos 0 → pos 0 <ℤ at f (vec z) → SamePoint z (point_of a) → ⊥
off_end f a b z zero up same = let e = same_value f z (point_of a) same in
    let w : at f (whole a) *ℤ pos z.d ≡ pos 0 = ap (λ (k : ℤ). k *ℤ pos z.d) zero ∙ zero_times (pos z.d) in omega (arith, ints, mul-pos (at f (vec z)) (pos 1) up (omega (arith, ints)))

pub middle_inside : (m : Map) → PointFacts m → (i : ℕ) (l : MapLine) → line_at m i ≡ Some l → InsideSegment (point_of l.first) (point_of l.second) (middle l.first l.second)
unfolding middle
middle_inside m facts i l is = (1, 1, lit< tt, lit< tt, record { weighed = lit< tt; x = mean_ring l.first.x l.second.x; y = mean_ring l.first.y l.second.y }, not_first, not_second)
  where
    mean_ring : (a b : ℤ) → (a +ℤ b) *ℤ ((pos 1 +ℤ pos 1) *ℤ (pos 1 *ℤ pos 1)) ≡ (pos 1 *ℤ pos 1 *ℤ a +ℤ pos 1 *ℤ pos 1 *ℤ b) *ℤ pos 2
    mean_ring a b = by_ring (a ∷ b ∷ []) _ _ (search quoting depth 80 fits 1000000) (search quoting depth 80 fits 1000000) tt

    not_first : SamePoint (middle l.first l.second) (point_of l.first) → ⊥
    not_first = let g = (facts.apart i l is).0 in off_end g.f l.first l.second (middle l.first l.second) g.zero (let v = middle_value g.f l.first l.second in let z = g.zero in let u = g.above in omega (arith, ints))

    not_second : SamePoint (middle l.first l.second) (point_of l.second) → ⊥
    not_second = let g = (facts.apart i l is).1 in off_end g.f l.second l.first (middle l.first l.second) g.zero (let v = middle_value g.f l.first l.second in let z = g.zero in let u = g.above in omega (arith, ints))

-- ---- beyond all lines

-- no end of a line is above 0
pub record IsLow (m : Map) (f : Lin) : Type 0 where
  pub first : (i : ℕ) (l : MapLine) → line_at m i ≡ Some l → at f (whole l.first) ≤ℤ pos 0
  pub second : (i : ℕ) (l : MapLine) → line_at m i ≡ Some l → at f (whole l.second) ≤ℤ pos 0

pub free_beyond : (m : Map) (f : Lin) → IsLow m f → (r : Point) → pos 0 <ℤ at f (vec r) → OnNoLine m r
free_beyond m f low r up i l is on =
    let o = on_of_segment (point_of l.first) (point_of l.second) r on in
    let h = o.3 in
    let v = value f o.0 o.1 o.2 (whole l.first) (whole l.second) (vec r) h in
    omega (arith, ints, v, sum-nonpos o.0 o.1 (at f (whole l.first)) (at f (whole l.second)) h.left h.right (low.first i l is) (low.second i l is), mul-pos o.2 (at f (vec r)) h.scale up)

pub outside_beyond : (m : Map) (f : Lin) → IsLow m f → (r : Point) → pos 0 <ℤ at f (vec r) → IsOutside m r
outside_beyond m f low r up = record {
  a = f.a;
  b = f.b;
  c = f.c;
  beyond = let e = value_at_is f.a f.b f.c r in omega (arith, ints);
  first = λ i l is. let e = value_at_is f.a f.b f.c (point_of l.first) in let h = low.first i l is in omega (arith, ints);
  second = λ i l is. let e = value_at_is f.a f.b f.c (point_of l.second) in let h = low.second i l is in omega (arith, ints);
}

-- from a point beyond to one of value 0 nothing but that one is on a line
pub beyond_clear : (m : Map) (f : Lin) → IsLow m f → (o z : Point) → pos 0 <ℤ at f (vec o) → at f (vec z) ≡ pos 0 → (i : ℕ) (l : MapLine) (r : Point) → line_at m i ≡ Some l → OnSegment o z r → OnLine l r → SamePoint r z
beyond_clear m f low o z up zero i l r is on on_line =
    let c = on_of_segment o z r on in
    let h = c.3 in let hl = h.left in
    elim (le_or_lt c.0 (pos 0)) as (λ _. SamePoint r z) [
      | inl le ↦ same_of_zero c.1 c.0 c.2 z o r (comb_back c.0 c.1 c.2 (vec o) (vec z) (vec r) h) (omega (arith, ints))
      | inr lt ↦ absurd (
          let v = value f c.0 c.1 c.2 (vec o) (vec z) (vec r) h in
          let w : c.1 *ℤ at f (vec z) ≡ pos 0 = ap (λ (k : ℤ). c.1 *ℤ k) zero ∙ *ℤ-zero c.1 in
          free_beyond m f low r (pos-of-mul c.2 (at f (vec r)) h.scale (omega (arith, ints, mul-pos c.0 (at f (vec o)) lt up))) i l is on_line)
    ]

-- a point on the left of the way from u to w, beside the middle
pub far : Pt → Pt → Point
far u w = record { x = u.x +ℤ w.x -ℤ pos 2 *ℤ (w.y -ℤ u.y); y = u.y +ℤ w.y +ℤ pos 2 *ℤ (w.x -ℤ u.x); d = 2; positive = lit< tt }

pub far_left : (u w : Pt) → u ≢ w → pos 0 <ℤ det (whole u) (whole w) (vec (far u w))
unfolding far
far_left u w differ = let e = turn_at_is u w (far u w) in let r = far_ring u.x u.y w.x w.y in let s = mul-pos (pos 2) (distance u w) (omega (arith, ints)) (distance_pos u w differ) in subst (λ (k : ℤ). pos 0 <ℤ k) (sym r ∙ e) s
  where
    far_ring : (ux uy wx wy : ℤ) → (wx -ℤ ux) *ℤ (uy +ℤ wy +ℤ pos 2 *ℤ (wx -ℤ ux) -ℤ uy *ℤ pos 2) -ℤ (wy -ℤ uy) *ℤ (ux +ℤ wx -ℤ pos 2 *ℤ (wy -ℤ uy) -ℤ ux *ℤ pos 2)
        ≡ pos 2 *ℤ ((ux -ℤ wx) *ℤ (ux -ℤ wx) +ℤ (uy -ℤ wy) *ℤ (uy -ℤ wy))
    far_ring ux uy wx wy = by_ring (ux ∷ uy ∷ wx ∷ wy ∷ []) _ _ (search quoting depth 80 fits 1000000) (search quoting depth 80 fits 1000000) tt

-- ---- edges with no point on their left

pub none_left : (m : Map) → PointFacts m → (e : Edge) → ¬ HasLeft m e → IsLow m (edge (whole (place m e.from)) (whole (place m e.to)))
none_left m facts e none = record {
  first = λ i l is. let f = facts.first i l is in low l.first _ f.1 f.0;
  second = λ i l is. let f = facts.second i l is in low l.second _ f.1 f.0;
}
  where
    low : (p : Pt) (k : ℕ) → k < length (points_of m) → place m k ≡ p → det (whole (place m e.from)) (whole (place m e.to)) (whole p) ≤ℤ pos 0
    low p k lt same = elim (le_or_lt (det (whole (place m e.from)) (whole (place m e.to)) (whole p)) (pos 0)) as (λ _. det (whole (place m e.from)) (whole (place m e.to)) (whole p) ≤ℤ pos 0) [
      | inl le ↦ le
      | inr up ↦ absurd (none (k, lt, subst (λ (q : Pt). pos 0 <ℤ turn_at (place m e.from) (place m e.to) (point_of q)) (sym same) (let t = turn_at_is (place m e.from) (place m e.to) (point_of p) in omega (arith, ints))))
    ]

pub places_differ : (m : Map) → PointFacts m → (i j : ℕ) → i < length (points_of m) → j < length (points_of m) → i ≢ j → place m i ≢ place m j
places_differ m facts i j hi hj differ e = differ (sym (facts.number i hi) ∙ ap (point_number m) e ∙ facts.number j hj)

-- ---- strictly inside a triangle

-- from a point strictly inside to one of the closed triangle nothing but the latter is on a line
pub inside_clear : (m : Map) (t : Tri) → CleanAll m t → (q z : Point) → Strict t (vec q) → Closed t (vec z) → (i : ℕ) (l : MapLine) (r : Point) → line_at m i ≡ Some l → OnSegment q z r → OnLine l r → SamePoint r z
inside_clear m t clean q z s k i l r is on on_line =
    let c = on_of_segment q z r on in
    let h = comb_back c.0 c.1 c.2 (vec q) (vec z) (vec r) c.3 in let hl = h.right in
    elim (le_or_lt c.0 (pos 0)) as (λ _. SamePoint r z) [
      | inl le ↦ same_of_zero c.1 c.0 c.2 z q r h (omega (arith, ints))
      | inr lt ↦ absurd (free_inside t (whole l.first) (whole l.second) (vec r) (clean.each i l is) (strict_mean t (vec z) (vec q) (vec r) c.1 c.0 c.2 k s h lt) (on_of_segment (point_of l.first) (point_of l.second) r on_line))
    ]

-- ---- out of a triangle through the middle of an edge that is no line

-- the first side is no line
abbrev pub IsNoLine : Map → Pt → Pt → Type 0
IsNoLine m a b = (i : ℕ) (l : MapLine) → line_at m i ≡ Some l → SameSegment (whole a) (whole b) (whole l.first) (whole l.second) → ⊥

middle_free : (m : Map) (a b c : Pt) → CleanAll m (tri a b c) → pos 0 <ℤ det (whole a) (whole b) (whole c) → IsNoLine m a b → OnNoLine m (middle a b)
middle_free m a b c clean h n i l is on = let s = middle_sides a b c h in
    free_side (tri a b c) (whole l.first) (whole l.second) (vec (middle a b)) (clean.each i l is).ab (n i l is) (middle_on a b) s.0 s.1 (on_of_segment (point_of l.first) (point_of l.second) (middle a b) on)

pub to_middle : (m : Map) (a b c : Pt) → CleanAll m (tri a b c) → pos 0 <ℤ det (whole a) (whole b) (whole c) → IsNoLine m a b → Leads m (centre a b c) (middle a b)
to_middle m a b c clean h n =
    let s = centre_strict a b c h in let f = middle_free m a b c clean h n in
    one_leg m (centre a b c) (middle a b) (inside_free m (tri a b c) (centre a b c) clean s) (misses_all_sym m (middle a b) (centre a b c) (joined m (tri a b c) (middle a b) (centre a b c) clean (middle_closed a b c h) f s)) f

pub middle_turned : (a b : Pt) → middle b a ≡ middle a b
unfolding middle
middle_turned a b = same (b.x +ℤ a.x) (a.x +ℤ b.x) (b.y +ℤ a.y) (a.y +ℤ b.y) (omega (arith, ints)) (omega (arith, ints))
  where
    same : (x z y w : ℤ) → x ≡ z → y ≡ w → ◌≡◌ {A = Point} (record { x = x; y = y; d = 2; positive = lit< tt }) (record { x = z; y = w; d = 2; positive = lit< tt })
    same x z y w e f = λ i. record { x = e i; y = f i; d = 2; positive = lit< tt }

same_turned : (a b u v : V) → SameSegment b a u v → SameSegment a b u v
same_turned a b u v s = elim s as (λ _. SameSegment a b u v) [ inl e ↦ inr (e.1, e.0) | inr e ↦ inl (e.1, e.0) ]

-- two triangles with a common side that is no line
pub across : (m : Map) (a b c e : Pt) → CleanAll m (tri a b c) → CleanAll m (tri b a e) → pos 0 <ℤ det (whole a) (whole b) (whole c) → pos 0 <ℤ det (whole b) (whole a) (whole e) → IsNoLine m a b → Leads m (centre a b c) (centre b a e)
across m a b c e ct cu ht hu n =
    let back = to_middle m b a e cu hu (λ i l is s. n i l is (same_turned (whole a) (whole b) (whole l.first) (whole l.second) s)) in
    let turned_back = path_back m (centre b a e) back.0 (middle b a) back.1 in
    leads_join m (centre a b c) (middle a b) (centre b a e) (to_middle m a b c ct ht n) (subst (λ (x : Point). Leads m x (centre b a e)) (middle_turned a b) turned_back)

-- beyond such a side that has no point of the map on its other side
pub out_through : (m : Map) → PointFacts m → (a b c : Pt) → CleanAll m (tri a b c) → pos 0 <ℤ det (whole a) (whole b) (whole c) → IsNoLine m a b → b ≢ a → IsLow m (edge (whole b) (whole a)) → (o : Point) × Leads m (centre a b c) o × IsOutside m o
out_through m facts a b c clean h n differ low =
    let o = far b a in
    let up : pos 0 <ℤ at (edge (whole b) (whole a)) (vec o) = far_left b a differ in
    let z : at (edge (whole b) (whole a)) (vec (middle a b)) ≡ pos 0 = subst (λ (x : Point). det (whole b) (whole a) (vec x) ≡ pos 0) (middle_turned a b) (middle_flat b a) in
    let f = middle_free m a b c clean h n in
    let clear : MissesAll m o (middle a b) = λ i l is r on on_line. f i l is (line_same l r (middle a b) (beyond_clear m (edge (whole b) (whole a)) low o (middle a b) up z i l r is on on_line) on_line) in
    (o, leads_join m (centre a b c) (middle a b) o (to_middle m a b c clean h n) (one_leg m (middle a b) o f (misses_all_sym m o (middle a b) clear) (free_beyond m (edge (whole b) (whole a)) low o up)), outside_beyond m (edge (whole b) (whole a)) low o up)
  where
    line_same : (l : MapLine) (r z : Point) → SamePoint r z → OnLine l r → OnLine l z
    line_same l r z same on = segment_of_on (point_of l.first) (point_of l.second) z (on_same (whole l.first) (whole l.second) z r (same_point_sym r z same) (on_of_segment (point_of l.first) (point_of l.second) r on))
