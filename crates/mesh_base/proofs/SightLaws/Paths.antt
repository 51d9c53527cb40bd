-- Paths, touches and segments of a map in the words of linked triangles.
use Rattle.std.proofs.Common.{◌≡◌, ℕ, ◌+◌, ◌*◌, ◌<◌, ℤ, pos, ◌+ℤ◌, ◌*ℤ◌, ◌-ℤ◌, ◌≤ℤ◌, ◌<ℤ◌, nat_abs, arith, refl, sym, ap, ◌∙◌, subst, ◌⊎◌, inl, inr, List, [], ◌∷◌, Some, Bool, true, false}
use borrow.Author.Differences.{ints}
use lib.IntN.{*ℤ-zero, zero-*ℤ, *ℤ_comm}
use Rattle.math_base.proofs.Quoting.{quoting, by_ring, combine2}
use Rattle.math_base.proofs.Signs.{mul-pos, mul-nonneg, pos-of-mul, nonneg-of-mul}
use Rattle.sight_names.specs.declared.names.Side.{Side}
use Rattle.sight_names.specs.Point.{Point, point_of, SamePoint, OnSegment, InsideSegment, OnSide}
use Rattle.sight_names.specs.Map.{Map, MapLine, line_at}
use Rattle.sight_names.specs.Path.{MissesAll, OnNoLine, IsPath, Leads, Touches}
use Rattle.sight_names.proofs.Laws.{same_point_sym, misses_sym}
use Rattle.plane_base.proofs.Vec.{V, Lin, at, edge, det, IsComb, On, value, mean, det-swap, det-cycle, det-first, det-last}
use Rattle.plane_base.proofs.Wedge.{Inside, on_within, inside_swap}
use Rattle.plane_base.proofs.Near.{on_first, on_straight, on_inside}
use Rattle.plane_base.proofs.Search.{In}
use Rattle.plane_base.proofs.Walk.{Tri, Closed, Region, segment_walk}
use Rattle.mesh_base.proofs.SightLaws.Bridge.{vec, mean_is_comb, on_of_segment, segment_of_on, turn_at_is}
use Rattle.sight_names.proofs.Portals.{scale_above}

-- a vector on a line of the map
abbrev pub OnLineV : Map → V → Type 0
OnLineV m r = (i : ℕ) × (l : MapLine) × (line_at m i ≡ Some l) × On (vec (point_of l.first)) (vec (point_of l.second)) r

-- a vector with a positive last number is a point
pub point_at : (r : V) → pos 0 <ℤ r.d → (p : Point) × (vec p ≡ r)
point_at r h =
    let e : pos (nat_abs r.d) ≡ r.d = omega (arith, ints) in
    (record { x = r.x; y = r.y; d = nat_abs r.d; positive = omega (arith, ints) }, ap (λ (k : ℤ). let v : V = record { x = r.x; y = r.y; d = k } in v) e)

pub comb_above : (l m n : ℤ) (p q : Point) (r : V) → IsComb l m n (vec p) (vec q) r → pos 0 <ℤ l → pos 0 <ℤ r.d
comb_above l m n p q r h hl = pos-of-mul n r.d h.scale (let e = h.d in omega (arith, ints, mul-pos l (pos p.d) hl (scale_above p), mul-nonneg m (pos q.d) h.right (let k = scale_above q in omega (arith, ints))))

-- no vector of the segment is on a line
pub free_of_misses : (m : Map) (p q : Point) → MissesAll m p q → (l k n : ℤ) (r : V) → IsComb l k n (vec p) (vec q) r → pos 0 <ℤ l → ¬ OnLineV m r
free_of_misses m p q h l k n r c hl (i, line, is, on) =
    let x = point_at r (comb_above l k n p q r c hl) in
    let on1 : On (vec p) (vec q) (vec x.0) = subst (λ (v : V). On (vec p) (vec q) v) (sym x.1) (l, k, n, c) in
    let on2 : On (vec (point_of line.first)) (vec (point_of line.second)) (vec x.0) = subst (λ (v : V). On (vec (point_of line.first)) (vec (point_of line.second)) v) (sym x.1) on in
    h i line is x.0 (segment_of_on p q x.0 on1) (segment_of_on (point_of line.first) (point_of line.second) x.0 on2)

-- one point under two names has values of one sign
same_ring : (a b c px py pd qx qy qd : ℤ) → (a *ℤ px +ℤ b *ℤ py +ℤ c *ℤ pd) *ℤ qd -ℤ (a *ℤ qx +ℤ b *ℤ qy +ℤ c *ℤ qd) *ℤ pd ≡ a *ℤ (px *ℤ qd -ℤ qx *ℤ pd) +ℤ b *ℤ (py *ℤ qd -ℤ qy *ℤ pd)
same_ring a b c px py pd qx qy qd = by_ring (a ∷ b ∷ c ∷ px ∷ py ∷ pd ∷ qx ∷ qy ∷ qd ∷ []) _ _ (search quoting depth 80 fits 1000000) (search quoting depth 80 fits 1000000) tt

pub same_value : (f : Lin) (p q : Point) → SamePoint p q → at f (vec p) *ℤ pos q.d ≡ at f (vec q) *ℤ pos p.d
unfolding at
same_value f p q h = combine2 f.a f.b h.x h.y (same_ring f.a f.b f.c p.x p.y (pos p.d) q.x q.y (pos q.d))

same_nonneg : (f : Lin) (p q : Point) → SamePoint p q → pos 0 ≤ℤ at f (vec p) → pos 0 ≤ℤ at f (vec q)
same_nonneg f p q h k = nonneg-of-mul (pos p.d) (at f (vec q)) (scale_above p) (omega (arith, ints, same_value f p q h, *ℤ_comm (at f (vec q)) (pos p.d), mul-nonneg (at f (vec p)) (pos q.d) k (let z = scale_above q in omega (arith, ints))))

pub closed_same : (t : Tri) (p q : Point) → SamePoint p q → Closed t (vec p) → Closed t (vec q)
closed_same t p q h c = record { ab = same_nonneg (edge t.a t.b) p q h c.ab; bc = same_nonneg (edge t.b t.c) p q h c.bc; ca = same_nonneg (edge t.c t.a) p q h c.ca }

-- ---- a path stays in linked triangles
abbrev pub Holds : List Tri → Point → Type 0
Holds cs p = (t : Tri) × In t cs × Closed t (vec p)

pub path_walk : (m : Map) (cs : List Tri) (Escape : Type 0) → Region cs (OnLineV m) Escape → (p : Point) (rs : List Point) (q : Point) → IsPath m p rs q → Holds cs p → Holds cs q ⊎ Escape
path_walk m cs Escape reg p [] q h (t, i, c) = inl (t, i, closed_same t p q h.1 c)
path_walk m cs Escape reg p (r ∷ rs) q h (t, i, c) =
    elim (segment_walk cs (OnLineV m) Escape reg (vec p) (vec r) t i c (free_of_misses m p r h.1)) as (λ _. Holds cs q ⊎ Escape) [
      | inl s ↦ path_walk m cs Escape reg r rs q h.2 (s.t, s.member, s.to)
      | inr e ↦ inr e
    ]

-- ---- a path back
pub same_on : (p q a b : Point) → SamePoint p q → OnSegment p a b → OnSegment q a b
same_on p q a b h (u, v, k) = segment_of_on q a b (swap_first p q a b h (_, _, _, mean_is_comb u v p a b k))
  where
    scale_ring : (l m n rx px ax pd qd qx : ℤ) → n *ℤ qd *ℤ rx -ℤ (l *ℤ pd *ℤ qx +ℤ m *ℤ qd *ℤ ax) ≡ qd *ℤ (n *ℤ rx -ℤ (l *ℤ px +ℤ m *ℤ ax)) +ℤ l *ℤ (px *ℤ qd -ℤ qx *ℤ pd)
    scale_ring l m n rx px ax pd qd qx = by_ring (l ∷ m ∷ n ∷ rx ∷ px ∷ ax ∷ pd ∷ qd ∷ qx ∷ []) _ _ (search quoting depth 80 fits 1000000) (search quoting depth 80 fits 1000000) tt

    last_ring : (l m n rd pd ad qd : ℤ) → n *ℤ qd *ℤ rd -ℤ (l *ℤ pd *ℤ qd +ℤ m *ℤ qd *ℤ ad) ≡ qd *ℤ (n *ℤ rd -ℤ (l *ℤ pd +ℤ m *ℤ ad)) +ℤ pos 0 *ℤ (n *ℤ rd -ℤ (l *ℤ pd +ℤ m *ℤ ad))
    last_ring l m n rd pd ad qd = by_ring (l ∷ m ∷ n ∷ rd ∷ pd ∷ ad ∷ qd ∷ []) _ _ (search quoting depth 80 fits 1000000) (search quoting depth 80 fits 1000000) tt

    swap_first : (p q a b : Point) → SamePoint p q → On (vec p) (vec a) (vec b) → On (vec q) (vec a) (vec b)
    swap_first p q a b h (l, m, n, c) = (
      l *ℤ pos p.d,
      m *ℤ pos q.d,
      n *ℤ pos q.d,
      record {
        left = mul-nonneg l (pos p.d) c.left (let z = scale_above p in omega (arith, ints));
        right = mul-nonneg m (pos q.d) c.right (let z = scale_above q in omega (arith, ints));
        scale = mul-pos n (pos q.d) c.scale (scale_above q);
        x = combine2 (pos q.d) l c.x h.x (scale_ring l m n b.x p.x a.x (pos p.d) (pos q.d) q.x);
        y = combine2 (pos q.d) l c.y h.y (scale_ring l m n b.y p.y a.y (pos p.d) (pos q.d) q.y);
        d = combine2 (pos q.d) (pos 0) c.d c.d (last_ring l m n (pos b.d) (pos p.d) (pos a.d) (pos q.d));
      },
    )

misses_same : (m : Map) (p q a : Point) → SamePoint p q → MissesAll m p a → MissesAll m q a
misses_same m p q a h k i l is r on on_line = k i l is r (same_on q p a r (same_point_sym p q h) on) on_line

pub misses_all_sym : (m : Map) (p q : Point) → MissesAll m p q → MissesAll m q p
misses_all_sym m p q h i l is = misses_sym p q l (h i l is)

-- a point of a line stays so under another name
on_ring : (l m n qx px ax bx pd qd : ℤ) → n *ℤ qd *ℤ px -ℤ (l *ℤ pd *ℤ ax +ℤ m *ℤ pd *ℤ bx) ≡ pd *ℤ (n *ℤ qx -ℤ (l *ℤ ax +ℤ m *ℤ bx)) +ℤ n *ℤ (px *ℤ qd -ℤ qx *ℤ pd)
on_ring l m n qx px ax bx pd qd = by_ring (l ∷ m ∷ n ∷ qx ∷ px ∷ ax ∷ bx ∷ pd ∷ qd ∷ []) _ _ (search quoting depth 80 fits 1000000) (search quoting depth 80 fits 1000000) tt

on_last_ring : (l m n ad bd pd qd : ℤ) → n *ℤ qd *ℤ pd -ℤ (l *ℤ pd *ℤ ad +ℤ m *ℤ pd *ℤ bd) ≡ pd *ℤ (n *ℤ qd -ℤ (l *ℤ ad +ℤ m *ℤ bd)) +ℤ pos 0 *ℤ (n *ℤ qd -ℤ (l *ℤ ad +ℤ m *ℤ bd))
on_last_ring l m n ad bd pd qd = by_ring (l ∷ m ∷ n ∷ ad ∷ bd ∷ pd ∷ qd ∷ []) _ _ (search quoting depth 80 fits 1000000) (search quoting depth 80 fits 1000000) tt

pub on_same : (a b : V) (p q : Point) → SamePoint p q → On a b (vec q) → On a b (vec p)
on_same a b p q h (l, m, n, c) = (
  l *ℤ pos p.d,
  m *ℤ pos p.d,
  n *ℤ pos q.d,
  record {
    left = mul-nonneg l (pos p.d) c.left (let z = scale_above p in omega (arith, ints));
    right = mul-nonneg m (pos p.d) c.right (let z = scale_above p in omega (arith, ints));
    scale = mul-pos n (pos q.d) c.scale (scale_above q);
    x = combine2 (pos p.d) n c.x h.x (on_ring l m n q.x p.x a.x b.x (pos p.d) (pos q.d));
    y = combine2 (pos p.d) n c.y h.y (on_ring l m n q.y p.y a.y b.y (pos p.d) (pos q.d));
    d = combine2 (pos p.d) (pos 0) c.d c.d (on_last_ring l m n a.d b.d (pos p.d) (pos q.d));
  },
)

pub free_same : (m : Map) (p q : Point) → SamePoint p q → OnNoLine m p → OnNoLine m q
free_same m p q h k i l is on =
    k i l is (segment_of_on (point_of l.first) (point_of l.second) p (on_same (vec (point_of l.first)) (vec (point_of l.second)) p q h (on_of_segment (point_of l.first) (point_of l.second) q on)))

-- one more step at the end
snoc : (m : Map) (p : Point) (rs : List Point) (q r : Point) → IsPath m p rs q → MissesAll m q r → OnNoLine m r → Leads m p r
snoc m p [] q r h k f = (r ∷ [], (h.0, misses_same m q p r (same_point_sym p q h.1) k, (f, record { x = refl; y = refl })))
snoc m p (a ∷ rs) q r h k f = let t = snoc m a rs q r h.2 k f in (a ∷ t.0, (h.0, h.1, t.1))

pub free_first : (m : Map) (p : Point) (rs : List Point) (q : Point) → IsPath m p rs q → OnNoLine m p
free_first m p [] q h = h.0
free_first m p (a ∷ rs) q h = h.0

pub path_back : (m : Map) (p : Point) (rs : List Point) (q : Point) → IsPath m p rs q → Leads m q p
path_back m p [] q h = ([], (free_same m p q h.1 h.0, same_point_sym p q h.1))
path_back m p (a ∷ rs) q h = let t = path_back m a rs q h.2 in snoc m q t.0 a p t.1 (misses_all_sym m p a h.1) h.0

-- ---- the side of a line: from u to v it is on the left
pub record IsSide (l : MapLine) (left : Bool) (u v : V) : Type 0 where
  pub place : ((u ≡ vec (point_of l.first)) × (v ≡ vec (point_of l.second))) ⊎ ((u ≡ vec (point_of l.second)) × (v ≡ vec (point_of l.first)))
  pub on : (q : Point) → OnSide l.first l.second left q → pos 0 <ℤ det u v (vec q)

-- the line's own direction has its left side on the left, the reverse its right side
abbrev pub side_from : MapLine → Bool → V
side_from l true = vec (point_of l.first)
side_from l false = vec (point_of l.second)

abbrev pub side_to : MapLine → Bool → V
side_to l true = vec (point_of l.second)
side_to l false = vec (point_of l.first)

pub is_side : (l : MapLine) (left : Bool) → IsSide l left (side_from l left) (side_to l left)
is_side l true = record { place = inl (refl, refl); on = λ q h. let e = turn_at_is l.first l.second q in omega (arith, ints) }
is_side l false = record { place = inr (refl, refl); on = λ q h. let e = turn_at_is l.first l.second q in let s = det-swap (vec (point_of l.first)) (vec (point_of l.second)) (vec q) in omega (arith, ints) }

scaled_above : (u d r : ℕ) → 0 < u → 0 < d → 0 < r → pos 0 <ℤ (pos (u * d) *ℤ pos r)
scaled_above u d r hu hd hr = mul-pos (pos (u * d)) (pos r) (mul-pos (pos u) (pos d) (omega (arith, ints)) (omega (arith, ints))) (omega (arith, ints))

pub inside_of : (p q r : Point) → InsideSegment p q r → Inside (vec p) (vec q) (vec r)
inside_of p q r (u, v, hu, hv, h, n1, n2) = record {
  l = pos (u * q.d) *ℤ pos r.d;
  m = pos (v * p.d) *ℤ pos r.d;
  n = pos ((u + v) * (p.d * q.d));
  comb = mean_is_comb u v p q r h;
  left = scaled_above u q.d r.d hu q.positive r.positive;
  right = scaled_above v p.d r.d hv p.positive r.positive;
}

foot_inside : (m : Map) (p : Point) (s : Side) (t : Touches m p s) (u v : V) → IsSide t.line s.left u v → Inside u v (vec t.foot)
foot_inside m p s t u v h =
    let i = inside_of (point_of t.line.first) (point_of t.line.second) t.foot t.inside in
    elim h.place as (λ _. Inside u v (vec t.foot)) [
      | inl e ↦ subst (λ (x : V). Inside x v (vec t.foot)) (sym e.0) (subst (λ (x : V). Inside (vec (point_of t.line.first)) x (vec t.foot)) (sym e.1) i)
      | inr e ↦ subst (λ (x : V). Inside x v (vec t.foot)) (sym e.0) (subst (λ (x : V). Inside (vec (point_of t.line.second)) x (vec t.foot)) (sym e.1) (inside_swap (vec (point_of t.line.first)) (vec (point_of t.line.second)) (vec t.foot) i))
    ]

-- from q to the foot nothing but the foot is on a line
pub free_before : (m : Map) (p : Point) (s : Side) (t : Touches m p s) (u v : V) → IsSide t.line s.left u v → (r : V) → pos 0 <ℤ r.d → On (vec t.q) (vec t.foot) r → pos 0 <ℤ det u v r → ¬ OnLineV m r
free_before m p s t u v h r rd on left (i, line, is, onl) =
    let x = point_at r rd in
    let on1 : On (vec t.q) (vec t.foot) (vec x.0) = subst (λ (k : V). On (vec t.q) (vec t.foot) k) (sym x.1) on in
    let on2 : On (vec (point_of line.first)) (vec (point_of line.second)) (vec x.0) = subst (λ (k : V). On (vec (point_of line.first)) (vec (point_of line.second)) k) (sym x.1) onl in
    let same = t.clear i line x.0 is (segment_of_on t.q t.foot x.0 on1) (segment_of_on (point_of line.first) (point_of line.second) x.0 on2) in
    let z = on_straight u v (vec t.foot) (on_inside u v (vec t.foot) (foot_inside m p s t u v h)) in
    let e = same_value (edge u v) x.0 t.foot same in
    let left2 : pos 0 <ℤ det u v (vec x.0) = subst (λ (k : V). pos 0 <ℤ det u v k) (sym x.1) left in
    let w : det u v (vec t.foot) *ℤ pos x.0.d ≡ pos 0 = ap (λ (k : ℤ). k *ℤ pos x.0.d) z ∙ zero-*ℤ (pos x.0.d) in
    omega (arith, ints, mul-pos (det u v (vec x.0)) (pos t.foot.d) left2 (scale_above t.foot))

-- from q on to the foot: the triangle there has the foot and a point strictly on the side
pub record Reaches (cs : List Tri) (u v f : V) : Type 0 where
  pub t : Tri
  pub member : In t cs
  pub z : V
  pub left : pos 0 <ℤ det u v z
  pub from : Closed t z
  pub to : Closed t f

pub to_foot : (m : Map) (cs : List Tri) (Escape : Type 0) → Region cs (OnLineV m) Escape → (p : Point) (s : Side) (t : Touches m p s) (u v : V) → IsSide t.line s.left u v → Holds cs p → Reaches cs u v (vec t.foot) ⊎ Escape
to_foot m cs Escape reg p s t u v h hp =
    elim (path_walk m cs Escape reg p t.path.0 t.q t.path.1 hp) as (λ _. Reaches cs u v (vec t.foot) ⊎ Escape) [
      | inr e ↦ inr e
      | inl hq ↦
          let left_q = h.on t.q t.side in
          let zf = on_straight u v (vec t.foot) (on_inside u v (vec t.foot) (foot_inside m p s t u v h)) in
          let up : (l k n : ℤ) (r : V) → IsComb l k n (vec t.q) (vec t.foot) r → pos 0 <ℤ l → pos 0 <ℤ det u v r = λ l k n r c hl.
          let e = value (edge u v) l k n (vec t.q) (vec t.foot) r c in
          let w : k *ℤ det u v (vec t.foot) ≡ pos 0 = ap (λ (j : ℤ). k *ℤ j) zf ∙ *ℤ-zero k in
          pos-of-mul n (det u v r) c.scale (omega (arith, ints, mul-pos l (det u v (vec t.q)) hl left_q)) in
          elim (segment_walk cs (OnLineV m) Escape reg (vec t.q) (vec t.foot) hq.0 hq.1 hq.2
          (λ l k n r c hl. free_before m p s t u v h r (comb_above l k n t.q t.foot r c hl) (l, k, n, c) (up l k n r c hl))) as (λ _. Reaches cs u v (vec t.foot) ⊎ Escape) [
            | inr e ↦ inr e
            | inl st ↦ inl (record { t = st.t; member = st.member; z = st.z; left = up st.l st.m st.n st.z st.comb st.left; from = st.from; to = st.to })
          ]
    ]

-- a number not below -f
size : (f : ℤ) → (k : ℤ) × (pos 0 <ℤ k) × (pos 0 <ℤ (k +ℤ f))
size f = (pos 1 +ℤ pos (nat_abs f), omega (arith, ints), omega (arith, ints))

-- from the side's triangle to q and back along the path to p
pub touch_walk : (m : Map) (cs : List Tri) (Escape : Type 0) → Region cs (OnLineV m) Escape → (p : Point) (s : Side) (t : Touches m p s) (u v w : V) → IsSide t.line s.left u v
    → In (record { a = u; b = v; c = w }) cs → Holds cs p ⊎ Escape
touch_walk m cs Escape reg p s t u v w h it =
    let tri : Tri = record { a = u; b = v; c = w } in
    let F = vec t.foot in let Q = vec t.q in
    let fi = foot_inside m p s t u v h in
    let left_q = h.on t.q t.side in
    let zf = on_straight u v F (on_inside u v F fi) in
    let turn = reg.turn tri it in
    let vb = value (edge v w) fi.l fi.m fi.n u v F fi.comb in
    let va = value (edge w u) fi.l fi.m fi.n u v F fi.comb in
    let c1 = det-cycle u v w in let c2 = det-cycle v w u in
    let z1 : fi.m *ℤ det v w v ≡ pos 0 = ap (λ (k : ℤ). fi.m *ℤ k) (det-first v w) ∙ *ℤ-zero fi.m in
    let z2 : fi.l *ℤ det w u u ≡ pos 0 = ap (λ (k : ℤ). fi.l *ℤ k) (det-last w u) ∙ *ℤ-zero fi.l in
    let fb : pos 0 <ℤ det v w F = pos-of-mul fi.n (det v w F) fi.comb.scale (omega (arith, ints, mul-pos fi.l (det v w u) fi.left (omega (arith, ints)))) in
    let fa : pos 0 <ℤ det w u F = pos-of-mul fi.n (det w u F) fi.comb.scale (omega (arith, ints, mul-pos fi.m (det w u v) fi.right (omega (arith, ints)))) in
    let kb = size (det v w Q) in let ka = size (det w u Q) in
    let K = kb.0 +ℤ ka.0 in
    let kb1 = kb.1 in let ka1 = ka.1 in let kb2 = kb.2 in let ka2 = ka.2 in
    let hK : pos 0 ≤ℤ K = omega (arith, ints) in
    let mm = mean K (pos 1) F Q hK (omega (arith, ints)) in
    let M = mm.0 in
    let m1 = value (edge u v) _ _ _ F Q M mm.1 in
    let m2 = value (edge v w) _ _ _ F Q M mm.1 in
    let m3 = value (edge w u) _ _ _ F Q M mm.1 in
    let zk : K *ℤ det u v F ≡ pos 0 = ap (λ (k : ℤ). K *ℤ k) zf ∙ *ℤ-zero K in
    let mulb = at_least K (det v w F) hK fb in
    let mula = at_least K (det w u F) hK fa in
    let cm : Closed tri M = record { ab = omega (arith, ints); bc = omega (arith, ints); ca = omega (arith, ints) } in
    let up : (l k n : ℤ) (r : V) → IsComb l k n M Q r → pos 0 <ℤ l → pos 0 <ℤ det u v r = λ l k n r c hl.
    let e = value (edge u v) l k n M Q r c in
    pos-of-mul n (det u v r) c.scale (omega (arith, ints, mul-pos l (det u v M) hl (omega (arith, ints)), mul-nonneg k (det u v Q) c.right (omega (arith, ints)))) in
    let on_qf : (l k n : ℤ) (r : V) → IsComb l k n M Q r → On Q F r = λ l k n r c.
    on_within Q F M Q r (pos 1, K, pos 1, record { left = omega (arith, ints); right = hK; scale = omega (arith, ints); x = let e = mm.1.x in omega (arith, ints); y = let e = mm.1.y in omega (arith, ints); d = let e = mm.1.d in omega (arith, ints) }) (on_first Q F) (l, k, n, c) in
    let md : pos 0 <ℤ M.d = let e = mm.1.d in omega (arith, ints, mul-nonneg K (pos t.foot.d) hK (let z = scale_above t.foot in omega (arith, ints)), scale_above t.q) in
    let rd : (l k n : ℤ) (r : V) → IsComb l k n M Q r → pos 0 <ℤ l → pos 0 <ℤ r.d = λ l k n r c hl.
    pos-of-mul n r.d c.scale (let e = c.d in omega (arith, ints, mul-pos l M.d hl md, mul-nonneg k (pos t.q.d) c.right (let z = scale_above t.q in omega (arith, ints)))) in
    elim (segment_walk cs (OnLineV m) Escape reg M Q tri it cm (λ l k n r c hl. free_before m p s t u v h r (rd l k n r c hl) (on_qf l k n r c) (up l k n r c hl))) as (λ _. Holds cs p ⊎ Escape) [
      | inr e ↦ inr e
      | inl st ↦
          let back = path_back m p t.path.0 t.q t.path.1 in
          path_walk m cs Escape reg t.q back.0 p back.1 (st.t, st.member, st.to)
    ]
  where
    at_least : (K f : ℤ) → pos 0 ≤ℤ K → pos 0 <ℤ f → K ≤ℤ (K *ℤ f)
    at_least K f hK hf = let e = mul-nonneg K (f -ℤ pos 1) hK (omega (arith, ints)) in let r : K *ℤ (f -ℤ pos 1) ≡ K *ℤ f -ℤ K = by_ring (K ∷ f ∷ []) _ _ (search quoting depth 60 fits 1000000) (search quoting depth 60 fits 1000000) tt in omega (arith, ints)
