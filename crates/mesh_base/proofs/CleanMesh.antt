-- A triangle of a plain mesh, labelled or not, that is turned to one of its directed edges: its turn, and how the lines of the map meet it.
use Rattle.std.proofs.Common.{◌≡◌, ℕ, ◌<◌, ℤ, pos, ◌+ℤ◌, ◌*ℤ◌, ◌<ℤ◌, arith, sym, ap, ◌∙◌, subst, ◌⊎◌, inl, inr, List, Some, Bool, true, false, ◌==◌, ◌&&◌, ◌||◌, length, slice_get, if◌then◌else◌}
use borrow.Author.Differences.{ints}
use lib.IntN.{zero-*ℤ, *ℤ_comm}
use Rattle.std.proofs.lemmas.Bool.Decides.{nat_tests}
use Rattle.math_base.proofs.Signs.{le_or_lt, mul-pos, pos-of-mul}
use Rattle.sight_names.specs.declared.names.Pt.{Pt}
use Rattle.sight_names.specs.declared.names.Triangle.{Triangle}
use Rattle.sight_names.specs.Point.{Point, point_of, SamePoint}
use Rattle.sight_names.specs.Map.{Map, MapLine, line_at}
use Rattle.sight_names.specs.Points.{Edge, points_of, place, point_number}
use Rattle.sight_names.specs.Sound.{MeetAtEnds}
use Rattle.sight_names.specs.Mesh.{IsTriangle, HasEdge, IsLineEdge, side_edge, InsideTriangle, IsCounterclockwise, IsPlainMesh}
use Rattle.sight_names.specs.Sequence.{third_point}
use Rattle.plane_base.proofs.Vec.{V, Lin, at, det, On, value, det-cycle}
use Rattle.plane_base.proofs.Search.{In}
use Rattle.plane_base.proofs.Walk.{Tri, sides}
use Rattle.mesh_base.proofs.SightLaws.Bridge.{vec, turn_at_is, segment_of_on}
use Rattle.mesh_base.proofs.SightLaws.Paths.{point_at}
use Rattle.mesh_base.proofs.Face.{Apart, Fair, Clean}
use Rattle.mesh_base.proofs.Net.{IsAt}
use Rattle.mesh_base.proofs.Joined.{whole}

-- ---- points and triangles as vectors
abbrev pub pv : Map → ℕ → V
pv m k = whole (place m k)

abbrev pub tri : V → V → V → Tri
tri a b c = record { a = a; b = b; c = c }

abbrev pub tri_of : Map → Triangle → Tri
tri_of m t = tri (pv m t.p) (pv m t.q) (pv m t.r)

-- ---- a triangle turned to one of its directed edges

-- u and v are the ends of one of its directed edges, w is the third corner
abbrev pub IsTurnedTo : Triangle → ℕ → ℕ → ℕ → Type 0
IsTurnedTo t u v w = ((t.p ≡ u) × (t.q ≡ v) × (t.r ≡ w)) ⊎ (((t.q ≡ u) × (t.r ≡ v) × (t.p ≡ w)) ⊎ ((t.r ≡ u) × (t.p ≡ v) × (t.q ≡ w)))

pub turned_to_third : (t : Triangle) (u v : ℕ) → HasEdge t (record { from = u; to = v }) → IsTurnedTo t u v (third_point (record { from = u; to = v }) t)
turned_to_third t u v h = numbers t.p t.q t.r u v h
  where
    numbers : (p q r u v : ℕ) → ((p == u && q == v) || (q == u && r == v) || (r == u && p == v)) ≡ true
        → ((p ≡ u) × (q ≡ v) × (r ≡ (if p == u && q == v then r else if q == u && r == v then p else q)))
        ⊎ (((q ≡ u) × (r ≡ v) × (p ≡ (if p == u && q == v then r else if q == u && r == v then p else q))) ⊎ ((r ≡ u) × (p ≡ v) × (q ≡ (if p == u && q == v then r else if q == u && r == v then p else q))))
    numbers p q r u v h = grind (arith, nat_tests)

pub turned_side : (m : Map) (t : Triangle) (u v w : ℕ) → IsTurnedTo t u v w → In (tri (pv m u) (pv m v) (pv m w)) (sides (tri_of m t))
turned_side m t u v w (inl (e, f, g)) = inl (λ i. tri (pv m (e i)) (pv m (f i)) (pv m (g i)))
turned_side m t u v w (inr (inl (e, f, g))) = inr (inl (λ i. tri (pv m (e i)) (pv m (f i)) (pv m (g i))))
turned_side m t u v w (inr (inr (e, f, g))) = inr (inr (inl (λ i. tri (pv m (e i)) (pv m (f i)) (pv m (g i)))))

pub turned_below : (n : ℕ) (t : Triangle) (u v w : ℕ) → IsTriangle n t → IsTurnedTo t u v w → (u < n) × (v < n)
turned_below n t u v w h (inl (e, f, g)) = (omega (arith, h.least, h.second, e), omega (arith, h.second, f))
turned_below n t u v w h (inr (inl (e, f, g))) = (omega (arith, h.second, e), omega (arith, h.third, f))
turned_below n t u v w h (inr (inr (e, f, g))) = (omega (arith, h.third, e), omega (arith, h.least, h.second, f))

pub turn_on : (t : Triangle) (u v w : ℕ) → IsTurnedTo t u v w → IsTurnedTo t v w u
turn_on t u v w (inl (e, f, g)) = inr (inl (f, g, e))
turn_on t u v w (inr (inl (e, f, g))) = inr (inr (f, g, e))
turn_on t u v w (inr (inr (e, f, g))) = inl (f, g, e)

pub edge_pq : (t : Triangle) → HasEdge t (record { from = t.p; to = t.q })
edge_pq t = grind (arith, nat_tests)

pub edge_qr : (t : Triangle) → HasEdge t (record { from = t.q; to = t.r })
edge_qr t = grind (arith, nat_tests)

pub edge_rp : (t : Triangle) → HasEdge t (record { from = t.r; to = t.p })
edge_rp t = grind (arith, nat_tests)

pub turned_edge : (t : Triangle) (u v w : ℕ) → IsTurnedTo t u v w → HasEdge t (record { from = u; to = v })
turned_edge t u v w (inl (e, f, g)) = subst (λ (x : ℕ). HasEdge t (record { from = x; to = v })) e (subst (λ (x : ℕ). HasEdge t (record { from = t.p; to = x })) f (edge_pq t))
turned_edge t u v w (inr (inl (e, f, g))) = subst (λ (x : ℕ). HasEdge t (record { from = x; to = v })) e (subst (λ (x : ℕ). HasEdge t (record { from = t.q; to = x })) f (edge_qr t))
turned_edge t u v w (inr (inr (e, f, g))) = subst (λ (x : ℕ). HasEdge t (record { from = x; to = v })) e (subst (λ (x : ℕ). HasEdge t (record { from = t.r; to = x })) f (edge_rp t))

pub turned_turn : (m : Map) (t : Triangle) → IsCounterclockwise m t → (u v w : ℕ) → IsTurnedTo t u v w → pos 0 <ℤ det (pv m u) (pv m v) (pv m w)
turned_turn m t turn u v w h = by (subst (λ (x : ℤ). pos 0 <ℤ x) (turn_at_is (place m t.p) (place m t.q) (point_of (place m t.r))) turn) h
  where
    by : pos 0 <ℤ det (pv m t.p) (pv m t.q) (pv m t.r) → IsTurnedTo t u v w → pos 0 <ℤ det (pv m u) (pv m v) (pv m w)
    by k (inl (e, f, g)) = subst (λ (x : ℤ). pos 0 <ℤ x) (λ i. det (pv m (e i)) (pv m (f i)) (pv m (g i))) k
    by k (inr (inl (e, f, g))) = subst (λ (x : ℤ). pos 0 <ℤ x) (sym (det-cycle (pv m t.p) (pv m t.q) (pv m t.r)) ∙ (λ i. det (pv m (e i)) (pv m (f i)) (pv m (g i)))) k
    by k (inr (inr (e, f, g))) = subst (λ (x : ℤ). pos 0 <ℤ x) (det-cycle (pv m t.r) (pv m t.p) (pv m t.q) ∙ (λ i. det (pv m (e i)) (pv m (f i)) (pv m (g i)))) k

-- ---- meeting at ends, said of vectors

at_of_same : (p : Pt) (r : Point) → SamePoint r (point_of p) → IsAt (whole p) (vec r)
at_of_same p r h = record {
  k = pos r.d;
  n = pos 1;
  up = let z = r.positive in omega (arith, ints);
  comb = record {
    left = omega (arith, ints);
    right = omega (arith, ints);
    scale = omega (arith, ints);
    x = let e = h.x in omega (arith, ints, *ℤ_comm p.x (pos r.d), *ℤ_comm r.x (pos 1), zero-*ℤ p.x);
    y = let e = h.y in omega (arith, ints, *ℤ_comm p.y (pos r.d), *ℤ_comm r.y (pos 1), zero-*ℤ p.y);
    d = omega (arith, ints);
  };
}

-- a vector of a segment that isn't 0 is a point
on_above : (p q : Pt) (w : V) (f : Lin) → pos 0 <ℤ at f w → On (whole p) (whole q) w → pos 0 <ℤ w.d
on_above p q w f fw (l, m, n, h) =
    let v = value f l m n (whole p) (whole q) w h in
    let e = h.d in let hl = h.left in let hm = h.right in
    elim (le_or_lt (l +ℤ m) (pos 0)) as (λ _. pos 0 <ℤ w.d) [
      | inl z ↦ absurd (
          let lz : l ≡ pos 0 = omega (arith, ints) in let mz : m ≡ pos 0 = omega (arith, ints) in
          let a : l *ℤ at f (whole p) ≡ pos 0 = ap (λ (k : ℤ). k *ℤ at f (whole p)) lz ∙ zero-*ℤ (at f (whole p)) in
          let b : m *ℤ at f (whole q) ≡ pos 0 = ap (λ (k : ℤ). k *ℤ at f (whole q)) mz ∙ zero-*ℤ (at f (whole q)) in
          omega (arith, ints, mul-pos n (at f w) h.scale fw))
      | inr s ↦ pos-of-mul n w.d h.scale (omega (arith, ints))
    ]

fair_of : (p q s t : Pt) → MeetAtEnds p q s t → (w : V) (f : Lin) → pos 0 <ℤ at f w → On (whole p) (whole q) w → On (whole s) (whole t) w → (IsAt (whole p) w ⊎ IsAt (whole q) w) × (IsAt (whole s) w ⊎ IsAt (whole t) w)
fair_of p q s t h w f fw o1 o2 =
    let x = point_at w (on_above p q w f fw o1) in
    let o3 : On (whole p) (whole q) (vec x.0) = subst (λ (k : V). On (whole p) (whole q) k) (sym x.1) o1 in
    let o4 : On (whole s) (whole t) (vec x.0) = subst (λ (k : V). On (whole s) (whole t) k) (sym x.1) o2 in
    let e = h.ends x.0 (segment_of_on (point_of p) (point_of q) x.0 o3, segment_of_on (point_of s) (point_of t) x.0 o4) in
    let P : V → Type 0 = λ k. (IsAt (whole p) k ⊎ IsAt (whole q) k) × (IsAt (whole s) k ⊎ IsAt (whole t) k) in
    subst P x.1 (ends p q x.0 e.0, ends s t x.0 e.1)
  where
    ends : (p q : Pt) (r : Point) → SamePoint r (point_of p) ⊎ SamePoint r (point_of q) → IsAt (whole p) (vec r) ⊎ IsAt (whole q) (vec r)
    ends p q r (inl a) = inl (at_of_same p r a)
    ends p q r (inr a) = inr (at_of_same q r a)

-- ---- what the numbers of points are: to be shown once of the list of points
pub record PointFacts (m : Map) : Type 0 where
  pub is_end : (k : ℕ) → k < length (points_of m) → (i : ℕ) × (l : MapLine) × (line_at m i ≡ Some l) × ((place m k ≡ l.first) ⊎ (place m k ≡ l.second))
  pub number : (k : ℕ) → k < length (points_of m) → point_number m (place m k) ≡ k
  pub first : (i : ℕ) (l : MapLine) → line_at m i ≡ Some l → (place m (point_number m l.first) ≡ l.first) × (point_number m l.first < length (points_of m))
  pub second : (i : ℕ) (l : MapLine) → line_at m i ≡ Some l → (place m (point_number m l.second) ≡ l.second) × (point_number m l.second < length (points_of m))
  pub apart : (i : ℕ) (l : MapLine) → line_at m i ≡ Some l → Apart (vec (point_of l.first)) (vec (point_of l.second)) × Apart (vec (point_of l.second)) (vec (point_of l.first))
  pub dec_line : (e : Edge) → IsLineEdge m e ⊎ ¬ IsLineEdge m e

-- ---- triangles of a plain mesh

module _ (m : Map) (ts : List Triangle) (plain : IsPlainMesh m ts) (k : ℕ) (t : Triangle) (is : slice_get ts k ≡ Some t) where
  turned_empty : (u v w : ℕ) → IsTurnedTo t u v w → (n : ℕ) → n < length (points_of m) → (x : V) → pv m n ≡ x → pos 0 <ℤ det (pv m u) (pv m v) x → pos 0 <ℤ det (pv m v) (pv m w) x → pos 0 <ℤ det (pv m w) (pv m u) x → ⊥
  turned_empty u v w h n low x e a b c = plain.empty k t is n low (at h)
    where
      back : (i j : ℕ) → pos 0 <ℤ det (pv m i) (pv m j) x → pos 0 <ℤ det (pv m i) (pv m j) (pv m n)
      back i j p = subst (λ (y : V). pos 0 <ℤ det (pv m i) (pv m j) y) (sym e) p

      side_is : (i j y z : ℕ) → i ≡ y → j ≡ z → pos 0 <ℤ det (pv m y) (pv m z) (pv m n) → pos 0 <ℤ det (pv m i) (pv m j) (pv m n)
      side_is i j y z f g p = subst (λ (s : ℕ). pos 0 <ℤ det (pv m s) (pv m j) (pv m n)) (sym f) (subst (λ (s : ℕ). pos 0 <ℤ det (pv m y) (pv m s) (pv m n)) (sym g) p)

      inside : pos 0 <ℤ det (pv m t.p) (pv m t.q) (pv m n) → pos 0 <ℤ det (pv m t.q) (pv m t.r) (pv m n) → pos 0 <ℤ det (pv m t.r) (pv m t.p) (pv m n) → InsideTriangle m t (point_of (place m n))
      inside p q s = record {
        pq = subst (λ (z : ℤ). pos 0 <ℤ z) (sym (turn_at_is (place m t.p) (place m t.q) (point_of (place m n)))) p;
        qr = subst (λ (z : ℤ). pos 0 <ℤ z) (sym (turn_at_is (place m t.q) (place m t.r) (point_of (place m n)))) q;
        rp = subst (λ (z : ℤ). pos 0 <ℤ z) (sym (turn_at_is (place m t.r) (place m t.p) (point_of (place m n)))) s;
      }

      at : IsTurnedTo t u v w → InsideTriangle m t (point_of (place m n))
      at (inl (f, g, d)) = inside (side_is t.p t.q u v f g (back u v a)) (side_is t.q t.r v w g d (back v w b)) (side_is t.r t.p w u d f (back w u c))
      at (inr (inl (f, g, d))) = inside (side_is t.p t.q w u d f (back w u c)) (side_is t.q t.r u v f g (back u v a)) (side_is t.r t.p v w g d (back v w b))
      at (inr (inr (f, g, d))) = inside (side_is t.p t.q v w g d (back v w b)) (side_is t.q t.r w u d f (back w u c)) (side_is t.r t.p u v f g (back u v a))

  module _ (facts : PointFacts m) where
    turned_fair : (u v w : ℕ) → IsTurnedTo t u v w → (i : ℕ) (l : MapLine) → line_at m i ≡ Some l → Fair (pv m u) (pv m v) (whole l.first) (whole l.second)
    turned_fair u v w h i l there = by (plain.fair k i t (record { from = u; to = v }) l is (turned_edge t u v w h) there)
      where
        by : MeetAtEnds (place m u) (place m v) l.first l.second ⊎ ((left : Bool) × (record { from = u; to = v } ≡ side_edge m l left)) → Fair (pv m u) (pv m v) (whole l.first) (whole l.second)
        by (inl h) = inr (λ x f fx o1 o2. fair_of (place m u) (place m v) l.first l.second h x f fx o1 o2)
        by (inr (true, e)) = inl (inl (ap (λ (x : Edge). pv m x.from) e ∙ ap whole (facts.first i l there).0, ap (λ (x : Edge). pv m x.to) e ∙ ap whole (facts.second i l there).0))
        by (inr (false, e)) = inl (inr (ap (λ (x : Edge). pv m x.from) e ∙ ap whole (facts.second i l there).0, ap (λ (x : Edge). pv m x.to) e ∙ ap whole (facts.first i l there).0))

    pub turned_clean : (u v w : ℕ) → IsTurnedTo t u v w → (i : ℕ) (l : MapLine) → line_at m i ≡ Some l → Clean (tri (pv m u) (pv m v) (pv m w)) (whole l.first) (whole l.second)
    turned_clean u v w h i l there = record {
      turn = turned_turn m t (plain.turn k t is) u v w h;
      ab = turned_fair u v w h i l there;
      bc = turned_fair v w u (turn_on t u v w h) i l there;
      ca = turned_fair w u v (turn_on t v w u (turn_on t u v w h)) i l there;
      first = turned_empty u v w h (point_number m l.first) (facts.first i l there).1 (whole l.first) (ap whole (facts.first i l there).0);
      second = turned_empty u v w h (point_number m l.second) (facts.second i l there).1 (whole l.second) (ap whole (facts.second i l there).0);
      uv = (facts.apart i l there).0;
      vu = (facts.apart i l there).1;
    }
