-- The triangles on the left of the greedy segments are those of the mesh.
use Rattle.std.proofs.Common.{◌≡◌, ◌≢◌, ℕ, zero, suc, ◌<◌, pos, ◌≤ℤ◌, ◌<ℤ◌, arith, refl, sym, ap, ◌∙◌, subst, ◌⊎◌, inl, inr, ◌↔◌, List, [], ◌∷◌, length, slice_get, get_or, Contains, Some, map}
use borrow.Author.Differences.{ints}
use Rattle.math_base.proofs.Signs.{le_or_lt}
use Rattle.std.proofs.lemmas.Option.{same_Some, slice_get-get_or}
use Rattle.sight_names.specs.declared.names.Triangle.{Triangle}
use Rattle.sight_names.specs.Point.{point_of, turn_at}
use Rattle.sight_names.specs.Map.{Map}
use Rattle.sight_names.specs.Points.{Edge, points_of, place}
use Rattle.sight_names.specs.Sound.{LinesMeetAtEnds}
use Rattle.sight_names.specs.Greedy.{IsGreedy}
use Rattle.sight_names.specs.Mesh.{IsSegmentKept, IsMeshTriangle}
use Rattle.sight_names.proofs.Lists.{contains_cases, contains_tail, contains_of_get}
use Rattle.plane_base.proofs.Vec.{det, edge, det-cycle, det-first}
use Rattle.plane_base.proofs.Near.{det-flip}
use Rattle.mesh_base.proofs.SightLaws.Bridge.{turn_at_is}
use Rattle.plane_base.proofs.Search.{In}
use Rattle.mesh_base.proofs.Net.{Pair, pair, Net, Neighbours, closing, wedge_empty}
use Rattle.mesh_base.proofs.MeshRules.{no_spoke_inside, same_ray}
use Rattle.mesh_base.proofs.GoodMesh.{PointFacts, pv}
use Rattle.triangulate.specs.declared.incident_segments.segments.Segment.{Segment}
use Rattle.triangulate.specs.IncidentSegments.Kept.{edge_of}
use Rattle.triangulate.specs.IncidentSegments.Neighbours.{IsNeighbour}
use Rattle.triangulate.specs.IncidentSegments.Next.{IsLeftOf, IsFirstLeft}
use Rattle.triangulate.specs.Left.{IsLeftTriangle, HasLeftTriangle, AreLeftTriangles}
use Rattle.triangulate.proofs.IncidentSegments.KeptEdges.{any_segment}
use Rattle.triangulate.proofs.IncidentSegments.Chains.{end_cases, other_from, other_to}
use Rattle.triangulate.proofs.LeftTriangles.{neighbour_out, neighbour_in}
use Rattle.triangulate.proofs.GreedyNet.{numbers, number_below, both, kept_of, in_kept, kept_ends, greedy_net, greedy_maximal}
use Rattle.triangulate.proofs.MeshLaws.{NetTri, net_tri, mesh_tri}
use Rattle.math_base.proofs.Lists.{contains_none, contains_here}

-- ---- neighbours are kept segments

contains_edge : (segs : List Segment) (k : ℕ) (s : Segment) → slice_get segs k ≡ Some s → Contains (map edge_of segs) (edge_of s)
contains_edge [] k s e = absurd (contains_none s (contains_of_get [] s k e))
contains_edge (x ∷ segs) zero s e = subst (λ (y : Segment). Contains (map edge_of (x ∷ segs)) (edge_of y)) (same_Some x s e) (contains_here (edge_of x) (map edge_of segs))
contains_edge (x ∷ segs) (suc k) s e = contains_tail (edge_of x) (edge_of s) (map edge_of segs) (contains_edge segs k s e)

pub neighbour_kept : (segs : List Segment) (u v : ℕ) → ((k : ℕ) (s : Segment) → slice_get segs k ≡ Some s → s.from ≢ s.to) → IsNeighbour segs u v → IsSegmentKept (map edge_of segs) u v
neighbour_kept segs u v differ (k, lt, end, other) =
    let s = get_or segs k any_segment in
    let at = slice_get-get_or segs k any_segment lt in
    let c = contains_edge segs k s at in
    elim (end_cases u s (end any_segment)) as (λ _. IsSegmentKept (map edge_of segs) u v) [
      | inl e ↦ inl (subst (Contains (map edge_of segs)) (λ i. record { from = e i; to = sym (other any_segment ∙ other_from u s e) i }) c)
      | inr e ↦ inr (subst (Contains (map edge_of segs)) (λ i. record { from = sym (other any_segment ∙ other_to u s (differ k s at) e) i; to = e i }) c)
    ]

edge_there : (segs : List Segment) (e : Edge) → Contains (map edge_of segs) e → (k : ℕ) × (s : Segment) × (slice_get segs k ≡ Some s) × (edge_of s ≡ e)
edge_there [] e c = absurd (contains_none e c)
edge_there (x ∷ segs) e c = elim (contains_cases (edge_of x) e (map edge_of segs) c) as (λ _. (k : ℕ) × (s : Segment) × (slice_get (x ∷ segs) k ≡ Some s) × (edge_of s ≡ e)) [
  | inl h ↦ (zero, x, refl, h)
  | inr t ↦ let r = edge_there segs e t in (suc r.0, r.1, r.2, r.3)
]

-- a kept segment, as a segment of the list, from one end or the other
pub kept_segment : (segs : List Segment) (u v : ℕ) → IsSegmentKept (map edge_of segs) u v → (k : ℕ) × (s : Segment) × (slice_get segs k ≡ Some s) × (((s.from ≡ u) × (s.to ≡ v)) ⊎ ((s.to ≡ u) × (s.from ≡ v)))
kept_segment segs u v h = elim h as (λ _. (k : ℕ) × (s : Segment) × (slice_get segs k ≡ Some s) × (((s.from ≡ u) × (s.to ≡ v)) ⊎ ((s.to ≡ u) × (s.from ≡ v)))) [
  | inl c ↦ let r = edge_there segs (record { from = u; to = v }) c in (r.0, r.1, r.2, inl (ap (λ (x : Edge). x.from) r.3, ap (λ (x : Edge). x.to) r.3))
  | inr c ↦ let r = edge_there segs (record { from = v; to = u }) c in (r.0, r.1, r.2, inr (ap (λ (x : Edge). x.to) r.3, ap (λ (x : Edge). x.from) r.3))
]

pub kept_neighbour : (segs : List Segment) (u v : ℕ) → ((k : ℕ) (s : Segment) → slice_get segs k ≡ Some s → s.from ≢ s.to) → IsSegmentKept (map edge_of segs) u v → IsNeighbour segs u v
kept_neighbour segs u v differ h =
    let r = kept_segment segs u v h in
    elim r.3 as (λ _. IsNeighbour segs u v) [
      | inl e ↦ subst (λ (x : ℕ). IsNeighbour segs x v) e.0 (subst (λ (x : ℕ). IsNeighbour segs r.1.from x) e.1 (neighbour_out segs r.0 r.1 r.2))
      | inr e ↦ subst (λ (x : ℕ). IsNeighbour segs x v) e.0 (subst (λ (x : ℕ). IsNeighbour segs r.1.to x) e.1 (neighbour_in segs r.0 r.1 (differ r.0 r.1 r.2) r.2))
    ]

-- ---- the first neighbour on the left closes a triangle of the mesh

module _ (m : Map) (f : PointFacts m) (ends : LinesMeetAtEnds m) (segs : List Segment) (g : IsGreedy m (map edge_of segs)) where
  abbrev pairs : List Pair
  pairs = both (map edge_of segs)

  net : Net (pv m) (numbers (length (points_of m))) pairs
  net = greedy_net m f ends (map edge_of segs) g

  differ : (k : ℕ) (s : Segment) → slice_get segs k ≡ Some s → s.from ≢ s.to
  differ k s e = (kept_ends m f ends (map edge_of segs) g s.from s.to (inl (contains_edge segs k s e))).2

  kept_in : (u v : ℕ) → IsNeighbour segs u v → In (pair u v) pairs
  kept_in u v s = in_kept (map edge_of segs) u v (neighbour_kept segs u v differ s)

  in_neighbour : (u v : ℕ) → In (pair u v) pairs → IsNeighbour segs u v
  in_neighbour u v h = kept_neighbour segs u v differ (kept_of (map edge_of segs) u v h)

  left_of : (a b c : ℕ) → IsLeftOf m (place m a) (place m b) c → pos 0 <ℤ det (pv m a) (pv m b) (pv m c)
  left_of a b c h = let e = turn_at_is (place m a) (place m b) (point_of (place m c)) in omega (arith, ints)

  turn_of : (a b c : ℕ) → pos 0 <ℤ det (pv m a) (pv m b) (pv m c) → IsLeftOf m (place m a) (place m b) c
  turn_of a b c h = let e = turn_at_is (place m a) (place m b) (point_of (place m c)) in omega (arith, ints)

  neighbours : (a b c : ℕ) → IsNeighbour segs a b → IsFirstLeft m segs a b c → Neighbours (pv m) pairs a b c
  neighbours a b c s h = record {
    ab = kept_in a b s;
    ac = kept_in a c h.neighbour;
    turn = left_of a b c h.left;
    none = λ x k fx gx.
        let e = turn_at_is (place m a) (place m c) (point_of (place m x)) in
        let first = h.first x (in_neighbour a x k) (turn_of a b x fx) in
        let c1 = det-cycle (pv m c) (pv m a) (pv m x) in
        let c2 = det-flip (pv m a) (pv m c) (pv m x) in
        omega (arith, ints);
  }

  first_tri : (a b c : ℕ) → IsNeighbour segs a b → IsFirstLeft m segs a b c → NetTri m f ends (map edge_of segs) g a b c
  first_tri a b c s h =
      let nb = neighbours a b c s h in
      record {
        ab = nb.ab;
        bc = closing (pv m) (numbers (length (points_of m))) pairs net a b c nb;
        ac = nb.ac;
        turn = nb.turn;
        empty = λ x i p q r. wedge_empty (pv m) (numbers (length (points_of m))) pairs net a b c nb x i (record { f = p; g = r; h = omega (arith, ints) });
      }

  tri_first : (a b c : ℕ) → NetTri m f ends (map edge_of segs) g a b c → IsFirstLeft m segs a b c
  tri_first a b c t = record {
    neighbour = in_neighbour a c t.ac;
    left = turn_of a b c t.turn;
    first = λ x s h.
        let e = turn_at_is (place m a) (place m c) (point_of (place m x)) in
        let c1 = det-cycle (pv m c) (pv m a) (pv m x) in
        let c2 = det-flip (pv m a) (pv m c) (pv m x) in
        elim (le_or_lt (pos 0) (det (pv m a) (pv m c) (pv m x))) as (λ _. pos 0 ≤ℤ turn_at (place m a) (place m c) (point_of (place m x))) [
          | inl le ↦ omega (arith, ints)
          | inr lt ↦ absurd (no_spoke_inside (pv m) (numbers (length (points_of m))) pairs net a b c x t (kept_in a x s) (left_of a b x h) (omega (arith, ints)))
        ];
  }

  one_first : (a b c e : ℕ) → IsFirstLeft m segs a b c → IsFirstLeft m segs a b e → c ≡ e
  one_first a b c e h k =
      let x1 = h.first e k.neighbour k.left in let x2 = k.first c h.neighbour h.left in
      let e1 = turn_at_is (place m a) (place m c) (point_of (place m e)) in let e2 = turn_at_is (place m a) (place m e) (point_of (place m c)) in
      let fl = det-flip (pv m a) (pv m c) (pv m e) in
      same_ray (pv m) (numbers (length (points_of m))) pairs net (edge (pv m a) (pv m b)) a c e (det-first (pv m a) (pv m b)) (left_of a b c h.left) (left_of a b e k.left) (omega (arith, ints)) (kept_in a c h.neighbour) (kept_in a e k.neighbour)

  pub left_is_mesh : (t : Triangle) → IsLeftTriangle m segs t → IsMeshTriangle m (map edge_of segs) t
  left_is_mesh t h =
      let tri = first_tri t.p t.q t.r h.neighbour h.first in
      let bc = net.ends t.q t.r tri.bc in
      mesh_tri m f ends (map edge_of segs) g t (record {
        least = h.least;
        least_too = h.least_too;
        differ = (greedy_maximal m f ends (map edge_of segs) g).apart t.q t.r tri.bc;
        second = number_below (length (points_of m)) t.q bc.0;
        third = number_below (length (points_of m)) t.r bc.1;
      }) tri

  has_left : (ts : List Triangle) (t : Triangle) → IsMeshTriangle m (map edge_of segs) t → HasLeftTriangle m segs ts t.p t.q → Contains ts t
  has_left ts t h (inl below) = absurd (below h.numbers.least)
  has_left ts t h (inr (inl none)) = absurd (none t.r (in_neighbour t.p t.r tri.ac) (turn_of t.p t.q t.r tri.turn))
    where
      tri : NetTri m f ends (map edge_of segs) g t.p t.q t.r
      tri = net_tri m f ends (map edge_of segs) g t h
  has_left ts t h (inr (inr (c, first, there))) = subst (Contains ts) (λ i. record { p = t.p; q = t.q; r = same i }) (there h.numbers.least (subst (λ (x : ℕ). t.p < x) (sym same) h.numbers.least_too))
    where
      tri : NetTri m f ends (map edge_of segs) g t.p t.q t.r
      tri = net_tri m f ends (map edge_of segs) g t h

      same : c ≡ t.r
      same = one_first t.p t.q c t.r first (tri_first t.p t.q t.r tri)

  pub mesh_is_left : (ts : List Triangle) → AreLeftTriangles m segs ts → (t : Triangle) → IsMeshTriangle m (map edge_of segs) t → Contains ts t
  mesh_is_left ts are t h =
      let r = kept_segment segs t.p t.q h.pq in
      let b = are.all r.0 r.1 r.2 in
      has_left ts t h (elim r.3 as (λ _. HasLeftTriangle m segs ts t.p t.q) [
        | inl e ↦ subst (λ (x : ℕ). HasLeftTriangle m segs ts x t.q) e.0 (subst (λ (x : ℕ). HasLeftTriangle m segs ts r.1.from x) e.1 b.0)
        | inr e ↦ subst (λ (x : ℕ). HasLeftTriangle m segs ts x t.q) e.0 (subst (λ (x : ℕ). HasLeftTriangle m segs ts r.1.to x) e.1 b.1)
      ])

  pub left_exactly : (ts : List Triangle) → AreLeftTriangles m segs ts → (t : Triangle) → Contains ts t ↔ IsMeshTriangle m (map edge_of segs) t
  left_exactly ts are t = (λ c. left_is_mesh t (are.each t c), λ h. mesh_is_left ts are t h)
