-- The mesh of a map is plain and fills the hull: what a net says of its triangles, said of the definition.
use Rattle.std.proofs.Common.{◌≡◌, ℕ, ◌<◌, pos, ◌<ℤ◌, arith, refl, sym, ap, ◌∙◌, subst, ◌⊎◌, inl, inr, List, length, slice_get, Contains, Some, true, false, Bool}
use borrow.Author.Differences.{ints}
use Rattle.sight_names.specs.declared.names.Triangle.{Triangle}
use Rattle.sight_names.specs.Point.{point_of, turn_at}
use Rattle.sight_names.specs.Map.{Map, MapLine, line_at}
use Rattle.sight_names.specs.Points.{Edge, points_of, place, point_number, reverse_of}
use Rattle.sight_names.specs.Sound.{LinesMeetAtEnds}
use Rattle.sight_names.specs.Greedy.{IsGreedy}
use Rattle.sight_names.specs.Mesh.{IsTriangle, AreTriangles, HasEdge, IsSegmentKept, IsMeshTriangle, IsMeshOf, IsPlainMesh, MeetsFairly, IsLineEdge, side_edge}
use Rattle.sight_names.proofs.Lists.{get_of_contains, contains_of_get}
use Rattle.plane_base.proofs.Vec.{V, det, det-cycle}
use Rattle.mesh_base.proofs.SightLaws.Bridge.{turn_at_is}
use Rattle.mesh_base.proofs.Net.{Pair, Net}
use Rattle.mesh_base.proofs.MeshRules.{MeshTri, one_each_edge}
use Rattle.mesh_base.proofs.FirstSpoke.{fills}
use Rattle.mesh_base.proofs.GoodMesh.{PointFacts, pv}
use Rattle.mesh_shape.proofs.RuleLemmas.{edge_cases, moved_ends}
use Rattle.mesh_shape.specs.Fills.{FillsHull, FillsSides}
use Rattle.triangulate.proofs.GreedyNet.{numbers, in_numbers, number_below, both, kept_of, in_kept, kept_back, kept_meet, each_line_kept, greedy_maximal, greedy_net}
use Rattle.math_base.proofs.Numbers.{below_same_or_above}
use Rattle.sight_names.proofs.OneMesh.{above_irreflexive}
use Rattle.mesh_base.proofs.CleanMesh.{edge_rp, edge_qr, edge_pq}

-- ---- turning a triangle

pub turned_tri : (place : ℕ → V) (pts : List ℕ) (kept : List Pair) → Net place pts kept → (a b c : ℕ) → MeshTri place pts kept a b c → MeshTri place pts kept b c a
turned_tri place pts kept net a b c t = record {
  ab = t.bc;
  bc = net.swap a c t.ac;
  ac = net.swap a b t.ab;
  turn = let e = det-cycle (place a) (place b) (place c) in let h = t.turn in omega (arith, ints);
  empty = λ x i p q r. t.empty x i r p q;
}

-- the triangle, from some corner on
abbrev pub Turned : Triangle → ℕ → ℕ → ℕ → Type 0
Turned t a b c = ((t.p ≡ a) × (t.q ≡ b) × (t.r ≡ c)) ⊎ (((t.q ≡ a) × (t.r ≡ b) × (t.p ≡ c)) ⊎ ((t.r ≡ a) × (t.p ≡ b) × (t.q ≡ c)))

pub same_turned : (n : ℕ) (t u : Triangle) (a b c : ℕ) → IsTriangle n t → IsTriangle n u → Turned t a b c → Turned u a b c → t ≡ u
same_turned n t u a b c it iu ht hu =
    let e = numbers_same t.p t.q t.r u.p u.q u.r a b c it.least it.least_too iu.least iu.least_too ht hu in
    λ i. record { p = e.0 i; q = e.1 i; r = e.2 i }
  where
    numbers_same : (p q r x y z a b c : ℕ) → p < q → p < r → x < y → x < z
        → ((p ≡ a) × (q ≡ b) × (r ≡ c)) ⊎ (((q ≡ a) × (r ≡ b) × (p ≡ c)) ⊎ ((r ≡ a) × (p ≡ b) × (q ≡ c)))
        → ((x ≡ a) × (y ≡ b) × (z ≡ c)) ⊎ (((y ≡ a) × (z ≡ b) × (x ≡ c)) ⊎ ((z ≡ a) × (x ≡ b) × (y ≡ c)))
        → (p ≡ x) × (q ≡ y) × (r ≡ z)
    numbers_same p q r x y z a b c h1 h2 h3 h4 (inl s) (inl t) = (s.0 ∙ sym t.0, s.1 ∙ sym t.1, s.2 ∙ sym t.2)
    numbers_same p q r x y z a b c h1 h2 h3 h4 (inl s) (inr (inl t)) = absurd (let s0 = s.0 in let s1 = s.1 in let s2 = s.2 in let t0 = t.0 in let t1 = t.1 in let t2 = t.2 in omega arith)
    numbers_same p q r x y z a b c h1 h2 h3 h4 (inl s) (inr (inr t)) = absurd (let s0 = s.0 in let s1 = s.1 in let s2 = s.2 in let t0 = t.0 in let t1 = t.1 in let t2 = t.2 in omega arith)
    numbers_same p q r x y z a b c h1 h2 h3 h4 (inr (inl s)) (inl t) = absurd (let s0 = s.0 in let s1 = s.1 in let s2 = s.2 in let t0 = t.0 in let t1 = t.1 in let t2 = t.2 in omega arith)
    numbers_same p q r x y z a b c h1 h2 h3 h4 (inr (inl s)) (inr (inl t)) = (s.2 ∙ sym t.2, s.0 ∙ sym t.0, s.1 ∙ sym t.1)
    numbers_same p q r x y z a b c h1 h2 h3 h4 (inr (inl s)) (inr (inr t)) = absurd (let s0 = s.0 in let s1 = s.1 in let s2 = s.2 in let t0 = t.0 in let t1 = t.1 in let t2 = t.2 in omega arith)
    numbers_same p q r x y z a b c h1 h2 h3 h4 (inr (inr s)) (inl t) = absurd (let s0 = s.0 in let s1 = s.1 in let s2 = s.2 in let t0 = t.0 in let t1 = t.1 in let t2 = t.2 in omega arith)
    numbers_same p q r x y z a b c h1 h2 h3 h4 (inr (inr s)) (inr (inl t)) = absurd (let s0 = s.0 in let s1 = s.1 in let s2 = s.2 in let t0 = t.0 in let t1 = t.1 in let t2 = t.2 in omega arith)
    numbers_same p q r x y z a b c h1 h2 h3 h4 (inr (inr s)) (inr (inr t)) = (s.1 ∙ sym t.1, s.2 ∙ sym t.2, s.0 ∙ sym t.0)

-- ---- places in an ascending list

pub same_place : (n : ℕ) (ts : List Triangle) (i j : ℕ) (t : Triangle) → AreTriangles n ts → slice_get ts i ≡ Some t → slice_get ts j ≡ Some t → i ≡ j
same_place n ts i j t are hi hj = elim (below_same_or_above i j) as (λ _. i ≡ j) [
  | inl lt ↦ absurd (above_irreflexive t (are.ascend i j t t lt hi hj))
  | inr (inl e) ↦ e
  | inr (inr lt) ↦ absurd (above_irreflexive t (are.ascend j i t t lt hj hi))
]

-- ---- the triangles of the definition and those of the net

module _ (m : Map) (f : PointFacts m) (ends : LinesMeetAtEnds m) (kept : List Edge) (g : IsGreedy m kept) where
  abbrev pub NetTri : ℕ → ℕ → ℕ → Type 0
  NetTri a b c = MeshTri (pv m) (numbers (length (points_of m))) (both kept) a b c

  net : Net (pv m) (numbers (length (points_of m))) (both kept)
  net = greedy_net m f ends kept g

  left_of : (a b c : ℕ) → pos 0 <ℤ turn_at (place m a) (place m b) (point_of (place m c)) → pos 0 <ℤ det (pv m a) (pv m b) (pv m c)
  left_of a b c h = let e = turn_at_is (place m a) (place m b) (point_of (place m c)) in omega (arith, ints)

  turn_of : (a b c : ℕ) → pos 0 <ℤ det (pv m a) (pv m b) (pv m c) → pos 0 <ℤ turn_at (place m a) (place m b) (point_of (place m c))
  turn_of a b c h = let e = turn_at_is (place m a) (place m b) (point_of (place m c)) in omega (arith, ints)

  pub net_tri : (t : Triangle) → IsMeshTriangle m kept t → NetTri t.p t.q t.r
  net_tri t h = record {
    ab = in_kept kept t.p t.q h.pq;
    bc = in_kept kept t.q t.r h.qr;
    ac = in_kept kept t.p t.r (kept_back kept t.r t.p h.rp);
    turn = left_of t.p t.q t.r h.turn;
    empty = λ x i p q r. h.empty x (number_below (length (points_of m)) x i) (record { pq = turn_of t.p t.q x p; qr = turn_of t.q t.r x q; rp = turn_of t.r t.p x r });
  }

  pub mesh_tri : (t : Triangle) → IsTriangle (length (points_of m)) t → NetTri t.p t.q t.r → IsMeshTriangle m kept t
  mesh_tri t it h = record {
    numbers = it;
    pq = kept_of kept t.p t.q h.ab;
    qr = kept_of kept t.q t.r h.bc;
    rp = kept_back kept t.p t.r (kept_of kept t.p t.r h.ac);
    turn = turn_of t.p t.q t.r h.turn;
    empty = λ k lt i. h.empty k (in_numbers (length (points_of m)) k lt) (left_of t.p t.q k i.pq) (left_of t.q t.r k i.qr) (left_of t.r t.p k i.rp);
  }

  -- the triangle from one of its directed edges on
  abbrev FromEdge : Triangle → Edge → Type 0
  FromEdge t e = (c : ℕ) × NetTri e.from e.to c × Turned t e.from e.to c

  pub from_edge : (t : Triangle) (e : Edge) → IsMeshTriangle m kept t → HasEdge t e → FromEdge t e
  from_edge t e h he =
      let a = net_tri t h in
      let b = turned_tri (pv m) (numbers (length (points_of m))) (both kept) net t.p t.q t.r a in
      let c = turned_tri (pv m) (numbers (length (points_of m))) (both kept) net t.q t.r t.p b in
      edge_cases t e (FromEdge t) (t.r, a, inl (refl, refl, refl)) (t.p, b, inr (inl (refl, refl, refl))) (t.q, c, inr (inr (refl, refl, refl))) he

  pub one_triangle : (t u : Triangle) (e : Edge) → IsMeshTriangle m kept t → IsMeshTriangle m kept u → HasEdge t e → HasEdge u e → t ≡ u
  one_triangle t u e ht hu et eu =
      let x = from_edge t e ht et in
      let y = from_edge u e hu eu in
      let same : x.0 ≡ y.0 = one_each_edge (pv m) (numbers (length (points_of m))) (both kept) net e.from e.to x.0 y.0 x.1 y.1 in
      same_turned (length (points_of m)) t u e.from e.to y.0 ht.numbers hu.numbers (subst (λ (c : ℕ). Turned t e.from e.to c) same x.2) y.2

  -- an edge of a triangle meets a line at ends alone, or is the same segment
  edge_fair : (u v i : ℕ) (l : MapLine) → IsSegmentKept kept u v → line_at m i ≡ Some l → MeetsFairly m (record { from = u; to = v }) l
  edge_fair u v i l k is = elim (kept_meet m f ends kept g u v (point_number m l.first) (point_number m l.second) k (inl (each_line_kept m f ends kept g i l is))) as (λ _. MeetsFairly m (record { from = u; to = v }) l) [
    | inl s ↦ inr (elim s as (λ _. (left : Bool) × (◌≡◌ {A = Edge} (record { from = u; to = v }) (side_edge m l left))) [
      | inl e ↦ (true, λ j. record { from = e.0 j; to = e.1 j })
      | inr e ↦ (false, λ j. record { from = e.0 j; to = e.1 j })
    ])
    | inr h ↦ inl (moved_ends (place m u) (place m v) (place m (point_number m l.first)) (place m (point_number m l.second)) (place m u) (place m v) l.first l.second refl refl (f.first i l is).0 (f.second i l is).0 h)
  ]

  corner_tri : (a b c : ℕ) → NetTri a b c → (t : Triangle) × IsMeshTriangle m kept t × HasEdge t (record { from = a; to = b })
  corner_tri a b c t =
      let mx = greedy_maximal m f ends kept g in
      let nab = mx.apart a b t.ab in let nbc = mx.apart b c t.bc in let nac = mx.apart a c t.ac in
      let n = length (points_of m) in
      let ia = number_below n a (net.ends a b t.ab).0 in let ib = number_below n b (net.ends a b t.ab).1 in let ic = number_below n c (net.ends b c t.bc).1 in
      let t2 = turned_tri (pv m) (numbers n) (both kept) net a b c t in
      let t3 = turned_tri (pv m) (numbers n) (both kept) net b c a t2 in
      elim (least a b c nab nbc nac) as (λ _. (t : Triangle) × IsMeshTriangle m kept t × HasEdge t (record { from = a; to = b })) [
        | inl h ↦ let u : Triangle = record { p = a; q = b; r = c } in (u, mesh_tri u (record { least = h.0; least_too = h.1; differ = nbc; second = ib; third = ic }) t, edge_pq u)
        | inr (inl h) ↦ let u : Triangle = record { p = b; q = c; r = a } in (u, mesh_tri u (record { least = h.0; least_too = h.1; differ = λ e. nac (sym e); second = ic; third = ia }) t2, edge_rp u)
        | inr (inr h) ↦ let u : Triangle = record { p = c; q = a; r = b } in (u, mesh_tri u (record { least = h.0; least_too = h.1; differ = nab; second = ia; third = ib }) t3, edge_qr u)
      ]
    where
      least : (a b c : ℕ) → ¬ (a ≡ b) → ¬ (b ≡ c) → ¬ (a ≡ c) → ((a < b) × (a < c)) ⊎ (((b < c) × (b < a)) ⊎ ((c < a) × (c < b)))
      least a b c h k l = grind arith

  pub filled : (a b k : ℕ) → IsSegmentKept kept a b → k < length (points_of m) → pos 0 <ℤ turn_at (place m a) (place m b) (point_of (place m k)) → (t : Triangle) × IsMeshTriangle m kept t × HasEdge t (record { from = a; to = b })
  filled a b k h lt left =
      let w = fills (pv m) (numbers (length (points_of m))) (both kept) net a b k (in_kept kept a b h) (in_numbers (length (points_of m)) k lt) (left_of a b k left) in
      let nb = w.neighbours in
      corner_tri a b w.c (record {
        ab = nb.ab;
        bc = w.bc;
        ac = nb.ac;
        turn = nb.turn;
        empty = λ x i p q r. w.empty x i (record { f = p; g = r; h = omega (arith, ints) });
      })

-- ---- of a mesh

module _ (m : Map) (f : PointFacts m) (ends : LinesMeetAtEnds m) (ts : List Triangle) (h : IsMeshOf m ts) where
  at_mesh : (k : ℕ) (t : Triangle) → slice_get ts k ≡ Some t → IsMeshTriangle m h.kept t
  at_mesh k t e = (h.exactly t).0 (contains_of_get ts t k e)

  pub mesh_fills : FillsHull m h.kept ts
  mesh_fills e k left =
      let w = filled m f ends h.kept h.greedy e.from e.to left.0 k left.1 left.2 in
      let c = (h.exactly w.0).1 w.1 in
      (c.0, w.0, get_of_contains ts w.0 c.0 c.1 c.2, w.2)

  edge_kept : (k : ℕ) (t : Triangle) (e : Edge) → slice_get ts k ≡ Some t → HasEdge t e → IsSegmentKept h.kept e.from e.to
  edge_kept k t e at he =
      let w = from_edge m f ends h.kept h.greedy t e (at_mesh k t at) he in
      kept_of h.kept e.from e.to w.1.ab

  line_kept : (e : Edge) → IsLineEdge m e → IsSegmentKept h.kept e.from e.to
  line_kept e (i, l, true, is, same) = inl (subst (Contains h.kept) (sym same) (each_line_kept m f ends h.kept h.greedy i l is))
  line_kept e (i, l, false, is, same) = inr (subst (Contains h.kept) (λ j. reverse_of (sym same j)) (each_line_kept m f ends h.kept h.greedy i l is))

  pub mesh_fills_sides : FillsSides m ts
  mesh_fills_sides = record {
    lines = λ e i left. mesh_fills e (line_kept e i) left;
    beyond = λ k t e at he left. mesh_fills (reverse_of e) (kept_back h.kept e.from e.to (edge_kept k t e at he)) left;
  }

  pub mesh_plain : IsPlainMesh m ts
  mesh_plain = record {
    triangles = h.triangles;
    turn = λ k t e. (at_mesh k t e).turn;
    once = λ i j t u e n at au et eu. n (
        let same = one_triangle m f ends h.kept h.greedy t u e (at_mesh i t at) (at_mesh j u au) et eu in
        same_place (length (points_of m)) ts i j u h.triangles (at ∙ ap (λ (x : Triangle). Some x) same) au);
    fair = λ k i t e l at he is. edge_fair m f ends h.kept h.greedy e.from e.to i l (edge_kept k t e at he) is;
    empty = λ k t e. (at_mesh k t e).empty;
  }
