-- The triangles of a good mesh that a ray enters through edges that are no solid lines: no solid line has a point of the stretch.
use Rattle.std.proofs.Common.{◌≡◌, ℕ, ◌<◌, ℤ, pos, ◌<ℤ◌, inl, inr, List, Some, Bool, true, false, not, IsTrue, length, slice_get, sym, ap, ◌∙◌, subst}
use Rattle.sight_names.specs.declared.names.Pt.{Pt}
use Rattle.sight_names.specs.declared.names.Ray.{Ray}
use Rattle.sight_names.specs.declared.names.Triangle.{Triangle}
use Rattle.sight_names.specs.Point.{Point, point_of}
use Rattle.sight_names.specs.Map.{Map, MapLine, line_at}
use Rattle.sight_names.specs.Points.{points_of, place, point_number}
use Rattle.sight_names.specs.Mesh.{HasEdge, IsPlainMesh}
use Rattle.sight_names.specs.Sequence.{Portal, entry_edge, third_point, IsSolidLine}
use Rattle.sight_names.specs.Ray.{SplitsLine, IsCrossing}
use Rattle.sight_names.proofs.Laws.{on_segment_sym}
use Rattle.plane_base.proofs.Vec.{V, at, det}
use Rattle.plane_base.proofs.Walk.{Tri}
use Rattle.mesh_base.proofs.Face.{SameSegment, Clean}
use Rattle.mesh_base.proofs.GoodMesh.{pv, PointFacts, pt_of_vec}
use Rattle.mesh_base.specs.SightLaws.Laws.{IsOpenRay}
use Rattle.mesh_base.proofs.SightLaws.Rays.{lin, split_crossing}
use Rattle.mesh_base.proofs.StretchBase.Passes.{IsEntered, Passage}
use Rattle.mesh_base.proofs.StretchBase.Stretches.{Crosses, in_order, met_on_stretch}
use Rattle.mesh_base.proofs.CleanMesh.{tri, IsTurnedTo, turned_to_third, turned_below, turned_turn, turned_clean}
use Rattle.mesh_base.proofs.Joined.{whole}
use Rattle.sight_names.proofs.Records.{same_edge}

-- ---- crossed edges

-- a triangle of the mesh, entered through a portal that is no solid line and that the ray parts
pub record IsCrossedEdge (m : Map) (ts : List Triangle) (r : Ray) (a b c : V) : Type 0 where
  pub q : Portal
  pub k : ℕ
  pub t : Triangle
  pub is : slice_get ts k ≡ Some t
  pub edge : HasEdge t (entry_edge q)
  pub no_wall : ¬ IsSolidLine m q
  pub first : a ≡ pv m q.left
  pub second : b ≡ pv m q.right
  pub third : c ≡ pv m (third_point (entry_edge q) t)
  pub left : pos 0 <ℤ at (lin r) a
  pub right : at (lin r) b <ℤ pos 0

-- the ends of a line that the ray parts: the left one, and the right one
abbrev pub left_end : MapLine → Bool → Pt
left_end l true = l.first
left_end l false = l.second

abbrev pub right_end : MapLine → Bool → Pt
right_end l true = l.second
right_end l false = l.first

module _ (m : Map) (facts : PointFacts m) (ts : List Triangle) (plain : IsPlainMesh m ts) (r : Ray) where
  abbrev pub CrossedEdge : V → V → V → Type 0
  CrossedEdge = IsCrossedEdge m ts r

  crossed_edge_turned : (a b c : V) (g : CrossedEdge a b c) → IsTurnedTo g.t g.q.left g.q.right (third_point (entry_edge g.q) g.t)
  crossed_edge_turned a b c g = turned_to_third g.t g.q.left g.q.right g.edge

  pub crossed_edge_entered : (a b c : V) → CrossedEdge a b c → IsEntered (lin r) a b c
  crossed_edge_entered a b c g = record {
    turn = subst (λ (x : ℤ). pos 0 <ℤ x) (λ i. det (sym g.first i) (sym g.second i) (sym g.third i)) (turned_turn m g.t (plain.turn g.k g.t g.is) g.q.left g.q.right _ (crossed_edge_turned a b c g));
    first = ap (λ (x : V). x.d) g.first;
    second = ap (λ (x : V). x.d) g.second;
    third = ap (λ (x : V). x.d) g.third;
    left = g.left;
    right = g.right;
  }

  pub crossed_edge_clean : (a b c : V) → CrossedEdge a b c → (i : ℕ) (l : MapLine) → line_at m i ≡ Some l → Clean (tri a b c) (whole l.first) (whole l.second)
  crossed_edge_clean a b c g i l is = subst (λ (x : Tri). Clean x (whole l.first) (whole l.second)) (λ i. tri (sym g.first i) (sym g.second i) (sym g.third i)) (turned_clean m ts plain g.k g.t g.is facts g.q.left g.q.right _ (crossed_edge_turned a b c g) i l is)

  -- no crossed edge is a solid line
  pub crossed_edge_no_wall : (a b c : V) → CrossedEdge a b c → (i : ℕ) (l : MapLine) → line_at m i ≡ Some l → IsTrue l.solid → SameSegment a b (whole l.first) (whole l.second) → ⊥
  crossed_edge_no_wall a b c g i l is solid same = g.no_wall (by same)
    where
      below : (g.q.left < length (points_of m)) × (g.q.right < length (points_of m))
      below = turned_below (length (points_of m)) g.t g.q.left g.q.right _ (plain.triangles.each g.k g.t g.is) (crossed_edge_turned a b c g)

      number_is : (p : Pt) (k : ℕ) → k < length (points_of m) → pv m k ≡ whole p → point_number m p ≡ k
      number_is p k h e = ap (point_number m) (sym (pt_of_vec (place m k) p e)) ∙ facts.number k h

      by : SameSegment a b (whole l.first) (whole l.second) → IsSolidLine m g.q
      by (inl (e, f)) = (i, l, true, is, solid, same_edge (number_is l.first g.q.left below.0 (sym g.first ∙ e)) (number_is l.second g.q.right below.1 (sym g.second ∙ f)))
      by (inr (e, f)) = (i, l, false, is, solid, same_edge (number_is l.second g.q.left below.0 (sym g.first ∙ e)) (number_is l.first g.q.right below.1 (sym g.second ∙ f)))

  crosses : (l : MapLine) (b : Bool) (p : Point) → SplitsLine r l b → IsCrossing r l p → Crosses r (left_end l b) (right_end l b) p
  crosses l true p h c = record { parts = record { left = h.0; right = h.1 }; on = c.0; zero = c.1 }
  crosses l false p h c = record { parts = record { left = h.1; right = h.0 }; on = on_segment_sym (point_of l.first) (point_of l.second) p c.0; zero = c.1 }

  -- the crossed edges lead from the side that the ray leaves to the one on which it arrives
  abbrev pub PassesFrom : MapLine → MapLine → Type 0
  PassesFrom first last = Passage (lin r) CrossedEdge (whole (left_end last r.last.left)) (whole (right_end last r.last.left)) (whole (left_end first (not r.first.left))) (whole (right_end first (not r.first.left)))

  -- such a ray is open
  pub passing_is_open : (first last : MapLine) → line_at m r.first.line ≡ Some first → line_at m r.last.line ≡ Some last → SplitsLine r first (not r.first.left) → SplitsLine r last r.last.left → PassesFrom first last → IsOpenRay m r
  passing_is_open first last is_first is_last leaves arrives way = record {
    first = first;
    is_first = is_first;
    last = last;
    is_last = is_last;
    leaves = leaves;
    arrives = arrives;
    start = s.0;
    stop = t.0;
    starts = s.1;
    stops = t.1;
    forward = in_order r CrossedEdge crossed_edge_entered _ _ _ _ s.0 t.0 at_s at_t way;
    clear = λ i l is solid p on on_line. let met = met_on_stretch r CrossedEdge crossed_edge_entered _ _ _ _ s.0 t.0 at_s at_t way l p (λ a b c g. crossed_edge_clean a b c g i l is) on on_line in crossed_edge_no_wall met.a met.b met.c met.entered i l is solid met.same;
  }
    where
      s : (p : Point) × IsCrossing r first p
      s = split_crossing r first (not r.first.left) leaves

      t : (p : Point) × IsCrossing r last p
      t = split_crossing r last r.last.left arrives

      at_s : Crosses r (left_end first (not r.first.left)) (right_end first (not r.first.left)) s.0
      at_s = crosses first (not r.first.left) s.0 leaves s.1

      at_t : Crosses r (left_end last r.last.left) (right_end last r.last.left) t.0
      at_t = crosses last r.last.left t.0 arrives t.1
