-- Maps whose lines differ in their names alone have the same points, the same mesh and the same number that is enough. So
-- where sectors stand in groups nothing is listed either.
use Rattle.std.proofs.Common.{◌≡◌, ℕ, ◌*◌, ◌<◌, ℤ, pos, ◌<ℤ◌, max, refl, sym, ap, ◌∙◌, subst, ◌⊎◌, inl, inr, List, [], ◌∷◌, ◌++◌, length, map, filter, Bool, true, false, cond, Option, Some, None, slice_index_or, Contains}
use Rattle.std.specs.Prelude.{filter_map, unwrap_or, position}
use Rattle.sight_names.specs.declared.names.Pt.{Pt}
use Rattle.sight_names.specs.declared.names.Triangle.{Triangle}
use Rattle.sight_names.specs.declared.names.Budget.TheVariants.{Of}
use Rattle.sight_names.specs.Point.{point_of, turn_at}
use Rattle.sight_names.specs.Map.{Map, MapLine, origin}
use Rattle.sight_names.specs.Points.{Edge, points_of, lines_of, ends_of_lines, in_order, pt_eq}
use Rattle.sight_names.specs.Sound.{MeetAtEnds}
use Rattle.sight_names.specs.Greedy.{IsGreedy, ComesBefore, line_edges, square_length}
use Rattle.sight_names.specs.Mesh.{IsTriangle, AreTriangles, IsMeshTriangle, IsMeshOf}
use Rattle.sight_names.specs.Found.{IsListedOver}
use Rattle.sight_names.specs.Groups.{unnamed, IsListedByGroups}
use Rattle.sight_names.proofs.OneMesh.{one_mesh}
use Rattle.sight_names.specs.Enough.{is_passable, passable_lines, enough_of}
use Rattle.sight_lift.proofs.EnoughBase.Counts.{enough_lists_none, mesh_turns}

-- ---- what doesn't depend on names

same_passable : (os : List (Option MapLine)) → length (filter is_passable (map unnamed os)) ≡ length (filter is_passable os)
same_passable [] = refl
same_passable (None ∷ os) = same_passable os
same_passable (Some l ∷ os) = go (is_passable (Some l)) (same_passable os)
  where
    go : (b : Bool) → length (filter is_passable (map unnamed os)) ≡ length (filter is_passable os) → length (cond b (unnamed (Some l) ∷ filter is_passable (map unnamed os)) (filter is_passable (map unnamed os))) ≡ length (cond b (Some l ∷ filter is_passable os) (filter is_passable os))
    go true e = ap (λ (n : ℕ). Rattle.std.proofs.Common.suc n) e
    go false e = e

same_ends : (os : List (Option MapLine)) → ends_of_lines (filter_map (λ l. l) (map unnamed os)) ≡ ends_of_lines (filter_map (λ l. l) os)
same_ends [] = refl
same_ends (None ∷ os) = same_ends os
same_ends (Some l ∷ os) = ap (λ (ps : List Pt). l.first ∷ l.second ∷ ps) (same_ends os)

abbrev edge_over : List Pt → MapLine → Edge
edge_over ps l = record { from = unwrap_or (position (pt_eq l.first) ps) (length ps); to = unwrap_or (position (pt_eq l.second) ps) (length ps) }

same_edges : (ps : List Pt) (os : List (Option MapLine)) → map (edge_over ps) (filter_map (λ l. l) (map unnamed os)) ≡ map (edge_over ps) (filter_map (λ l. l) os)
same_edges ps [] = refl
same_edges ps (None ∷ os) = same_edges ps os
same_edges ps (Some l ∷ os) = ap (λ (es : List Edge). edge_over ps l ∷ es) (same_edges ps os)

module _ (m n : Map) (same : map unnamed m.lines ≡ map unnamed n.lines) where
  pub passable_same : passable_lines m ≡ passable_lines n
  passable_same = sym (same_passable m.lines) ∙ ap (λ (os : List (Option MapLine)). length (filter is_passable os)) same ∙ same_passable n.lines

  pub points_same : points_of m ≡ points_of n
  unfolding points_of
  points_same = ap in_order (sym (same_ends m.lines) ∙ ap (λ (os : List (Option MapLine)). ends_of_lines (filter_map (λ l. l) os)) same ∙ same_ends n.lines)

  pub edges_same : line_edges m ≡ line_edges n
  edges_same =
      ap (λ (ps : List Pt). map (edge_over ps) (lines_of m)) points_same
      ∙ sym (same_edges (points_of n) m.lines)
      ∙ ap (λ (os : List (Option MapLine)). map (edge_over (points_of n)) (filter_map (λ l. l) os)) same
      ∙ same_edges (points_of n) n.lines

  pub enough_same : (ts : List Triangle) → enough_of m ts ≡ enough_of n ts
  enough_same ts = λ i. max 1 (passable_same i * length (points_same i) * length (points_same i) * length ts)

-- ---- the mesh

module _ (m n : Map) (points : points_of m ≡ points_of n) (edges : line_edges m ≡ line_edges n) where
  moved : (P : List Pt → Type 0) → P (points_of m) → P (points_of n)
  moved P h = subst P points h

  back : (P : List Pt → Type 0) → P (points_of n) → P (points_of m)
  back P h = subst P (sym points) h

  abbrev at : List Pt → ℕ → Pt
  at ps k = slice_index_or ps k origin

  triangle_moved : (kept : List Edge) (t : Triangle) → IsMeshTriangle m kept t → IsMeshTriangle n kept t
  triangle_moved kept t h = record {
    numbers = moved (λ ps. IsTriangle (length ps) t) h.numbers;
    pq = h.pq;
    qr = h.qr;
    rp = h.rp;
    turn = moved (λ ps. pos 0 <ℤ turn_at (at ps t.p) (at ps t.q) (point_of (at ps t.r))) h.turn;
    empty = λ k l i. h.empty k (back (λ ps. k < length ps) l) (record {
      pq = back (λ ps. pos 0 <ℤ turn_at (at ps t.p) (at ps t.q) (point_of (at ps k))) i.pq;
      qr = back (λ ps. pos 0 <ℤ turn_at (at ps t.q) (at ps t.r) (point_of (at ps k))) i.qr;
      rp = back (λ ps. pos 0 <ℤ turn_at (at ps t.r) (at ps t.p) (point_of (at ps k))) i.rp;
    });
  }

  abbrev Before : List Pt → Edge → Edge → Type 0
  Before ps e f = (square_length (at ps e.from) (at ps e.to) < square_length (at ps f.from) (at ps f.to))
      ⊎ ((square_length (at ps e.from) (at ps e.to) ≡ square_length (at ps f.from) (at ps f.to)) × ((e.from < f.from) ⊎ ((e.from ≡ f.from) × (e.to < f.to))))

  greedy_moved : (kept : List Edge) → IsGreedy m kept → IsGreedy n kept
  greedy_moved kept h = record {
    rest = h.rest;
    lines_first = h.lines_first ∙ ap (λ (es : List Edge). es ++ h.rest) edges;
    pairs = λ e c. moved (λ ps. (e.from < e.to) × (e.to < length ps)) (h.pairs e c);
    ascend = λ i j e f l p q. moved (λ ps. Before ps e f) (h.ascend i j e f l p q);
    exactly = λ e p. let x = h.exactly e (back (λ ps. (e.from < e.to) × (e.to < length ps)) p) in (
      (λ c f d. moved (λ ps. MeetAtEnds (at ps e.from) (at ps e.to) (at ps f.from) (at ps f.to)) (x.0 c f (elim d as (λ _. Contains (line_edges m) f ⊎ (Contains h.rest f × ComesBefore m f e)) [
        | inl k ↦ inl (subst (λ (es : List Edge). Contains es f) (sym edges) k)
        | inr k ↦ inr (k.0, back (λ ps. Before ps f e) k.1)
      ]))),
      (λ g. x.1 (λ f d. back (λ ps. MeetAtEnds (at ps e.from) (at ps e.to) (at ps f.from) (at ps f.to)) (g f (elim d as (λ _. Contains (line_edges n) f ⊎ (Contains h.rest f × ComesBefore n f e)) [
        | inl k ↦ inl (subst (λ (es : List Edge). Contains es f) edges k)
        | inr k ↦ inr (k.0, moved (λ ps. Before ps f e) k.1)
      ])))),
    );
  }

pub mesh_same : (m n : Map) → points_of m ≡ points_of n → line_edges m ≡ line_edges n → (ts : List Triangle) → IsMeshOf m ts → IsMeshOf n ts
mesh_same m n points edges ts h = record {
  kept = h.kept;
  greedy = greedy_moved m n points edges h.kept h.greedy;
  triangles = subst (λ (ps : List Pt). AreTriangles (length ps) ts) points h.triangles;
  exactly = λ t. ((λ c. triangle_moved m n points edges h.kept t ((h.exactly t).0 c)), (λ k. (h.exactly t).1 (triangle_moved n m (sym points) (sym edges) h.kept t k)));
}

-- ---- sectors in groups

pub groups_list_none : (m : Map) (ts : List Triangle) → IsMeshOf m ts → (a b : ℕ) → IsListedByGroups m (Of (enough_of m ts)) a b → ⊥
groups_list_none m ts mesh a b h =
    let lines = h.is_grouped.lines in
    let of_m : IsMeshOf m h.triangles = mesh_same h.grouped m (points_same h.grouped m lines) (edges_same h.grouped m lines) h.triangles h.mesh in
    let same : ts ≡ h.triangles = one_mesh m ts h.triangles mesh of_m in
    let number : enough_of m ts ≡ enough_of h.grouped h.triangles = ap (enough_of m) same ∙ sym (enough_same h.grouped m lines h.triangles) in
    let s = h.some in
    enough_lists_none h.grouped h.triangles h.labels h.mesh.triangles (mesh_turns h.grouped h.triangles h.mesh) s.0 s.1
    (subst (λ (n : ℕ). IsListedOver h.grouped h.triangles h.labels (Of n) s.0 s.1) number s.4)
