-- Two maps with the same lines have the same points, and so the same meshes.
use Rattle.std.proofs.Common.{◌≡◌, ℕ, ◌<◌, ◌⊎◌, inl, inr, pos, ◌<ℤ◌, refl, sym, ap, ◌∙◌, subst, List, [], ◌∷◌, ◌++◌, length, map, slice_index_or, Option, Some, None, Bool, true, false, unwrap_or, position, filter_map, Contains}
use Rattle.sight_names.specs.declared.names.Pt.{Pt}
use Rattle.sight_names.specs.declared.names.Triangle.{Triangle}
use Rattle.sight_names.specs.Point.{Point, point_of, turn_at}
use Rattle.sight_names.specs.Map.{Map, MapLine, origin}
use Rattle.sight_names.specs.Sound.{MeetAtEnds}
use Rattle.sight_names.specs.Points.{Edge, ends_of_lines, in_order, points_of, place, point_number, pt_eq}
use Rattle.sight_names.specs.Greedy.{square_length, ComesBefore, IsPointPair, EdgesMeetAtEnds, line_edges, IsGreedy}
use Rattle.sight_names.specs.Mesh.{AreTriangles, IsTriangle, InsideTriangle, IsCounterclockwise, IsEmpty, IsMeshTriangle, IsMeshOf, side_edge, IsLineEdge, MeetsFairly, IsPlainMesh}
use Rattle.sight_names.specs.Groups.{unnamed}
use Rattle.sight_names.proofs.Records.{edge_of_numbers}
use Rattle.face_groups.proofs.GroupsBase.SameLines.{HaveSameLines, IsSameLine, same_line_sym, same_lines_sym, lines_alike, line_of}

-- ---- points

ends_unnamed : (ls : List (Option MapLine)) → ends_of_lines (filter_map (λ l. l) (map unnamed ls)) ≡ ends_of_lines (filter_map (λ l. l) ls)
ends_unnamed [] = refl
ends_unnamed (None ∷ ls) = ends_unnamed ls
ends_unnamed (Some l ∷ ls) = ap (λ (ps : List Pt). l.first ∷ l.second ∷ ps) (ends_unnamed ls)

pub points_alike : (m g : Map) → map unnamed g.lines ≡ map unnamed m.lines → points_of m ≡ points_of g
unfolding points_of
points_alike m g e = ap in_order (sym (ends_unnamed m.lines) ∙ ap (λ (ls : List (Option MapLine)). ends_of_lines (filter_map (λ l. l) ls)) (sym e) ∙ ends_unnamed g.lines)

numbered : List Pt → MapLine → Edge
numbered ps l = record { from = unwrap_or (position (pt_eq l.first) ps) (length ps); to = unwrap_or (position (pt_eq l.second) ps) (length ps) }

edges_unnamed : (ps : List Pt) (ls : List (Option MapLine)) → map (numbered ps) (filter_map (λ l. l) (map unnamed ls)) ≡ map (numbered ps) (filter_map (λ l. l) ls)
unfolding numbered
edges_unnamed ps [] = refl
edges_unnamed ps (None ∷ ls) = edges_unnamed ps ls
edges_unnamed ps (Some l ∷ ls) = ap (λ (es : List Edge). numbered ps l ∷ es) (edges_unnamed ps ls)

edges_alike : (m g : Map) → map unnamed g.lines ≡ map unnamed m.lines → line_edges m ≡ line_edges g
unfolding numbered
edges_alike m g e =
    let ps = points_of m in
    sym (edges_unnamed ps m.lines) ∙ ap (λ (ls : List (Option MapLine)). map (numbered ps) (filter_map (λ l. l) ls)) (sym e) ∙ edges_unnamed ps g.lines ∙ ap (λ (qs : List Pt). map (numbered qs) (filter_map (λ l. l) g.lines)) (points_alike m g e)

module _ (m g : Map) (e : map unnamed g.lines ≡ map unnamed m.lines) where
  pts : points_of m ≡ points_of g
  pts = points_alike m g e

  same : HaveSameLines m g
  same = lines_alike m g e

  pub place_alike : (k : ℕ) → place m k ≡ place g k
  place_alike k = ap (λ (ps : List Pt). slice_index_or ps k origin) pts

  number_alike : (p : Pt) → point_number m p ≡ point_number g p
  number_alike p = ap (λ (ps : List Pt). unwrap_or (position (pt_eq p) ps) (length ps)) pts

  pub side_edge_alike : (l k : MapLine) (left : Bool) → IsSameLine l k → side_edge m l left ≡ side_edge g k left
  side_edge_alike l k true h = edge_of_numbers _ _ _ _ (number_alike l.first ∙ ap (point_number g) h.first) (number_alike l.second ∙ ap (point_number g) h.second)
  side_edge_alike l k false h = edge_of_numbers _ _ _ _ (number_alike l.second ∙ ap (point_number g) h.second) (number_alike l.first ∙ ap (point_number g) h.first)

  pub inside_alike : (t : Triangle) (p : Point) → InsideTriangle m t p → InsideTriangle g t p
  inside_alike t p h = record { pq = at t.p t.q h.pq; qr = at t.q t.r h.qr; rp = at t.r t.p h.rp }
    where
      at : (u v : ℕ) → pos 0 <ℤ turn_at (place m u) (place m v) p → pos 0 <ℤ turn_at (place g u) (place g v) p
      at u v h = subst (λ (ps : List Pt). pos 0 <ℤ turn_at (slice_index_or ps u origin) (slice_index_or ps v origin) p) pts h

  turn_alike : (t : Triangle) → IsCounterclockwise m t → IsCounterclockwise g t
  turn_alike t h = subst (λ (ps : List Pt). pos 0 <ℤ turn_at (slice_index_or ps t.p origin) (slice_index_or ps t.q origin) (point_of (slice_index_or ps t.r origin))) pts h

  line_edge_alike : (f : Edge) → IsLineEdge m f → IsLineEdge g f
  line_edge_alike f (i, l, left, is, s) = let k = line_of m g same i l is in (i, k.0, left, k.1, s ∙ side_edge_alike l k.0 left k.2)

  meet_alike : (f : Edge) (l k : MapLine) → IsSameLine l k → MeetAtEnds (place m f.from) (place m f.to) l.first l.second → MeetAtEnds (place g f.from) (place g f.to) k.first k.second
  meet_alike f l k s h =
      subst (λ (ps : List Pt). MeetAtEnds (slice_index_or ps f.from origin) (slice_index_or ps f.to origin) k.first k.second) pts
      (subst (λ (x : Pt). MeetAtEnds (place m f.from) (place m f.to) x k.second) s.first (subst (λ (x : Pt). MeetAtEnds (place m f.from) (place m f.to) l.first x) s.second h))

  fair_alike : (f : Edge) (l k : MapLine) → IsSameLine l k → MeetsFairly m f l → MeetsFairly g f k
  fair_alike f l k s h = elim h as (λ _. MeetsFairly g f k) [ inl x ↦ inl (meet_alike f l k s x) | inr x ↦ inr (x.0, x.1 ∙ side_edge_alike l k x.0 s) ]

module _ (m g : Map) (e : map unnamed g.lines ≡ map unnamed m.lines) where
  pub no_line_edge : (f : Edge) → ¬ IsLineEdge g f → ¬ IsLineEdge m f
  no_line_edge f none h = none (line_edge_alike m g e f h)

  empty_alike : (t : Triangle) → IsEmpty m t → IsEmpty g t
  empty_alike t h k lt inside = h k (subst (λ (ps : List Pt). k < length ps) (sym (pts m g e)) lt)
      (subst (λ (p : Pt). InsideTriangle m t (point_of p)) (sym (place_alike m g e k)) (inside_alike g m (sym e) t (point_of (place g k)) inside))

  pub plain_alike : (ts : List Triangle) → IsPlainMesh m ts → IsPlainMesh g ts
  plain_alike ts h = record {
    triangles = subst (λ (ps : List Pt). AreTriangles (length ps) ts) (pts m g e) h.triangles;
    turn = λ k t at. turn_alike m g e t (h.turn k t at);
    once = h.once;
    fair = λ k i t f l at has is. let b = line_of g m (same_lines_sym m g (same m g e)) i l is in fair_alike m g e f b.0 l (same_line_sym l b.0 b.2) (h.fair k i t f b.0 at has b.1);
    empty = λ k t at. empty_alike t (h.empty k t at);
  }

  -- ---- the mesh

  kept_triangle : (kept : List Edge) (t : Triangle) → IsMeshTriangle m kept t → IsMeshTriangle g kept t
  kept_triangle kept t h = record { numbers = subst (λ (ps : List Pt). IsTriangle (length ps) t) (pts m g e) h.numbers; pq = h.pq; qr = h.qr; rp = h.rp; turn = turn_alike m g e t h.turn; empty = empty_alike t h.empty }

module _ (m g : Map) (e : map unnamed g.lines ≡ map unnamed m.lines) where
  Over : List Pt → Edge → Edge → Type 0
  Over ps f h = (square_length (slice_index_or ps f.from origin) (slice_index_or ps f.to origin) < square_length (slice_index_or ps h.from origin) (slice_index_or ps h.to origin))
      ⊎ ((square_length (slice_index_or ps f.from origin) (slice_index_or ps f.to origin) ≡ square_length (slice_index_or ps h.from origin) (slice_index_or ps h.to origin)) × ((f.from < h.from) ⊎ ((f.from ≡ h.from) × (f.to < h.to))))

  order_alike : (f h : Edge) → ComesBefore m f h → ComesBefore g f h
  unfolding Over
  order_alike f h x = subst (λ (ps : List Pt). Over ps f h) (pts m g e) x

  pair_alike : (f : Edge) → IsPointPair m f → IsPointPair g f
  pair_alike f x = (x.0, subst (λ (ps : List Pt). f.to < length ps) (pts m g e) x.1)

  edges_meet_alike : (f h : Edge) → EdgesMeetAtEnds m f h → EdgesMeetAtEnds g f h
  edges_meet_alike f h x = subst (λ (ps : List Pt). MeetAtEnds (slice_index_or ps f.from origin) (slice_index_or ps f.to origin) (slice_index_or ps h.from origin) (slice_index_or ps h.to origin)) (pts m g e) x

module _ (m g : Map) (e : map unnamed g.lines ≡ map unnamed m.lines) where
  earlier_alike : (rest : List Edge) (f h : Edge) → Contains (line_edges g) h ⊎ (Contains rest h × ComesBefore g h f) → Contains (line_edges m) h ⊎ (Contains rest h × ComesBefore m h f)
  earlier_alike rest f h x = elim x as (λ _. Contains (line_edges m) h ⊎ (Contains rest h × ComesBefore m h f)) [
    | inl c ↦ inl (subst (λ (es : List Edge). Contains es h) (sym (edges_alike m g e)) c)
    | inr c ↦ inr (c.0, order_alike g m (sym e) h f c.1)
  ]

module _ (m g : Map) (e : map unnamed g.lines ≡ map unnamed m.lines) where
  greedy_alike : (kept : List Edge) → IsGreedy m kept → IsGreedy g kept
  greedy_alike kept h = record {
    rest = h.rest;
    lines_first = h.lines_first ∙ ap (λ (es : List Edge). es ++ h.rest) (edges_alike m g e);
    pairs = λ f c. pair_alike m g e f (h.pairs f c);
    ascend = λ i j f k lt ei ej. order_alike m g e f k (h.ascend i j f k lt ei ej);
    exactly = λ f pair. let x = h.exactly f (pair_alike g m (sym e) f pair) in (
      λ c k before. edges_meet_alike m g e f k (x.0 c k (earlier_alike m g e h.rest f k before)),
      λ all. x.1 (λ k before. edges_meet_alike g m (sym e) f k (all k (earlier_alike g m (sym e) h.rest f k before))),
    );
  }

  pub mesh_alike : (ts : List Triangle) → IsMeshOf m ts → IsMeshOf g ts
  mesh_alike ts h = record {
    kept = h.kept;
    greedy = greedy_alike h.kept h.greedy;
    triangles = subst (λ (ps : List Pt). AreTriangles (length ps) ts) (pts m g e) h.triangles;
    exactly = λ t. (λ c. kept_triangle m g e h.kept t ((h.exactly t).0 c), λ k. (h.exactly t).1 (kept_triangle g m (sym e) h.kept t k));
  }
