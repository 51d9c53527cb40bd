-- The points of a face touch its sides, and a gap leads from each of them out of the hull.
use Rattle.std.proofs.Common.{◌≡◌, ◌≢◌, ℕ, ◌<◌, pos, ◌<ℤ◌, arith, refl, sym, ap, ◌∙◌, subst, inl, inr, List, [], ◌∷◌, length, slice_get, slice_index_or, Some, None, Bool, true, false, IsTrue}
use borrow.Author.Differences.{ints}
use Rattle.std.proofs.lemmas.Bool.{false≢true}
use Rattle.std.proofs.lemmas.Option.{slice_get_within, get_or_from_slice_get, same_Some}
use Rattle.sight_names.specs.declared.names.Pt.{Pt}
use Rattle.sight_names.specs.declared.names.Side.{Side}
use Rattle.sight_names.specs.declared.names.Triangle.{Triangle}
use Rattle.sight_names.specs.Point.{Point, OnSide}
use Rattle.sight_names.specs.Map.{Map, MapLine, line_at}
use Rattle.sight_names.specs.Path.{OnNoLine, Touches, Leads}
use Rattle.sight_names.specs.Points.{Edge, points_of, place, point_number, reverse_of}
use Rattle.sight_names.specs.Sound.{IsOutside}
use Rattle.sight_names.specs.Mesh.{IsTriangle, HasEdge, InsideTriangle, IsLineEdge, side_edge, triangle_at}
use Rattle.sight_names.proofs.Laws.{same_point_refl}
use Rattle.plane_base.proofs.Vec.{V, at, edge, det, det-swap}
use Rattle.plane_base.proofs.Search.{In}
use Rattle.plane_base.proofs.Walk.{Tri, side, sides, Closed}
use Rattle.mesh_base.proofs.SightLaws.Bridge.{vec, turn_at_is}
use Rattle.mesh_base.proofs.SightLaws.Paths.{path_back, side_from, side_to}
use Rattle.mesh_base.proofs.GoodMesh.{PointFacts, pv, tri_of, found_at, pt_of_vec, to_is, from_is}
use Rattle.mesh_base.proofs.Joined.{Strict, CleanAll, whole, tri, inside_free, joined, centre_strict, centre, middle}
use Rattle.mesh_shape.proofs.RuleLemmas.{edge_cases, no_first}
use Rattle.face_groups.specs.declared.tri_sectors.faces.Walls.{Walls}
use Rattle.face_groups.specs.TriSectors.Classes.{class_of}
use Rattle.face_groups.specs.TriSectors.Faces.{edge_pq, edge_qr, edge_rp, IsFreeEdge, IsLink, HasGap, IsRowOfLinks, AreLinked}
use Rattle.mesh_shape.specs.Fills.{HasLeft, HasTriangle}
use Rattle.face_groups.proofs.TriSectors.PlainFaces.{plain_turn, clean_of}
use Rattle.face_groups.proofs.TriSectors.FaceRegion.{Ground, GapOn, numbers, on_face, only_one}
use Rattle.face_groups.proofs.TriSectors.FacePaths.{IsNoLine, middle_turned, middle_closed, middle_flat, middle_inside, centre_turned, leads_join, one_leg, across, out_through, inside_clear, beyond_clear, free_beyond, outside_beyond, none_left, places_differ, far, far_left}
use Rattle.sight_names.proofs.Records.{edge_of_numbers}
use Rattle.mesh_base.proofs.CleanMesh.{edge_rp as third_edge, edge_qr as second_edge, edge_pq as first_edge}

abbrev pub centre_of : Map → Triangle → Point
centre_of m t = centre (place m t.p) (place m t.q) (place m t.r)

-- a triangle turned to one of its edges
record IsTurned (m : Map) (t : Triangle) (e : Edge) : Type 0 where
  z : ℕ
  turn : In (tri (place m e.from) (place m e.to) (place m z)) (sides (tri_of m t))
  same : centre (place m e.from) (place m e.to) (place m z) ≡ centre_of m t

turned_to : (m : Map) (t : Triangle) (e : Edge) → HasEdge t e → IsTurned m t e
turned_to m t e has = edge_cases t e (IsTurned m t)
    (record { z = t.r; turn = inl refl; same = refl })
    (record { z = t.p; turn = inr (inl refl); same = centre_turned (place m t.p) (place m t.q) (place m t.r) })
    (record { z = t.q; turn = inr (inr (inl refl)); same = centre_turned (place m t.q) (place m t.r) (place m t.p) ∙ centre_turned (place m t.p) (place m t.q) (place m t.r) }) has

-- the ends of a triangle's edge
ends_in_range : (n : ℕ) (t : Triangle) (e : Edge) → IsTriangle n t → HasEdge t e → (e.from < n) × (e.to < n) × (e.from ≢ e.to)
ends_in_range n t e is has =
    let a = is.least in let b = is.least_too in let c = is.second in let d = is.third in
    edge_cases t e (λ (f : Edge). (f.from < n) × (f.to < n) × (f.from ≢ f.to))
    (omega arith, c, λ s. omega arith)
    (c, d, is.differ)
    (d, omega arith, λ s. omega arith) has

same_edge : (e f : Edge) → e.from ≡ f.from → e.to ≡ f.to → e ≡ f
same_edge e f a b = edge_of_numbers e.from e.to f.from f.to a b

no_line : (m : Map) → PointFacts m → (e : Edge) → e.from < length (points_of m) → e.to < length (points_of m) → ¬ IsLineEdge m e → IsNoLine m (place m e.from) (place m e.to)
no_line m facts e hf ht none i l is s = elim s as (λ _. ⊥) [
  | inl w ↦ none (i, l, true, is, same_edge e (side_edge m l true) (number e.from l.first hf w.0) (number e.to l.second ht w.1))
  | inr w ↦ none (i, l, false, is, same_edge e (side_edge m l false) (number e.from l.second hf w.0) (number e.to l.first ht w.1))
]
  where
    number : (k : ℕ) (p : Pt) → k < length (points_of m) → whole (place m k) ≡ whole p → k ≡ point_number m p
    number k p h s = sym (facts.number k h) ∙ ap (point_number m) (pt_of_vec (place m k) p s)

module _ (m : Map) (ts : List Triangle) (ws : List Walls) (fs : List ℕ) (d : Ground m ts ws fs) where
  pub clean_at : (k : ℕ) (t : Triangle) (g : Tri) → slice_get ts k ≡ Some t → In g (sides (tri_of m t)) → CleanAll m g
  clean_at k t g at turn = record { each = λ i l is. clean_of m d.facts ts (numbers fs) d.plain (class_of fs k) g (on_face m ts ws fs d (class_of fs k) k t g at refl turn) i l is }

  turn_at : (k : ℕ) (t : Triangle) (g : Tri) → slice_get ts k ≡ Some t → In g (sides (tri_of m t)) → pos 0 <ℤ side g g.c
  turn_at k t g at turn = plain_turn m ts (numbers fs) d.plain (class_of fs k) g (on_face m ts ws fs d (class_of fs k) k t g at refl turn)

  -- an edge that isn't marked is no line
  not_wall : (k : ℕ) (t : Triangle) (e : Edge) (b : Bool) → slice_get ts k ≡ Some t → HasEdge t e → (IsLineEdge m e × (triangle_at ts e ≡ Some k) → IsTrue b) → b ≡ false → ¬ IsLineEdge m e
  not_wall k t e b at has f none line = false≢true (sym none ∙ f (line, only_one m ts d.plain e k t at has))

  pub free_edge : (k : ℕ) (t : Triangle) (w : Walls) (e : Edge) → slice_get ts k ≡ Some t → slice_get ws k ≡ Some w → IsFreeEdge t w e → HasEdge t e × ¬ IsLineEdge m e
  free_edge k t w e at marks free =
      let h = d.walls.each k t w at in
      let same : slice_index_or ws k w ≡ w = get_or_from_slice_get ws k w w marks in
      let both : (f : Edge) → e ≡ f → HasEdge t f → ¬ IsLineEdge m f → HasEdge t e × ¬ IsLineEdge m e = λ f s x y. subst (λ (v : Edge). HasEdge t v × ¬ IsLineEdge m v) (sym s) (x, y) in
      elim free as (λ _. HasEdge t e × ¬ IsLineEdge m e) [
        | inl f ↦ both (edge_pq t) f.0 (first_edge t) (not_wall k t (edge_pq t) _ at (first_edge t) h.pq.1 (ap (λ (v : Walls). v.pq) same ∙ f.1))
        | inr (inl f) ↦ both (edge_qr t) f.0 (second_edge t) (not_wall k t (edge_qr t) _ at (second_edge t) h.qr.1 (ap (λ (v : Walls). v.qr) same ∙ f.1))
        | inr (inr f) ↦ both (edge_rp t) f.0 (third_edge t) (not_wall k t (edge_rp t) _ at (third_edge t) h.rp.1 (ap (λ (v : Walls). v.rp) same ∙ f.1))
      ]

  no_line_side : (k : ℕ) (t : Triangle) (e : Edge) → slice_get ts k ≡ Some t → HasEdge t e → ¬ IsLineEdge m e → IsNoLine m (place m e.from) (place m e.to)
  no_line_side k t e at has none = let r = ends_in_range (length (points_of m)) t e (d.plain.triangles.each k t at) has in no_line m d.facts e r.0 r.1 none

  -- ---- linked triangles

  link_leads : (k j : ℕ) (t u : Triangle) → slice_get ts k ≡ Some t → slice_get ts j ≡ Some u → IsLink ts ws k j → Leads m (centre_of m t) (centre_of m u)
  link_leads k j t u at at_too link =
      let et : link.t ≡ t = same_Some link.t t (sym link.at ∙ at) in
      let free = free_edge k t link.w link.e at link.marks (subst (λ (x : Triangle). IsFreeEdge x link.w link.e) et link.free) in
      let found = found_at ts (reverse_of link.e) j link.behind in
      let has : HasEdge u (reverse_of link.e) = subst (λ (x : Triangle). HasEdge x (reverse_of link.e)) (same_Some found.0 u (sym found.1 ∙ at_too)) found.2 in
      let a = turned_to m t link.e free.0 in
      let b = turned_to m u (reverse_of link.e) has in
      subst (λ (x : Point). Leads m x (centre_of m u)) a.same (subst (λ (x : Point). Leads m (centre (place m link.e.from) (place m link.e.to) (place m a.z)) x) b.same
      (across m (place m link.e.from) (place m link.e.to) (place m a.z) (place m b.z) (clean_at k t _ at a.turn) (clean_at j u _ at_too b.turn) (turn_at k t _ at a.turn) (turn_at j u _ at_too b.turn) (no_line_side k t link.e at free.0 free.1)))

  pub centre_inside : (k : ℕ) (t : Triangle) → slice_get ts k ≡ Some t → Strict (tri_of m t) (vec (centre_of m t))
  centre_inside k t at = centre_strict (place m t.p) (place m t.q) (place m t.r) (turn_at k t (tri_of m t) at (inl refl))

  centre_free : (k : ℕ) (t : Triangle) → slice_get ts k ≡ Some t → OnNoLine m (centre_of m t)
  centre_free k t at = inside_free m (tri_of m t) (centre_of m t) (clean_at k t (tri_of m t) at (inl refl)) (centre_inside k t at)

  pub stays : (k : ℕ) (t : Triangle) → slice_get ts k ≡ Some t → Leads m (centre_of m t) (centre_of m t)
  stays k t at = ([], (centre_free k t at, same_point_refl (centre_of m t)))

  row_leads : (k : ℕ) (is : List ℕ) (j : ℕ) (t u : Triangle) → slice_get ts k ≡ Some t → slice_get ts j ≡ Some u → IsRowOfLinks ts ws k is j → Leads m (centre_of m t) (centre_of m u)
  row_leads k [] j t u at at_too e = subst (λ (x : Triangle). Leads m (centre_of m t) (centre_of m x)) (same_Some t u (sym at ∙ ap (slice_get ts) e ∙ at_too)) (stays k t at)
  row_leads k (i ∷ is) j t u at at_too (inl link, row) =
      let v = found_at ts (reverse_of link.e) i link.behind in
      leads_join m (centre_of m t) (centre_of m v.0) (centre_of m u) (link_leads k i t v.0 at v.1 link) (row_leads i is j v.0 u v.1 at_too row)
  row_leads k (i ∷ is) j t u at at_too (inr link, row) =
      let b = link_leads i k link.t t link.at at link in
      leads_join m (centre_of m t) (centre_of m link.t) (centre_of m u) (path_back m (centre_of m link.t) b.0 (centre_of m t) b.1) (row_leads i is j link.t u link.at at_too row)

  pub linked_leads : (k j : ℕ) (t u : Triangle) → slice_get ts k ≡ Some t → slice_get ts j ≡ Some u → AreLinked ts ws k j → Leads m (centre_of m t) (centre_of m u)
  linked_leads k j t u at at_too h = row_leads k h.0 j t u at at_too h.1

  -- ---- to the side of a triangle

  pub strictly : (t : Triangle) (p : Point) → InsideTriangle m t p → Strict (tri_of m t) (vec p)
  strictly t p h = record {
    ab = let e = turn_at_is (place m t.p) (place m t.q) p in let x = h.pq in omega (arith, ints);
    bc = let e = turn_at_is (place m t.q) (place m t.r) p in let x = h.qr in omega (arith, ints);
    ca = let e = turn_at_is (place m t.r) (place m t.p) p in let x = h.rp in omega (arith, ints);
  }

  pub closed_of_strict : (t : Tri) (r : V) → Strict t r → Closed t r
  closed_of_strict t r s = record { ab = let x = s.ab in omega (arith, ints); bc = let x = s.bc in omega (arith, ints); ca = let x = s.ca in omega (arith, ints) }

  pub inside_is_free : (k : ℕ) (t : Triangle) (p : Point) → slice_get ts k ≡ Some t → InsideTriangle m t p → OnNoLine m p
  inside_is_free k t p at inside = inside_free m (tri_of m t) p (clean_at k t (tri_of m t) at (inl refl)) (strictly t p inside)

  pub to_centre : (k : ℕ) (t : Triangle) (p : Point) → slice_get ts k ≡ Some t → InsideTriangle m t p → Leads m p (centre_of m t)
  to_centre k t p at inside =
      let free = inside_is_free k t p at inside in
      one_leg m p (centre_of m t) free (joined m (tri_of m t) p (centre_of m t) (clean_at k t (tri_of m t) at (inl refl)) (closed_of_strict (tri_of m t) (vec p) (strictly t p inside)) free (centre_inside k t at)) (centre_free k t at)

  on_side_of : (l : MapLine) (left : Bool) (q : Point) → pos 0 <ℤ det (side_from l left) (side_to l left) (vec q) → OnSide l.first l.second left q
  on_side_of l true q h = let e = turn_at_is l.first l.second q in omega (arith, ints)
  on_side_of l false q h = let e = turn_at_is l.first l.second q in let s = det-swap (whole l.first) (whole l.second) (vec q) in omega (arith, ints)

  side_middle : (i : ℕ) (l : MapLine) (left : Bool) → line_at m i ≡ Some l → middle (place m (side_edge m l left).from) (place m (side_edge m l left).to) ≡ middle l.first l.second
  side_middle i l true is = ap (λ (x : Pt). middle x (place m (point_number m l.second))) (d.facts.first i l is).0 ∙ ap (middle l.first) (d.facts.second i l is).0
  side_middle i l false is = ap (λ (x : Pt). middle x (place m (point_number m l.first))) (d.facts.second i l is).0 ∙ ap (middle l.second) (d.facts.first i l is).0 ∙ middle_turned l.first l.second

  on_the_side : (i : ℕ) (l : MapLine) (left : Bool) (q : Point) → line_at m i ≡ Some l → pos 0 <ℤ det (pv m (side_edge m l left).from) (pv m (side_edge m l left).to) (vec q) → OnSide l.first l.second left q
  on_the_side i l left q is h = on_side_of l left q (subst (λ (x : V). pos 0 <ℤ det x (side_to l left) (vec q)) (from_is m d.facts i l left is) (subst (λ (x : V). pos 0 <ℤ det (pv m (side_edge m l left).from) x (vec q)) (to_is m d.facts i l left is) h))

  -- a path to the centre of the side's triangle
  pub touches : (s : Side) (l : MapLine) (k : ℕ) (p : Point) (u : Triangle) → line_at m s.line ≡ Some l → triangle_at ts (side_edge m l s.left) ≡ Some k → slice_get ts k ≡ Some u → Leads m p (centre_of m u) → Touches m p s
  touches s l k p u is there at leads =
      let e = side_edge m l s.left in
      let found = found_at ts e k there in
      let has : HasEdge u e = subst (λ (x : Triangle). HasEdge x e) (same_Some found.0 u (sym found.1 ∙ at)) found.2 in
      let a = turned_to m u e has in
      let g = tri (place m e.from) (place m e.to) (place m a.z) in
      let turn = turn_at k u g at a.turn in
      let strict : Strict g (vec (centre_of m u)) = subst (λ (x : Point). Strict g (vec x)) a.same (centre_strict (place m e.from) (place m e.to) (place m a.z) turn) in
      let closed : Closed g (vec (middle l.first l.second)) = subst (λ (x : Point). Closed g (vec x)) (side_middle s.line l s.left is) (middle_closed (place m e.from) (place m e.to) (place m a.z) turn) in record {
        line = l;
        is = is;
        q = centre_of m u;
        path = leads;
        side = on_the_side s.line l s.left (centre_of m u) is strict.ab;
        foot = middle l.first l.second;
        inside = middle_inside m d.facts s.line l is;
        clear = λ i k r at_line on on_line. inside_clear m g (clean_at _ u g at a.turn) (centre_of m u) (middle l.first l.second) strict closed i k r at_line on on_line;
      }

  -- ---- out of the hull

  -- a point that touches the side leads out of the hull
  pub record LeadsOut (s : Side) : Type 0 where
    pub p : Point
    pub q : Point
    pub touches : Touches m p s
    pub leads : Leads m p q
    pub outside : IsOutside m q

  none_left_of : (e : Edge) → (HasLeft m e → HasTriangle ts e) → triangle_at ts e ≡ None → ¬ HasLeft m e
  none_left_of e fills none left = let h = fills left in no_first ts e h.0 h.1 none h.2 h.3

  ends_differ : (i : ℕ) (l : MapLine) (left : Bool) → line_at m i ≡ Some l → place m (side_edge m l left).from ≢ place m (side_edge m l left).to
  ends_differ i l true is e = apart (sym (d.facts.first i l is).0 ∙ e ∙ (d.facts.second i l is).0)
    where
      apart : l.first ≡ l.second → ⊥
      apart same = let a = (d.facts.apart i l is).0 in let z = a.zero in let u = subst (λ (x : Pt). pos 0 <ℤ at a.f (whole x)) (sym same) a.above in omega (arith, ints)
  ends_differ i l false is e = apart (sym (d.facts.first i l is).0 ∙ sym e ∙ (d.facts.second i l is).0)
    where
      apart : l.first ≡ l.second → ⊥
      apart same = let a = (d.facts.apart i l is).0 in let z = a.zero in let u = subst (λ (x : Pt). pos 0 <ℤ at a.f (whole x)) (sym same) a.above in omega (arith, ints)

  -- a side without a triangle
  pub out_of_side : (s : Side) (l : MapLine) → line_at m s.line ≡ Some l → (HasLeft m (side_edge m l s.left) → HasTriangle ts (side_edge m l s.left)) → triangle_at ts (side_edge m l s.left) ≡ None → LeadsOut s
  out_of_side s l is fills none =
      let e = side_edge m l s.left in
      let f = edge (whole (place m e.from)) (whole (place m e.to)) in
      let low = none_left m d.facts e (none_left_of e fills none) in
      let o = far (place m e.from) (place m e.to) in
      let up : pos 0 <ℤ at f (vec o) = far_left (place m e.from) (place m e.to) (ends_differ s.line l s.left is) in
      let free = free_beyond m f low o up in
      let zero : at f (vec (middle l.first l.second)) ≡ pos 0 = subst (λ (x : Point). at f (vec x) ≡ pos 0) (side_middle s.line l s.left is) (middle_flat (place m e.from) (place m e.to)) in record {
        p = o;
        q = o;
        touches = record {
          line = l;
          is = is;
          q = o;
          path = ([], (free, same_point_refl o));
          side = on_the_side s.line l s.left o is up;
          foot = middle l.first l.second;
          inside = middle_inside m d.facts s.line l is;
          clear = λ i k r at_line on on_line. beyond_clear m f low o (middle l.first l.second) up zero i k r at_line on on_line;
        };
        leads = ([], (free, same_point_refl o));
        outside = outside_beyond m f low o up;
      }

  -- a triangle with a gap
  pub out_of_gap : (k : ℕ) (gap : HasGap ts ws k) → (HasLeft m (reverse_of gap.e) → HasTriangle ts (reverse_of gap.e)) → (o : Point) × Leads m (centre_of m gap.t) o × IsOutside m o
  out_of_gap k gap fills =
      let free = free_edge k gap.t gap.w gap.e gap.at gap.marks gap.free in
      let a = turned_to m gap.t gap.e free.0 in
      let r = ends_in_range (length (points_of m)) gap.t gap.e (d.plain.triangles.each k gap.t gap.at) free.0 in
      let out = out_through m d.facts (place m gap.e.from) (place m gap.e.to) (place m a.z) (clean_at k gap.t _ gap.at a.turn) (turn_at k gap.t _ gap.at a.turn) (no_line_side k gap.t gap.e gap.at free.0 free.1)
      (places_differ m d.facts gap.e.to gap.e.from r.1 r.0 (λ s. r.2 (sym s))) (none_left m d.facts (reverse_of gap.e) (none_left_of (reverse_of gap.e) fills gap.behind)) in
      (out.0, subst (λ (x : Point). Leads m x out.0) a.same out.1, out.2)

  pub gap_edge : (k : ℕ) (gap : HasGap ts ws k) → HasEdge gap.t gap.e
  gap_edge k gap = (free_edge k gap.t gap.w gap.e gap.at gap.marks gap.free).0

  -- a gap on the face of a side's triangle
  pub out_of_face : (s : Side) (l : MapLine) (k : ℕ) → line_at m s.line ≡ Some l → triangle_at ts (side_edge m l s.left) ≡ Some k
      → ((j : ℕ) (t : Triangle) (e : Edge) → slice_get ts j ≡ Some t → HasEdge t e → HasLeft m (reverse_of e) → HasTriangle ts (reverse_of e)) → GapOn ts ws fs (class_of fs k) → LeadsOut s
  out_of_face s l k is there fills gap =
      let g = gap.gap in
      let found = found_at ts (side_edge m l s.left) k there in
      let linked = d.faces.only gap.k k gap.within (slice_get_within ts k found.0 found.1) gap.face in
      let out = out_of_gap gap.k g (fills gap.k g.t g.e g.at (gap_edge gap.k g)) in record {
        p = centre_of m g.t;
        q = out.0;
        touches = touches s l k (centre_of m g.t) found.0 is there found.1 (linked_leads gap.k k g.t found.0 g.at found.1 linked);
        leads = out.1;
        outside = out.2;
      }
