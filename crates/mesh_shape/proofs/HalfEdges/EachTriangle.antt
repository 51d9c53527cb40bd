-- The half-edges of the triangles, three after three, are what one finds by their edges.
use Rattle.std.proofs.Common.{◌≡◌, ℕ, zero, suc, ◌+◌, ◌*◌, ◌<◌, ◌↔◌, inl, inr, List, [], ◌∷◌, ◌++◌, Option, Some, None, length, Bool, true, false, IsTrue, refl, sym, ◌∙◌, ap, subst, arith, if◌then◌else◌, ◌==◌, ◌&&◌, option_and_then, option_map, slice_get, slice_index_or, get_or}
use Rattle.std.proofs.lemmas.Bool.{cases_lt, true≢false, false≢true}
use Rattle.std.proofs.lemmas.Option.{same_Some, slice_get_within, get_or_from_slice_get}
use Rattle.std.proofs.lemmas.List.{length-append}
use Rattle.sight_names.specs.declared.names.Pt.{Pt}
use Rattle.sight_names.specs.declared.names.Triangle.{Triangle}
use Rattle.sight_names.specs.Plan.{PlanParts, IsPlan}
use Rattle.sight_names.specs.Map.{map_of, origin}
use Rattle.sight_names.specs.Points.{Edge, place}
use Rattle.sight_names.specs.Mesh.{AreTriangles, IsTriangle, triangle_at, label_of}
use Rattle.sight_names.specs.Sequence.{Portal, apex, third_point, IsSolidLine}
use Rattle.sight_names.proofs.PlanPoints.{plan_points}
use Rattle.mesh_shape.specs.declared.half_edges.kinds.EdgeKind.{EdgeKind}
use Rattle.mesh_shape.specs.declared.half_edges.kinds.EdgeKind.TheVariants.{Free, Passable, Solid}
use Rattle.mesh_shape.specs.declared.half_edges.table.Corner.{Corner}
use Rattle.mesh_shape.specs.declared.half_edges.table.HalfEdge.{HalfEdge}
use Rattle.mesh_shape.specs.HalfEdges.Numbers.{edge, half_edge_number}
use Rattle.mesh_shape.specs.HalfEdges.Kinds.{IsEdgeKind, IsEnteredAt, AreKinds, portal_on, kind_with, way_of_kind, way_by_edge}
use Rattle.mesh_shape.specs.HalfEdges.HalfEdges.{portal_into, entering, IsHalfEdge, AreHalfEdges}
use Rattle.mesh_shape.specs.HalfEdges.Corners.{arrival_of, is_solid_kind, IsCorner, by_corners, three_of, Pushes}
use Rattle.mesh_shape.proofs.HalfEdges.Numbers.{IsNumber, number_is, IsCornerEdge, corner_at}
use Rattle.math_base.proofs.Numbers.{below_differs, tells_other, tells_same}
use Rattle.math_base.proofs.Lists.{item_there}

pub get_front : {X : Type 0} (xs ys : List X) (i : ℕ) → i < length xs → slice_get (xs ++ ys) i ≡ slice_get xs i
get_front [] ys i l = absurd (omega arith)
get_front (x ∷ xs) ys zero l = refl
get_front (x ∷ xs) ys (suc i) l = get_front xs ys i (omega arith)

pub get_back : {X : Type 0} (xs ys : List X) (i j : ℕ) → j ≡ length xs + i → slice_get (xs ++ ys) j ≡ slice_get ys i
get_back [] ys i j e = ap (slice_get ys) (let h : j ≡ i = omega arith in h)
get_back (x ∷ xs) ys i zero e = absurd (omega arith)
get_back (x ∷ xs) ys i (suc j) e = get_back xs ys i j (omega arith)

-- ---- triangle after triangle

module _ (p : PlanParts) (ts : List Triangle) (labels : List (Option ℕ)) (kinds : List EdgeKind) where
  -- the three half-edges of a triangle at their numbers
  pub record AreThree (k : ℕ) (t : Triangle) (xs : List HalfEdge) : Type 0 where
    pub first : Corner
    pub second : Corner
    pub third : Corner
    pub is_first : IsCorner p ts kinds (k * 3) t.p t.q first
    pub is_second : IsCorner p ts kinds (k * 3 + 1) t.q t.r second
    pub is_third : IsCorner p ts kinds (k * 3 + 2) t.r t.p third
    pub at_first : slice_get xs (k * 3) ≡ Some (by_corners k (label_of labels k) first second third)
    pub at_second : slice_get xs (k * 3 + 1) ≡ Some (by_corners k (label_of labels k) second third first)
    pub at_third : slice_get xs (k * 3 + 2) ≡ Some (by_corners k (label_of labels k) third first second)

  pub record EdgesBelow (n : ℕ) (xs : List HalfEdge) : Type 0 where
    pub len : length xs ≡ n * 3
    pub three : (k : ℕ) (t : Triangle) → k < n → slice_get ts k ≡ Some t → AreThree k t xs

  edges_more : (n : ℕ) (t : Triangle) (old new : List HalfEdge) → slice_get ts n ≡ Some t → EdgesBelow n old → Pushes p ts kinds n (label_of labels n) t old new → EdgesBelow (n + 1) new
  edges_more n t old new e f g = record {
    len = let h : length new ≡ length old + 3 = ap length g.list ∙ length-append old more in omega (arith, h, f.len);
    three = λ k u l h. elim (cases_lt k n) as (λ _. AreThree k u new) [
      | inl j ↦ before k u j (f.three k u j h)
      | inr j ↦ here k u (omega arith) h
    ];
  }
    where
      more : List HalfEdge
      more = three_of n (label_of labels n) g.first g.second g.third

      front : (i : ℕ) → i < n * 3 → slice_get new i ≡ slice_get old i
      front i l = ap (λ (xs : List HalfEdge). slice_get xs i) g.list ∙ get_front old more i (omega (arith, l, f.len))

      before : (k : ℕ) (u : Triangle) → k < n → AreThree k u old → AreThree k u new
      before k u l a = record {
        first = a.first;
        second = a.second;
        third = a.third;
        is_first = a.is_first;
        is_second = a.is_second;
        is_third = a.is_third;
        at_first = front (k * 3) (omega arith) ∙ a.at_first;
        at_second = front (k * 3 + 1) (omega arith) ∙ a.at_second;
        at_third = front (k * 3 + 2) (omega arith) ∙ a.at_third;
      }

      last : (c i : ℕ) → i ≡ n * 3 + c → slice_get new i ≡ slice_get more c
      last c i q = ap (λ (xs : List HalfEdge). slice_get xs i) g.list ∙ get_back old more c i (omega (arith, q, f.len))

      at_end : AreThree n t new
      at_end = record {
        first = g.first;
        second = g.second;
        third = g.third;
        is_first = g.is_first;
        is_second = g.is_second;
        is_third = g.is_third;
        at_first = last 0 (n * 3) (omega arith);
        at_second = last 1 (n * 3 + 1) refl;
        at_third = last 2 (n * 3 + 2) refl;
      }

      here : (k : ℕ) (u : Triangle) → k ≡ n → slice_get ts k ≡ Some u → AreThree k u new
      here k u q h = subst (λ (j : ℕ). AreThree j u new) (sym q) (subst (λ (v : Triangle). AreThree n v new) (same_Some t u (sym e ∙ ap (slice_get ts) (sym q) ∙ h)) at_end)

  pub edges_step : (n : ℕ) (us : List Triangle) (none : Triangle) (d : List EdgeKind) (sector : Option ℕ) (old new : List HalfEdge) → d ≡ kinds → sector ≡ label_of labels n → us ≡ ts → n < length us → EdgesBelow n old → Pushes p ts d n sector (get_or us n none) old new → EdgesBelow (n + 1) new
  edges_step n us none d sector old new q r e l f g = edges_more n (get_or us n none) old new (item_there us ts n none e l) f (subst (λ (ks : List EdgeKind). Pushes p ts ks n (label_of labels n) (get_or us n none) old new) q (subst (λ (s : Option ℕ). Pushes p ts d n s (get_or us n none) old new) r g))

  -- ---- the whole table

  kind_here : (i : ℕ) (kind : EdgeKind) → slice_get kinds i ≡ Some kind → kind_with kinds i ≡ kind
  kind_here i kind e = get_or_from_slice_get kinds i kind Free e

  module _ (points : ℕ) (all : AreTriangles points ts) (known : AreKinds p ts kinds) (xs : List HalfEdge) (below : EdgesBelow (length ts) xs) where
    -- by which corner one comes to a number
    pub record IsFound (e : Edge) (i : ℕ) : Type 0 where
      pub k : ℕ
      pub t : Triangle
      pub left : Corner
      pub right : Corner
      pub other : Corner
      pub from : ℕ
      pub to : ℕ
      pub third : ℕ
      pub one : ℕ
      pub two : ℕ
      pub found : triangle_at ts e ≡ Some k
      pub there : slice_get ts k ≡ Some t
      pub ends : e ≡ edge from to
      pub apex_is : third_point (edge from to) t ≡ third
      pub is_left : IsCorner p ts kinds i from to left
      pub is_right : IsCorner p ts kinds one to third right
      pub is_other : IsCorner p ts kinds two third from other
      pub at : slice_get xs i ≡ Some (by_corners k (label_of labels k) left right other)

    chosen : (a b : Bool) (x y : ℕ) → a ≡ true → b ≡ true → (let n : ℕ = if a && b then x else y in n) ≡ x
    chosen a b x y e f = ap (λ (c : Bool). let n : ℕ = if c && b then x else y in n) e ∙ ap (λ (c : Bool). let n : ℕ = if c then x else y in n) f

    passed : (a b : Bool) (x y : ℕ) → a ≡ false → (let n : ℕ = if a && b then x else y in n) ≡ y
    passed a b x y e = ap (λ (c : Bool). let n : ℕ = if c && b then x else y in n) e

    first_third : (t : Triangle) → third_point (edge t.p t.q) t ≡ t.r
    first_third t = chosen (t.p == t.p) (t.q == t.q) t.r (if t.q == t.p && t.r == t.q then t.p else t.q) (tells_same t.p t.p refl) (tells_same t.q t.q refl)

    second_third : (t : Triangle) → (t.p ≡ t.q → ⊥) → third_point (edge t.q t.r) t ≡ t.p
    second_third t n = passed (t.p == t.q) (t.q == t.r) t.r (if t.q == t.q && t.r == t.r then t.p else t.q) (tells_other t.p t.q n)
        ∙ chosen (t.q == t.q) (t.r == t.r) t.p t.q (tells_same t.q t.q refl) (tells_same t.r t.r refl)

    third_third : (t : Triangle) → (t.p ≡ t.r → ⊥) → (t.q ≡ t.r → ⊥) → third_point (edge t.r t.p) t ≡ t.q
    third_third t n k = passed (t.p == t.r) (t.q == t.p) t.r (if t.q == t.r && t.r == t.p then t.p else t.q) (tells_other t.p t.r n) ∙ passed (t.q == t.r) (t.r == t.p) t.p t.q (tells_other t.q t.r k)

    corner_moved : (i j from to : ℕ) (c : Corner) → i ≡ j → IsCorner p ts kinds i from to c → IsCorner p ts kinds j from to c
    corner_moved i j from to c q h = subst (λ (n : ℕ). IsCorner p ts kinds n from to c) q h

    found : (e : Edge) (i : ℕ) → half_edge_number ts e ≡ Some i → IsFound e i
    found e i h = by (number_is ts e i h)
      where
        by : IsNumber ts e i → IsFound e i
        by a = at_corner (corner_at points ts all e i a)
          where
            k : ℕ
            k = a.triangle

            t : Triangle
            t = a.corners

            numbers : IsTriangle points t
            numbers = all.each k t a.is

            three : AreThree k t xs
            three = below.three k t (slice_get_within ts k t a.is) a.is

            at_corner : IsCornerEdge t e → IsFound e i
            at_corner (inl (q, c)) = record {
              k = k;
              t = t;
              left = three.first;
              right = three.second;
              other = three.third;
              from = t.p;
              to = t.q;
              third = t.r;
              one = k * 3 + 1;
              two = k * 3 + 2;
              found = a.found;
              there = a.is;
              ends = q;
              apex_is = first_third t;
              is_left = corner_moved (k * 3) i t.p t.q three.first (omega (arith, a.number, c)) three.is_first;
              is_right = three.is_second;
              is_other = three.is_third;
              at = ap (slice_get xs) (let n : i ≡ k * 3 = omega (arith, a.number, c) in n) ∙ three.at_first;
            }
            at_corner (inr (inl (q, c))) = record {
              k = k;
              t = t;
              left = three.second;
              right = three.third;
              other = three.first;
              from = t.q;
              to = t.r;
              third = t.p;
              one = k * 3 + 2;
              two = k * 3;
              found = a.found;
              there = a.is;
              ends = q;
              apex_is = second_third t (below_differs t.p t.q numbers.least);
              is_left = corner_moved (k * 3 + 1) i t.q t.r three.second (omega (arith, a.number, c)) three.is_second;
              is_right = three.is_third;
              is_other = three.is_first;
              at = ap (slice_get xs) (let n : i ≡ k * 3 + 1 = omega (arith, a.number, c) in n) ∙ three.at_second;
            }
            at_corner (inr (inr (q, c))) = record {
              k = k;
              t = t;
              left = three.third;
              right = three.first;
              other = three.second;
              from = t.r;
              to = t.p;
              third = t.q;
              one = k * 3;
              two = k * 3 + 1;
              found = a.found;
              there = a.is;
              ends = q;
              apex_is = third_third t (below_differs t.p t.r numbers.least_too) numbers.differ;
              is_left = corner_moved (k * 3 + 2) i t.r t.p three.third (omega (arith, a.number, c)) three.is_third;
              is_right = three.is_first;
              is_other = three.is_second;
              at = ap (slice_get xs) (let n : i ≡ k * 3 + 2 = omega (arith, a.number, c) in n) ∙ three.at_third;
            }

    -- what the kinds say of a way is what the half-edges say
    open_too : (i : ℕ) (kind : EdgeKind) → way_of_kind i kind ≡ (let o : Option ℕ = if is_solid_kind kind then None else Some i in o)
    open_too i Free = refl
    open_too i (Passable s) = refl
    open_too i Solid = refl

    ways_agree : (d : Edge) → way_by_edge ts kinds d ≡ entering ts xs d
    ways_agree d = at (half_edge_number ts d) refl
      where
        via : ℕ → Option ℕ
        via i = option_and_then (way_of_kind i) (slice_get kinds i)

        into : ℕ → Option ℕ
        into i = option_and_then (λ (x : HalfEdge). let o : Option ℕ = if x.solid then None else Some i in o) (slice_get xs i)

        here : (i : ℕ) → half_edge_number ts d ≡ Some i → via i ≡ into i
        here i h = by (found d i h) (known.each d i h)
          where
            by : IsFound d i → (kind : EdgeKind) × (slice_get kinds i ≡ Some kind) × IsEdgeKind p d kind → via i ≡ into i
            by f (kind, is, means) = ap (option_and_then (way_of_kind i)) is ∙ open_too i kind ∙ ap (λ (b : EdgeKind). let o : Option ℕ = if is_solid_kind b then None else Some i in o) (sym (f.is_left.kind ∙ kind_here i kind is))
                ∙ sym (ap (option_and_then (λ (x : HalfEdge). let o : Option ℕ = if x.solid then None else Some i in o)) f.at)

        at : (o : Option ℕ) → half_edge_number ts d ≡ o → way_by_edge ts kinds d ≡ entering ts xs d
        at None h = ap (option_and_then via) h ∙ sym (ap (option_and_then into) h)
        at (Some i) h = ap (option_and_then via) h ∙ here i h ∙ sym (ap (option_and_then into) h)

    solid_means : (e : Edge) (kind : EdgeKind) → IsEdgeKind p e kind → IsTrue (is_solid_kind kind) ↔ IsSolidLine (map_of p) (portal_on e)
    solid_means e Free h = (λ q. absurd (false≢true q), λ s. absurd (h (s.0, s.1, s.2, s.3, sym s.5)))
    solid_means e (Passable s) h = (λ q. absurd (false≢true q), λ s. absurd (h.1 s))
    solid_means e Solid h = (λ q. h, λ s. refl)

    entered_means : (e : Edge) (kind : EdgeKind) → IsEdgeKind p e kind → is_solid_kind kind ≡ false → IsEnteredAt p (portal_on e) (arrival_of kind)
    entered_means e Free h q = h
    entered_means e (Passable s) h q = h.0
    entered_means e Solid h q = absurd (true≢false q)

    same_portal : {a b c d : ℕ} → a ≡ c → b ≡ d → ◌≡◌ {A = Portal} (record { left = a; right = b }) (record { left = c; right = d })
    same_portal e f = cc

    same_edge : {a b c d : ℕ} → a ≡ c → b ≡ d → edge a b ≡ edge c d
    same_edge e f = cc

    half_edge_is : (e : Edge) (i : ℕ) → half_edge_number ts e ≡ Some i → (f : IsFound e i) → IsHalfEdge p ts labels xs e (by_corners f.k (label_of labels f.k) f.left f.right f.other)
    half_edge_is e i h f = record {
      portal = whole;
      triangle = f.found;
      within = slice_get_within ts f.k f.t f.there;
      third = ap (apex ts) whole ∙ third;
      label = refl;
      left_at = f.is_left.at ∙ ap (place (map_of p)) (sym f.is_left.point);
      right_at = f.is_right.at ∙ ap (place (map_of p)) (sym f.is_right.point);
      solid = means.0;
      entered = means.1;
      left_way = f.is_other.way ∙ ways_agree (edge f.from f.third) ∙ ap (entering ts xs) (same_edge (sym f.is_left.point) (sym f.is_other.point));
      right_way = f.is_right.way ∙ ways_agree (edge f.third f.to) ∙ ap (entering ts xs) (same_edge (sym f.is_other.point) (sym f.is_right.point));
    }
      where
        x : HalfEdge
        x = by_corners f.k (label_of labels f.k) f.left f.right f.other

        whole : portal_into x ≡ portal_on e
        whole = same_portal f.is_left.point f.is_right.point ∙ ap portal_on (sym f.ends)

        third : apex ts (portal_on e) ≡ Some f.other.point
        third = ap (λ (o : Option ℕ). option_map (third_point e) (option_and_then (slice_get ts) o)) f.found ∙ ap (option_map (third_point e)) f.there ∙ ap (λ (n : ℕ). let o : Option ℕ = Some n in o) (ap (λ (d : Edge). third_point d f.t) f.ends ∙ f.apex_is ∙ sym f.is_other.point)

        means : (IsTrue (is_solid_kind f.left.kind) ↔ IsSolidLine (map_of p) (portal_into x)) × (is_solid_kind f.left.kind ≡ false → IsEnteredAt p (portal_into x) (arrival_of f.left.kind))
        means = by (known.each e i h)
          where
            by : (kind : EdgeKind) × (slice_get kinds i ≡ Some kind) × IsEdgeKind p e kind → (IsTrue (is_solid_kind f.left.kind) ↔ IsSolidLine (map_of p) (portal_into x)) × (is_solid_kind f.left.kind ≡ false → IsEnteredAt p (portal_into x) (arrival_of f.left.kind))
            by (kind, is, means) = subst (λ (q : Portal). (IsTrue (is_solid_kind f.left.kind) ↔ IsSolidLine (map_of p) q) × (is_solid_kind f.left.kind ≡ false → IsEnteredAt p q (arrival_of f.left.kind))) (sym whole)
                (subst (λ (b : EdgeKind). (IsTrue (is_solid_kind b) ↔ IsSolidLine (map_of p) (portal_on e)) × (is_solid_kind b ≡ false → IsEnteredAt p (portal_on e) (arrival_of b))) (sym (f.is_left.kind ∙ kind_here i kind is)) (solid_means e kind means, entered_means e kind means))

    pub edges_all : AreHalfEdges p ts labels xs
    edges_all = record {
      len = below.len;
      each = λ e i h. let f = found e i h in (by_corners f.k (label_of labels f.k) f.left f.right f.other, f.at, half_edge_is e i h f);
    }

pub edges_end : (p : PlanParts) (ts : List Triangle) (labels : List (Option ℕ)) (kinds : List EdgeKind) (points : ℕ) → AreTriangles points ts → AreKinds p ts kinds → (n : ℕ) (us : List Triangle) (xs : List HalfEdge) → us ≡ ts → n ≡ length us → EdgesBelow p ts labels kinds n xs → AreHalfEdges p ts labels xs
edges_end p ts labels kinds points all known n us xs e l f = edges_all p ts labels kinds points all known xs (subst (λ (k : ℕ). EdgesBelow p ts labels kinds k xs) (l ∙ ap length e) f)

-- ---- one corner

pub place_made : (p : PlanParts) (points : List Pt) (at : Pt) (from : ℕ) → IsPlan p → points ≡ p.points → at ≡ slice_index_or points from origin → at ≡ place (map_of p) from
place_made p points at from is e h = h ∙ ap (λ (ps : List Pt). slice_index_or ps from origin) (e ∙ sym (plan_points p is))
