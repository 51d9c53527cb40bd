-- The half-edge behind a portal is one by which one comes in; where there is none, the portal is closed.
use Rattle.std.proofs.Common.{◌≡◌, ◌≢◌, ℕ, ◌+◌, ◌*◌, ◌<◌, inl, inr, List, Option, Some, None, Bool, true, false, IsSome, length, option_and_then, option_map, option_copied, slice_get, refl, sym, ap, ◌∙◌, subst, true≢false, Bor, arith}
use Rattle.std.specs.Prelude.{if◌then◌else◌}
use Rattle.std.proofs.lemmas.Option.{none-some, same_Some}
use Rattle.sight_names.specs.declared.names.Triangle.{Triangle}
use Rattle.sight_names.specs.Map.{map_of}
use Rattle.sight_names.specs.Mesh.{triangle_at, AreTriangles, IsGoodMesh}
use Rattle.sight_names.specs.Plan.{PlanParts, IsPlan}
use Rattle.sight_names.specs.Points.{Edge, place}
use Rattle.sight_names.specs.Sequence.{Portal, IsSolidLine, entry_edge, names_it}
use Rattle.sight_names.proofs.PlanMap.{points_differ}
use Rattle.sight_names.proofs.PlanNumbers.{count_of_plan, place_of_plan}
use Rattle.mesh_shape.specs.declared.half_edges.table.HalfEdge.{HalfEdge}
use Rattle.mesh_shape.specs.HalfEdges.HalfEdges.{IsHalfEdge, entering, portal_into, way_outside}
use Rattle.mesh_shape.specs.HalfEdges.Numbers.{corner_of, half_edge_number}
use Rattle.portal_walk.specs.declared.scene.Way.{Way as WayOut}
use Rattle.portal_walk.specs.declared.scene.Way.TheVariants.{Left, Right}
use Rattle.portal_walk.specs.Scene.{SceneParts, IsScene, IsNumber, IsEntry, IsWayClosed, Finds, FindsWay, behind, exit_of}
use Rattle.portal_walk.proofs.EdgeEnds.{edge_ends}
use Rattle.portal_walk.proofs.SideLines.{arrives}
use Rattle.math_base.proofs.Lists.{get_there}
use Rattle.sight_names.proofs.Roots.{names_true}
use Rattle.sight_names.proofs.Portals.{triangle_within}

-- ---- numbers

no_triangle : (ts : List Triangle) (e : Edge) → ((k : ℕ) → triangle_at ts e ≡ Some k → k < length ts) → half_edge_number ts e ≡ None → triangle_at ts e ≡ None
no_triangle ts e within h = go (triangle_at ts e) refl
  where
    go : (o : Option ℕ) → triangle_at ts e ≡ o → triangle_at ts e ≡ None
    go None at = at
    go (Some k) at = absurd (there (slice_get ts k) refl)
      where
        there : (t : Option Triangle) → slice_get ts k ≡ t → ⊥
        there None f = absent ts k (within k at) f
          where
            absent : {X : Type 0} (xs : List X) (k : ℕ) → k < length xs → slice_get xs k ≡ None → ⊥
            absent xs k l f = let s = get_there xs k l in none-some s.0 (sym f ∙ s.1)
        there (Some t) f = none-some (k * 3 + corner_of e t) (sym h ∙ ap (option_and_then (λ (j : ℕ). option_map (λ (u : Triangle). j * 3 + corner_of e u) (slice_get ts j))) at ∙ ap (option_map (λ (u : Triangle). k * 3 + corner_of e u)) f)

entering_none : (ts : List Triangle) (xs : List HalfEdge) (e : Edge) → half_edge_number ts e ≡ None → entering ts xs e ≡ None
entering_none ts xs e h = ap (option_and_then (λ (i : ℕ). option_and_then (λ (x : HalfEdge). if x.solid then None else Some i) (slice_get xs i))) h

entering_some : (ts : List Triangle) (xs : List HalfEdge) (e : Edge) (i : ℕ) (x : HalfEdge) → half_edge_number ts e ≡ Some i → slice_get xs i ≡ Some x → entering ts xs e ≡ (if x.solid then None else Some i)
entering_some ts xs e i x h at = ap (option_and_then (λ (i : ℕ). option_and_then (λ (x : HalfEdge). if x.solid then None else Some i) (slice_get xs i))) h ∙ ap (option_and_then (λ (x : HalfEdge). if x.solid then None else Some i)) at

pub outside_some : (xs : List HalfEdge) (source i : ℕ) (x : HalfEdge) → slice_get xs i ≡ Some x → way_outside xs source (Some i) ≡ (if names_it x.sector source then None else Some i)
outside_some xs source i x at = ap (option_and_then (λ (x : HalfEdge). if names_it x.sector source then None else Some i)) at

-- ---- one half-edge

not_named : (o : Option ℕ) (a : ℕ) → names_it o a ≡ false → o ≢ Some a
not_named o a h e = true≢false (sym (itself a) ∙ ap (λ (x : Option ℕ). names_it x a) (sym e) ∙ h)
  where
    itself : (a : ℕ) → names_it (Some a) a ≡ true
    itself a = grind arith

-- the ends of a half-edge are different points
proper_ends : (p : PlanParts) → IsPlan p → (ts : List Triangle) (ls : List (Option ℕ)) → IsGoodMesh (map_of p) ts ls → (xs : List HalfEdge) (e : Edge) (x : HalfEdge) → IsHalfEdge p ts ls xs e x → x.left_at ≢ x.right_at
proper_ends p is ts ls good xs e x h same =
    let ends = edge_ends (length p.points) ts e.from e.to x.triangle (subst (λ (n : ℕ). AreTriangles n ts) (count_of_plan p is) good.plain.triangles) h.triangle in
    let left : x.left ≡ e.from = ap (λ (d : Portal). d.left) h.portal in
    let right : x.right ≡ e.to = ap (λ (d : Portal). d.right) h.portal in
    points_differ p is e.from e.to ends.0 ends.1 ends.2
    (sym (place_of_plan p is e.from) ∙ ap (place (map_of p)) (sym left) ∙ sym h.left_at ∙ same ∙ h.right_at ∙ ap (place (map_of p)) right ∙ place_of_plan p is e.to)

entry_of : (s : SceneParts) → IsScene s → (e : Edge) (x : HalfEdge) → IsHalfEdge s.plan s.mesh.triangles s.labels s.edges e x → x.solid ≡ false → names_it x.sector s.source ≡ false → IsEntry s.plan s.mesh.triangles s.labels s.source x
entry_of s i e x h free apart =
    let at : triangle_at s.mesh.triangles (entry_edge (portal_into x)) ≡ Some x.triangle = ap (λ (d : Portal). triangle_at s.mesh.triangles (entry_edge d)) h.portal ∙ h.triangle in
    let entered = h.entered free in
    record {
      triangle = at;
      within = h.within;
      outside = λ same. not_named x.sector s.source apart (sym h.label ∙ same);
      third = h.third;
      left_at = h.left_at;
      right_at = h.right_at;
      proper = proper_ends s.plan i.rules s.mesh.triangles s.labels i.good s.edges e x h;
      entered = entered;
      arrives = arrives s.plan i.rules s.mesh.triangles s.labels i.good (portal_into x) x.triangle x.entered entered at;
    }

-- ---- what is behind a portal

pub found_behind : (s : SceneParts) → IsScene s → (d : Portal) (found : Option ℕ) → found ≡ way_outside s.edges s.source (entering s.mesh.triangles s.edges (entry_edge d)) → Finds s d found
found_behind s i d found is = go (half_edge_number ts e) refl
  where
    ts : List Triangle
    ts = s.mesh.triangles

    e : Edge
    e = entry_edge d

    on : Option ℕ → Option ℕ
    on way = way_outside s.edges s.source way

    closed : IsWayClosed s d → found ≡ None → Finds s d found
    closed h none = subst (Finds s d) (sym none) h

    go : (o : Option ℕ) → half_edge_number ts e ≡ o → Finds s d found
    go None h = closed (inl (no_triangle ts e (λ k at. triangle_within ts e k at) h)) (is ∙ ap on (entering_none ts s.edges e h))
    go (Some n) h =
        let there = i.edges.each e n h in
        let x : HalfEdge = there.0 in
        by_kind x there.1 there.2 x.solid refl
      where
        by_kind : (x : HalfEdge) → slice_get s.edges n ≡ Some x → IsHalfEdge s.plan ts s.labels s.edges e x → (solid : Bool) → x.solid ≡ solid → Finds s d found
        by_kind x at half true solid = closed (inr (inr (subst (IsSolidLine (map_of s.plan)) half.portal (half.solid.0 solid)))) (is ∙ ap on (entering_some ts s.edges e n x h at) ∙ ap (λ (b : Bool). on (if b then None else Some n)) solid)
        by_kind x at half false free = by_sector (names_it x.sector s.source) refl
          where
            behind_is : found ≡ (if names_it x.sector s.source then None else Some n)
            behind_is = is ∙ ap on (entering_some ts s.edges e n x h at) ∙ ap (λ (b : Bool). on (if b then None else Some n)) free ∙ outside_some s.edges s.source n x at

            by_sector : (b : Bool) → names_it x.sector s.source ≡ b → Finds s d found
            by_sector true own = closed (inr (inl (x.triangle, half.triangle, half.label ∙ names_true x.sector s.source own))) (behind_is ∙ ap (λ (b : Bool). if b then None else Some n) own)
            by_sector false apart = subst (Finds s d) (sym (behind_is ∙ ap (λ (b : Bool). if b then None else Some n) apart)) (record {
              edge = x;
              there = at;
              number = h;
              portal = half.portal;
              entry = entry_of s i e x half free apart;
            })

-- ---- ways out

-- the half-edge that stands where a half-edge has its number
pub numbered : (s : SceneParts) → IsScene s → (k : ℕ) → IsNumber s.mesh.triangles k → (x : HalfEdge) × (slice_get s.edges k ≡ Some x)
numbered s i k (e, h) = let there = i.edges.each e k h in (there.0, there.1)

way_behind : (s : SceneParts) (e : Edge) (x : HalfEdge) (way : WayOut) → IsHalfEdge s.plan s.mesh.triangles s.labels s.edges e x → behind x way ≡ entering s.mesh.triangles s.edges (entry_edge (exit_of x way))
way_behind s e x Left h = h.left_way
way_behind s e x Right h = h.right_way

pub found_on : (s : SceneParts) → IsScene s → (from : ℕ) → IsNumber s.mesh.triangles from → (x : HalfEdge) → slice_get s.edges from ≡ Some x → (way : WayOut) (found : Option ℕ) → found ≡ way_outside s.edges s.source (behind x way) → FindsWay s from way found
found_on s i from (e, number) x at way found is = λ y here.
    let there = i.edges.each e from number in
    let same : there.0 ≡ y = same_Some there.0 y (sym there.1 ∙ here) in
    let same_x : x ≡ there.0 = same_Some x there.0 (sym at ∙ there.1) in
    let half : IsHalfEdge s.plan s.mesh.triangles s.labels s.edges e y = subst (IsHalfEdge s.plan s.mesh.triangles s.labels s.edges e) same there.2 in
    found_behind s i (exit_of y way) found (is ∙ ap (λ (z : HalfEdge). way_outside s.edges s.source (behind z way)) (same_x ∙ same) ∙ ap (way_outside s.edges s.source) (way_behind s e y way half))

-- what a number gives is there
pub copied_there : (o : Option (Bor HalfEdge)) (x : HalfEdge) → option_copied o ≡ Some x → IsSome o
copied_there None x e = absurd (none-some x e)
copied_there (Some r) x e = refl
