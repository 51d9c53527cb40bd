-- CrossedEdges, walls and steps of the walk along a ray.
use Rattle.std.proofs.Common.{◌≡◌, ℕ, ◌⊎◌, inl, inr, List, [], ◌∷◌, ◌++◌, ◌+◌, length, length-append, slice_get, Option, Some, None, Bool, true, false, not, IsTrue, refl, sym, ◌∙◌, ap, subst, option_map, option_and_then, ℤ, pos, ◌<ℤ◌, ◌&&◌, ap₂, eq-eqb, true≢false}
use lib.Dec.{eqb}
use Rattle.std.proofs.lemmas.Option.{none-some}
use Rattle.sight_names.specs.declared.names.Pt.{Pt}
use Rattle.sight_names.specs.declared.names.Side.{Side}
use Rattle.sight_names.specs.declared.names.Ray.{Ray}
use Rattle.sight_names.specs.declared.names.Triangle.{Triangle}
use Rattle.sight_names.specs.declared.plan.Line.{Line}
use Rattle.sight_names.specs.declared.faults.TraceFault.{TraceFault}
use Rattle.sight_names.specs.declared.faults.TraceFault.TheVariants.{BadRay, HitsSolid, HitsPoint, Memory}
use Rattle.sight_names.specs.Point.{point_of}
use Rattle.sight_names.specs.Map.{Map, MapLine, line_at, map_of, looked_up, named}
use Rattle.sight_names.specs.Plan.{PlanParts, IsPlan}
use Rattle.sight_names.specs.Points.{Edge, place, line_edge, reverse_of}
use Rattle.sight_names.specs.Mesh.{side_edge, triangle_at}
use Rattle.sight_names.specs.Ray.{IsSightRay, SplitsLine, ray_value}
use Rattle.sight_names.specs.Sequence.{Portal, entry_edge, root_portal, apex}
use Rattle.sight_names.specs.Sequence.Way.{Left, Right}
use Rattle.sight_names.proofs.PlanMap.{line_of_plan}
use Rattle.sight_names.proofs.PlanNumbers.{line_edge_of_plan, place_of_plan}
use Rattle.mesh_base.proofs.SightLaws.Plans.{line_there, no_line_there}
use Rattle.geom_exact.specs.Formulas.{side_value}
use Rattle.sight_ray.specs.RayFault.{RaySplitsSide, IsRayBlocked}
use Rattle.sight_ray.specs.declared.ray_trace.CrossedEdge.{CrossedEdge}
use Rattle.sight_ray.specs.RayTrace.CrossedEdges.{portal_crossed}
use Rattle.sight_ray.specs.RayTrace.Trace.{CrossesPortal, IsFirstPortal, IsLastPortal, IsPortalOpen, IsTraceFault, IsTraceable, IsTipFault, IsSolidPortal, IsWallFault, IsWayOut, Walked}
use Rattle.sight_ray.specs.RayTrace.Trace.Walked.{begun, stepped}
use Rattle.math_base.proofs.Options.{is_there, one_value}
use Rattle.sight_names.proofs.Records.{edge_of_numbers}

-- ---- the line of a record
some_some : (o : Option (Option Line)) (k : Line) → Some k ≡ option_and_then (λ k. k) o → o ≡ Some (Some k)
some_some None k e = absurd (none-some k (sym e))
some_some (Some None) k e = absurd (none-some k (sym e))
some_some (Some (Some j)) k e = cc

edge_there : (p : PlanParts) → IsPlan p → (i : ℕ) (k : Line) → Some k ≡ option_and_then (λ k. k) (slice_get p.lines i) → line_edge (map_of p) (looked_up p.points k) ≡ record { from = k.a; to = k.b }
edge_there p h i k e = line_edge_of_plan p h i k (some_some (slice_get p.lines i) k e)

-- ---- crossed edges
abbrev portal_out : Map → Bool → MapLine → Portal
portal_out m left l = let e = side_edge m l (not left) in record { left = e.from; right = e.to }

root_is : (m : Map) (s : Side) → root_portal m s ≡ option_map (portal_out m s.left) (line_at m s.line)
root_is m s = refl

abbrev pub crossed_edge_of : Bool → Line → Portal
crossed_edge_of true k = record { left = k.b; right = k.a }
crossed_edge_of false k = record { left = k.a; right = k.b }

crossed_edge_is_edge : (m : Map) (l : MapLine) (k : Line) (left : Bool) → line_edge m l ≡ record { from = k.a; to = k.b } → portal_out m left l ≡ crossed_edge_of left k
crossed_edge_is_edge m l k true e = ap (λ (d : Edge). let q : Portal = record { left = d.to; right = d.from } in q) e
crossed_edge_is_edge m l k false e = ap (λ (d : Edge). let q : Portal = record { left = d.from; right = d.to } in q) e

pub crossed_edge_there : (p : PlanParts) → IsPlan p → (s : Side) (k : Line) (left : Bool) → s.left ≡ left → Some k ≡ option_and_then (λ k. k) (slice_get p.lines s.line) → root_portal (map_of p) s ≡ Some (crossed_edge_of left k)
crossed_edge_there p h s k left f e =
    root_is (map_of p) s
    ∙ ap (option_map (portal_out (map_of p) s.left)) (line_there p s.line k e)
    ∙ ap (λ (q : Portal). Some q) (crossed_edge_is_edge (map_of p) (looked_up p.points k) k s.left (edge_there p h s.line k e))
    ∙ ap (λ (b : Bool). Some (crossed_edge_of b k)) f

-- ---- the ray crosses its first crossed edge
ends_placed : (p : PlanParts) → IsPlan p → (i : ℕ) (l : MapLine) → line_at (map_of p) i ≡ Some l → (place (map_of p) (line_edge (map_of p) l).from ≡ l.first) × (place (map_of p) (line_edge (map_of p) l).to ≡ l.second)
ends_placed p h i l e =
    let k = line_of_plan p.points p.lines i l e in
    let le = line_edge_of_plan p h i k.0 k.1 in
    subst (λ (x : MapLine). (place (map_of p) (line_edge (map_of p) x).from ≡ x.first) × (place (map_of p) (line_edge (map_of p) x).to ≡ x.second)) k.2
    ((ap (λ (d : Edge). place (map_of p) d.from) le ∙ place_of_plan p h k.0.a), (ap (λ (d : Edge). place (map_of p) d.to) le ∙ place_of_plan p h k.0.b))

crossed_out : (p : PlanParts) → IsPlan p → (r : Ray) (i : ℕ) (left : Bool) (l : MapLine) → line_at (map_of p) i ≡ Some l → SplitsLine r l (not left) → CrossesPortal (map_of p) r (portal_out (map_of p) left l)
crossed_out p h r i true l e s =
    let q = ends_placed p h i l e in
    record { left = subst (λ (v : Pt). pos 0 <ℤ ray_value r (point_of v)) (sym q.1) s.1; right = subst (λ (v : Pt). ray_value r (point_of v) <ℤ pos 0) (sym q.0) s.0 }
crossed_out p h r i false l e s =
    let q = ends_placed p h i l e in
    record { left = subst (λ (v : Pt). pos 0 <ℤ ray_value r (point_of v)) (sym q.0) s.0; right = subst (λ (v : Pt). ray_value r (point_of v) <ℤ pos 0) (sym q.1) s.1 }

pub first_crossed : (p : PlanParts) → IsPlan p → (r : Ray) (q : Portal) → root_portal (map_of p) r.first ≡ Some q → RaySplitsSide (map_of p) r r.first (not r.first.left) → CrossesPortal (map_of p) r q
first_crossed p h r q e s = subst (CrossesPortal (map_of p) r) (same (sym (root_is (map_of p) r.first ∙ ap (option_map (portal_out (map_of p) r.first.left)) s.is) ∙ e)) (crossed_out p h r r.first.line r.first.left s.line s.is s.ends)
  where
    same : Some (portal_out (map_of p) r.first.left s.line) ≡ Some q → portal_out (map_of p) r.first.left s.line ≡ q
    same g = cc

-- ---- walls
abbrev pub Joins : Line → CrossedEdge → Type 0
Joins k g = ((k.a ≡ g.left) × (k.b ≡ g.right)) ⊎ ((k.a ≡ g.right) × (k.b ≡ g.left))

pub wall_there : (p : PlanParts) → IsPlan p → (i : ℕ) (k : Line) → Some k ≡ option_and_then (λ k. k) (slice_get p.lines i) → (g : CrossedEdge) → IsTrue k.solid → Joins k g → IsSolidPortal (map_of p) (portal_crossed g) i
wall_there p h i k e g s (inl j) = record {
  line = looked_up p.points k;
  is = line_there p i k e;
  solid = s;
  left = true;
  edge = edge_there p h i k e ∙ edge_of_numbers k.a k.b g.left g.right j.0 j.1;
}
wall_there p h i k e g s (inr j) = record {
  line = looked_up p.points k;
  is = line_there p i k e;
  solid = s;
  left = false;
  edge = ap reverse_of (edge_there p h i k e) ∙ edge_of_numbers k.b k.a g.left g.right j.1 j.0;
}

edge_joins : (m : Map) (l : MapLine) (k : Line) (g : CrossedEdge) (left : Bool) → line_edge m l ≡ record { from = k.a; to = k.b } → side_edge m l left ≡ entry_edge (portal_crossed g) → Joins k g
edge_joins m l k g true e f = inl ((ap (λ (d : Edge). d.from) (sym e ∙ f)), (ap (λ (d : Edge). d.to) (sym e ∙ f)))
edge_joins m l k g false e f = inr ((ap (λ (d : Edge). d.to) (ap reverse_of (sym e) ∙ f)), (ap (λ (d : Edge). d.from) (ap reverse_of (sym e) ∙ f)))

pub wall_joins : (p : PlanParts) → IsPlan p → (i : ℕ) (k : Line) → Some k ≡ option_and_then (λ k. k) (slice_get p.lines i) → (g : CrossedEdge) → IsSolidPortal (map_of p) (portal_crossed g) i → IsTrue k.solid × Joins k g
wall_joins p h i k e g w =
    let same = one_value (line_at (map_of p) i) w.line (looked_up p.points k) w.is (line_there p i k e) in (
      subst (λ (l : MapLine). IsTrue l.solid) same w.solid,
      edge_joins (map_of p) (looked_up p.points k) k g w.left (edge_there p h i k e) (subst (λ (l : MapLine). side_edge (map_of p) l w.left ≡ entry_edge (portal_crossed g)) same w.edge),
    )

pub no_wall : (p : PlanParts) (i : ℕ) → ◌≡◌ {A = Option Line} None (option_and_then (λ k. k) (slice_get p.lines i)) → (q : Portal) → ¬ IsSolidPortal (map_of p) q i
no_wall p i e q w = none-some w.line (sym (no_line_there p i e) ∙ w.is)

-- ---- ways out
side_value_is : (r : Ray) (v : Pt) → side_value r v ≡ ray_value r (point_of v)
unfolding side_value
side_value_is r v = refl

pub tip_value : (m : Map) (r : Ray) (tip : ℕ) (v : Pt) (s : ℤ) → s ≡ side_value r v → v ≡ place m tip → s ≡ ray_value r (point_of (place m tip))
tip_value m r tip v s e f = e ∙ side_value_is r v ∙ ap (λ (u : Pt). ray_value r (point_of u)) f

pub out_right : (m : Map) (ts : List Triangle) (r : Ray) (p : Portal) (tip : ℕ) (s : ℤ) → apex ts p ≡ Some tip → s ≡ ray_value r (point_of (place m tip)) → pos 0 <ℤ s → CrossesPortal m r p → IsWayOut m ts r p (record { left = tip; right = p.right })
out_right m ts r p tip s e f h c = record {
  tip = tip;
  third = e;
  way = Right;
  out = refl;
  crossed = record { left = subst (λ (v : ℤ). pos 0 <ℤ v) f h; right = c.right };
}

pub out_left : (m : Map) (ts : List Triangle) (r : Ray) (p : Portal) (tip : ℕ) (s : ℤ) → apex ts p ≡ Some tip → s ≡ ray_value r (point_of (place m tip)) → s <ℤ pos 0 → CrossesPortal m r p → IsWayOut m ts r p (record { left = p.left; right = tip })
out_left m ts r p tip s e f h c = record {
  tip = tip;
  third = e;
  way = Left;
  out = refl;
  crossed = record { left = c.left; right = subst (λ (v : ℤ). v <ℤ pos 0) f h };
}

-- ---- a ray without a fault but Blocked

pub traceable_sight : (m : Map) (r : Ray) (a b : ℕ) → IsSightRay m r a b → IsTraceable m r
traceable_sight m r a b h = (
  h.start,
  h.stop,
  record {
    names = record { range = h.range; from = is_there (named m r.first) a h.from; to = is_there (named m r.last) b h.to };
    leaves = record { line = h.first; is = h.is_first; ends = h.leaves };
    arrives = record { line = h.last; is = h.is_last; ends = h.arrives };
    starts = record { line = h.first; is = h.is_first; crossing = h.starts };
    stops = record { line = h.last; is = h.is_last; crossing = h.stops };
  },
  h.forward,
)

pub traceable_blocked : (m : Map) (r : Ray) (number : ℕ) → IsRayBlocked m r number → IsTraceable m r
traceable_blocked m r number h = (h.start, h.stop, h.crossings, h.forward)

-- ---- the walk
pub step_on : (m : Map) (ts : List Triangle) (r : Ray) (p q : Portal) (ks : List ℕ) (k : ℕ) → Walked m ts r p ks → ¬ IsLastPortal m r p → IsPortalOpen m p → triangle_at ts (entry_edge p) ≡ Some k → IsWayOut m ts r p q → Walked m ts r q (ks ++ (k ∷ []))
step_on m ts r p q ks k w n o e h = stepped p ks k w n (record { passable = o; behind = e; tip = h.tip; third = h.third; way = h.way; out = h.out; crossed = h.crossed }) refl

pub meets_wall : (m : Map) (ts : List Triangle) (r : Ray) (p : Portal) (ks : List ℕ) (f : TraceFault) → Walked m ts r p ks → IsWallFault m p f → IsTraceFault m ts r f
meets_wall m ts r p ks (BadRay x) w h = absurd h
meets_wall m ts r p ks (HitsSolid n) w h = record { portal = p; before = ks; walked = w; wall = h.0; least = h.1 }
meets_wall m ts r p ks (HitsPoint n) w h = absurd h
meets_wall m ts r p ks (Memory _) w h = absurd h

pub meets_tip : (m : Map) (ts : List Triangle) (r : Ray) (p : Portal) (ks : List ℕ) (f : TraceFault) → Walked m ts r p ks → ¬ IsLastPortal m r p → IsPortalOpen m p → IsTipFault m ts r p f → IsTraceFault m ts r f
meets_tip m ts r p ks (BadRay x) w n o h = absurd h
meets_tip m ts r p ks (HitsSolid x) w n o h = absurd h
meets_tip m ts r p ks (HitsPoint x) w n o h = record { portal = p; before = ks; walked = w; passable = o; goes_on = n; third = h.0; straight = h.1 }
meets_tip m ts r p ks (Memory _) w n o h = absurd h

-- another crossed edge isn't the last one
pub not_last : (m : Map) (r : Ray) (g last : CrossedEdge) → IsLastPortal m r (portal_crossed last) → ¬ (g ≡ last) → ¬ IsLastPortal m r (portal_crossed g)
not_last m r g last e n f = n (ap (λ (q : Portal). let h : CrossedEdge = record { left = q.left; right = q.right } in h) (same (sym f ∙ e)))
  where
    same : Some (portal_crossed g) ≡ Some (portal_crossed last) → portal_crossed g ≡ portal_crossed last
    same d = cc

-- the walk begins in the triangle at the side first
pub walk_begun : (m : Map) (ts : List Triangle) (r : Ray) (p : Portal) (d : Edge) (ks : List ℕ) (k : ℕ) → IsTraceable m r → IsFirstPortal m r p → d ≡ reverse_of (entry_edge p) → triangle_at ts d ≡ Some k → ks ≡ k ∷ [] → Walked m ts r p ks
walk_begun m ts r p d ks k t f e h g = begun k t f (ap (triangle_at ts) (sym e) ∙ h) g

pub step_to : (m : Map) (ts : List Triangle) (r : Ray) (p q : Portal) (js ks : List ℕ) (k : ℕ) → Walked m ts r p js → ¬ IsLastPortal m r p → IsPortalOpen m p → triangle_at ts (entry_edge p) ≡ Some k → IsWayOut m ts r p q → ks ≡ js ++ (k ∷ []) → Walked m ts r q ks
step_to m ts r p q js ks k w n o e h g = subst (Walked m ts r q) (sym g) (step_on m ts r p q js k w n o e h)

pub crossed_edges_differ : (g h : CrossedEdge) → false ≡ (eqb g.left h.left && eqb g.right h.right) → ¬ (g ≡ h)
crossed_edges_differ g h e f =
    let a = eq-eqb g.left h.left (ap (λ (x : CrossedEdge). x.left) f) in
    let b = eq-eqb g.right h.right (ap (λ (x : CrossedEdge). x.right) f) in
    true≢false (sym (e ∙ ap₂ (λ (x y : Bool). x && y) a b))

-- a list with one more
pub count_push : (xs ys : List ℕ) (k n : ℕ) → ys ≡ xs ++ (k ∷ []) → length xs ≡ n → length ys ≡ n + 1
count_push xs ys k n e h = ap (λ (zs : List ℕ). length zs) e ∙ length-append xs (k ∷ []) ∙ ap (λ (j : ℕ). j + 1) h
