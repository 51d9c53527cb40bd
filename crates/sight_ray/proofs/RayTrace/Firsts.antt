-- The laws: what a traced ray meets comes first.
use Rattle.std.proofs.Common.{Result, Ok, Err, MatchResult, ◌≡◌, ℕ, inl, inr, pos, ◌*ℤ◌, List, Option, Some, None, not, IsSome, refl, sym, ap, ◌∙◌, subst, arith, option_map}
use borrow.Author.Differences.{ints}
use Rattle.std.proofs.lemmas.Option.{same_Some}
use Rattle.math_base.proofs.Signs.{le_or_lt}
use Rattle.sight_names.specs.declared.names.Ray.{Ray}
use Rattle.sight_names.specs.declared.names.Triangle.{Triangle}
use Rattle.sight_names.specs.Point.{Point, OnSegment, point_of}
use Rattle.sight_names.specs.Map.{Map, MapLine, IsMap, named}
use Rattle.sight_names.specs.Points.{place}
use Rattle.sight_names.specs.Mesh.{IsGoodMesh, side_edge}
use Rattle.sight_names.specs.Ray.{IsCrossing, ray_value}
use Rattle.sight_names.specs.Sequence.{Portal, entry_edge, root_portal, IsSolidLine}
use Rattle.plane_base.proofs.Vec.{V, at, On}
use Rattle.mesh_base.proofs.SightLaws.Bridge.{vec, value_at_is, on_of_segment, segment_of_on}
use Rattle.mesh_base.proofs.SightLaws.Paths.{point_at}
use Rattle.mesh_base.proofs.SightLaws.Places.{ahead, NotAfter, between, on_line, not_before_start, not_after_stop}
use Rattle.mesh_base.proofs.GoodMesh.{PointFacts, pv}
use Rattle.mesh_base.proofs.MapFacts.{map_facts}
use Rattle.plane_base.proofs.Linear.{linear}
use Rattle.mesh_base.proofs.SightLaws.Crossings.{crossing_on, after, crossing_in, deep_at, not_after_chain}
use Rattle.sight_lift.proofs.Behind.{behind}
use Rattle.mesh_base.proofs.SightLaws.Rays.{split_inside}
use Rattle.sight_lift.proofs.RayOf.{splits_side}
use Rattle.sight_lift.proofs.Stroll.{portal_on}
use Rattle.sight_lift.proofs.Pieces.{cross_d, direction}
use Rattle.sight_ray.specs.RayTrace.Trace.{IsTrace, IsTraceFault, IsPortalOpen, opposite}
use Rattle.sight_names.specs.declared.faults.TraceFault.{TraceFault}
use Rattle.sight_names.specs.declared.faults.TraceFault.TheVariants.{BadRay, HitsSolid, HitsPoint, Memory}
use Rattle.sight_ray.specs.RayTrace.First.{IsInTheWay, ComesFirst, IsRayClear, IsFirstTraceFault, TracedIsClear, WallComesFirst, PointComesFirst}
use Rattle.sight_ray.proofs.RayTrace.Progress.{Progress, progress, form, cross, InTheWay, deep_clear, deep_tip, at_start, at_the_crossing, stop_crossing, forward_is, forward_back, ends_here}
use Rattle.math_base.proofs.Bools.{not_not}
use Rattle.sight_names.proofs.Portals.{scale_above}

in_the_way : (m : Map) (is_map : IsMap m) (facts : PointFacts m) (ts : List Triangle) (ls : List (Option ℕ)) (good : IsGoodMesh m ts ls) (r : Ray) (z : Point) → IsInTheWay m z → InTheWay m is_map facts ts ls good r (vec z)
in_the_way m is_map facts ts ls good r z (inl (i, l, is, solid, on)) = inl (i, l, is, solid, on_of_segment (point_of l.first) (point_of l.second) z on)
in_the_way m is_map facts ts ls good r z (inr (k, lt, same)) = inr (k, lt, (sym same.x, sym same.y))

some_name : (o : Option ℕ) → IsSome o → (a : ℕ) × (o ≡ Some a)
some_name None h = absurd (no h)
  where
    no : (let n : Option ℕ = None in IsSome n) → ⊥
    no h = cc
some_name (Some a) h = (a, refl)

module _ (m : Map) (is_map : IsMap m) (ts : List Triangle) (ls : List (Option ℕ)) (good : IsGoodMesh m ts ls) (r : Ray) (q : Portal) (h : Progress m is_map (map_facts m is_map) ts ls good r q) where
  facts : PointFacts m
  facts = map_facts m is_map

  -- the stretch in order
  started : NotAfter (form m is_map (map_facts m is_map) ts ls good r) (cross m is_map (map_facts m is_map) ts ls good r h.first) (vec h.start) × NotAfter (form m is_map (map_facts m is_map) ts ls good r) (vec h.start) (cross m is_map (map_facts m is_map) ts ls good r h.first)
  started = at_start m is_map (map_facts m is_map) ts ls good r h.start h.stop h.crossings h.first h.first_edge h.first_cut

  start_zero : at (form m is_map (map_facts m is_map) ts ls good r) (vec h.start) ≡ pos 0
  start_zero = sym (value_at_is r.a r.b r.c h.start) ∙ h.crossings.starts.crossing.1

  stop_zero : at (form m is_map (map_facts m is_map) ts ls good r) (vec h.stop) ≡ pos 0
  stop_zero = sym (value_at_is r.a r.b r.c h.stop) ∙ h.crossings.stops.crossing.1

  ordered : NotAfter (form m is_map (map_facts m is_map) ts ls good r) (vec h.start) (vec h.stop)
  ordered = forward_is m is_map (map_facts m is_map) ts ls good r h.start h.stop h.forward

  -- a point of the stretch is on the ray, and not before the first crossing
  pub record OnStretch (z : Point) : Type 0 where
    pub zero : at (form m is_map (map_facts m is_map) ts ls good r) (vec z) ≡ pos 0
    pub after : NotAfter (form m is_map (map_facts m is_map) ts ls good r) (cross m is_map (map_facts m is_map) ts ls good r h.first) (vec z)
    pub before : NotAfter (form m is_map (map_facts m is_map) ts ls good r) (vec z) (vec h.stop)

  pub on_stretch : (z : Point) → OnSegment h.start h.stop z → OnStretch z
  on_stretch z o =
      let v = on_of_segment h.start h.stop z o in record {
        zero = on_line (form m is_map (map_facts m is_map) ts ls good r) (vec h.start) (vec h.stop) (vec z) start_zero stop_zero v;
        after = not_after_chain (form m is_map (map_facts m is_map) ts ls good r) (cross m is_map (map_facts m is_map) ts ls good r h.first) (vec h.start) (vec z) (cross_d m (map_facts m is_map) ts ls good (form m is_map (map_facts m is_map) ts ls good r) h.first h.first_cut) (scale_above h.start) (scale_above z) started.0
            (not_before_start (form m is_map (map_facts m is_map) ts ls good r) (vec h.start) (vec h.stop) (vec z) ordered v);
        before = not_after_stop (form m is_map (map_facts m is_map) ts ls good r) (vec h.start) (vec h.stop) (vec z) ordered v;
      }

  -- back: a point of the ray that is neither before the portal nor behind the end
  pub to_stretch : (x : Point) → at (form m is_map (map_facts m is_map) ts ls good r) (vec x) ≡ pos 0 → NotAfter (form m is_map (map_facts m is_map) ts ls good r) (cross m is_map (map_facts m is_map) ts ls good r q) (vec x) → NotAfter (form m is_map (map_facts m is_map) ts ls good r) (vec x) (vec h.stop) → OnSegment h.start h.stop x
  to_stretch x zero past before =
      let f = form m is_map (map_facts m is_map) ts ls good r in
      let fd = cross_d m (map_facts m is_map) ts ls good f h.first h.first_cut in
      let qd = cross_d m (map_facts m is_map) ts ls good f q h.cut in
      let a = not_after_chain f (vec h.start) (cross m is_map (map_facts m is_map) ts ls good r h.first) (cross m is_map (map_facts m is_map) ts ls good r q) (scale_above h.start) fd qd started.1 h.order in
      segment_of_on h.start h.stop x (between f (vec h.start) (vec h.stop) (vec x) (direction m (map_facts m is_map) ts ls good f q h.cut) (scale_above h.start) (scale_above h.stop) (scale_above x) start_zero stop_zero zero
      (not_after_chain f (vec h.start) (cross m is_map (map_facts m is_map) ts ls good r q) (vec x) (scale_above h.start) qd (scale_above x) a past) before)

open_of : (m : Map) (p : Portal) → IsPortalOpen m p → ¬ IsSolidLine m p
open_of m p h (i, l, left, is, solid, e) = h i (record { line = l; is = is; solid = solid; left = left; edge = e })

pub traced_is_clear : TracedIsClear
traced_is_clear m ts ls r ks is_map good t =
    let facts = map_facts m is_map in
    let q = t.portal in
    let h = progress m is_map facts ts ls good r q t.before t.walked in
    let f = form m is_map facts ts ls good r in
    let wall = open_of m q t.passable in
    let o = h.opens wall in
    let b = behind m ts ls good q o.0 o.2 in
    let l = h.crossings.arrives.line in
    let e = side_edge m l (not (not r.last.left)) in
    let p : Portal = record { left = e.from; right = e.to } in
    let there : root_portal m (opposite r.last) ≡ Some p = ap (option_map (λ (x : MapLine). let d = side_edge m x (not (not r.last.left)) in let y : Portal = record { left = d.from; right = d.to } in y)) h.crossings.arrives.is in
    let same : p ≡ q = same_Some p q (sym there ∙ t.arrives) in
    let edge_q : entry_edge q ≡ side_edge m l r.last.left = ap entry_edge (sym same) ∙ ap (side_edge m l) (not_not r.last.left) in
    let at_stop = at_the_crossing m is_map facts ts ls good r r.last.line l r.last.left q h.stop h.crossings.arrives.is edge_q (stop_crossing m is_map facts ts ls good r h.start h.stop h.crossings) h.cut in
    let none : (z : Point) → OnSegment h.start h.stop z → IsInTheWay m z → ⊥ = λ z s w.
    let v = on_stretch m is_map ts ls good r q h z s in
    let x = in_the_way m is_map facts ts ls good r z w in
    elim (le_or_lt (at (ahead f) (cross m is_map facts ts ls good r q) *ℤ pos z.d) (at (ahead f) (vec z) *ℤ (cross m is_map facts ts ls good r q).d)) as (λ _. ⊥) [
      | inr y ↦ h.clear (vec z) (scale_above z) v.zero v.after y x
      | inl y ↦
          let up = not_after_chain f (vec z) (vec h.stop) (cross m is_map facts ts ls good r q) (scale_above z) (scale_above h.stop) (cross_d m facts ts ls good f q h.cut) v.before at_stop.1 in
          deep_clear m is_map facts ts ls good r q o.0 b.0 o.1 b.1 o.3 wall (vec z) (scale_above z)
          (deep_at f (pv m q.left) (pv m q.right) (pv m b.0) (vec z) (direction m facts ts ls good f q h.cut) b.1.turn (scale_above z) refl refl v.zero h.cut.left h.cut.right y up) x
    ] in
    let from = some_name (named m r.first) h.crossings.names.from in
    let to = some_name (named m r.last) h.crossings.names.to in (
      from.0,
      to.0,
      record {
        range = h.crossings.names.range;
        from = from.1;
        to = to.1;
        first = h.crossings.leaves.line;
        is_first = h.crossings.leaves.is;
        last = l;
        is_last = h.crossings.arrives.is;
        leaves = h.crossings.leaves.ends;
        arrives = h.crossings.arrives.ends;
        start = h.start;
        stop = h.stop;
        starts = subst (λ (x : MapLine). IsCrossing r x h.start) (same_Some h.crossings.starts.line h.crossings.leaves.line (sym h.crossings.starts.is ∙ h.crossings.leaves.is)) h.crossings.starts.crossing;
        stops = stop_crossing m is_map facts ts ls good r h.start h.stop h.crossings;
        forward = h.forward;
        clear = λ i k is solid z s on. none z s (inl (i, k, is, solid, on));
      },
      none,
    )

pub wall_comes_first : WallComesFirst
wall_comes_first m ts ls r number is_map good w =
    let facts = map_facts m is_map in
    let q = w.portal in
    let h = progress m is_map facts ts ls good r q w.before w.walked in
    let f = form m is_map facts ts ls good r in
    let c = cross m is_map facts ts ls good r q in
    let foot = point_at c (cross_d m facts ts ls good f q h.cut) in
    let x = foot.0 in
    let past : NotAfter f c (vec x) = subst (λ (v : V). NotAfter f c v) (sym foot.1) (omega (arith, ints)) in
    let before : NotAfter f (vec x) (vec h.stop) = subst (λ (v : V). NotAfter f v (vec h.stop)) (sym foot.1) h.in_time in
    let zero : at f (vec x) ≡ pos 0 = ap (at f) foot.1 ∙ crossing_on f (pv m q.left) (pv m q.right) in
    let on = subst (λ (v : V). On (vec (point_of w.wall.line.first)) (vec (point_of w.wall.line.second)) v) (sym foot.1) (portal_on m facts number w.wall.line w.wall.left q c w.wall.is w.wall.edge (crossing_in f (pv m q.left) (pv m q.right) h.cut.left h.cut.right)) in (
      x,
      w.wall.line,
      w.wall.is,
      w.wall.solid,
      split_inside r w.wall.line w.wall.left x (splits_side m facts ts ls good r.a r.b r.c r refl refl refl number w.wall.line w.wall.left q w.wall.is (sym w.wall.edge) h.cut)
          (segment_of_on (point_of w.wall.line.first) (point_of w.wall.line.second) x on, value_at_is r.a r.b r.c x ∙ zero),
      record {
        start = h.start;
        stop = h.stop;
        crossings = h.crossings;
        forward = h.forward;
        on_stretch = to_stretch m is_map ts ls good r q h x zero past before;
        first = λ z s t.
            let v = on_stretch m is_map ts ls good r q h z s in
            forward_back m is_map facts ts ls good r x z (subst (λ (y : V). NotAfter f y (vec z)) (sym foot.1) (elim (le_or_lt (at (ahead f) c *ℤ pos z.d) (at (ahead f) (vec z) *ℤ c.d)) as (λ _. NotAfter f c (vec z)) [
              | inl y ↦ y
              | inr y ↦ absurd (h.clear (vec z) (scale_above z) v.zero v.after y (in_the_way m is_map facts ts ls good r z t))
            ]));
      },
    )

pub point_comes_first : PointComesFirst
point_comes_first m ts ls r k is_map good w =
    let facts = map_facts m is_map in
    let q = w.portal in
    let h = progress m is_map facts ts ls good r q w.before w.walked in
    let f = form m is_map facts ts ls good r in
    let c = cross m is_map facts ts ls good r q in
    let wall = open_of m q w.passable in
    let o = h.opens wall in
    let b = behind m ts ls good q o.0 o.2 in
    let tip : b.0 ≡ k = same_Some b.0 k (sym b.1.tip ∙ w.third) in
    let x = point_of (place m b.0) in
    let zero : at f (vec x) ≡ pos 0 = sym (value_at_is r.a r.b r.c x) ∙ subst (λ (j : ℕ). ray_value r (point_of (place m j)) ≡ pos 0) (sym tip) w.straight in
    let u = pv m q.left in let v = pv m q.right in
    let hn = direction m facts ts ls good f q h.cut in
    let cd = cross_d m facts ts ls good f q h.cut in
    let past0 = after f u v (vec x) hn zero b.1.turn in
    let past : NotAfter f c (vec x) = omega (arith, linear, past0) in
    let stop_at : at f (vec h.stop) ≡ pos 0 = sym (value_at_is r.a r.b r.c h.stop) ∙ h.crossings.stops.crossing.1 in
    let before : NotAfter f (vec x) (vec h.stop) = elim (le_or_lt (at (ahead f) (vec x) *ℤ pos h.stop.d) (at (ahead f) (vec h.stop) *ℤ (vec x).d)) as (λ _. NotAfter f (vec x) (vec h.stop)) [
      | inl y ↦ y
      | inr y ↦ absurd (w.goes_on (ends_here m is_map facts ts ls good r h.start h.stop h.crossings q o.0 b.0 o.1 b.1 o.3 h.cut (deep_tip f u v (vec x) (vec h.stop) hn cd refl refl refl stop_at zero h.cut.left h.cut.right h.in_time y)))
    ] in
    let done : ComesFirst m r x = record {
      start = h.start;
      stop = h.stop;
      crossings = h.crossings;
      forward = h.forward;
      on_stretch = to_stretch m is_map ts ls good r q h x zero past before;
      first = λ z s t.
          let y = on_stretch m is_map ts ls good r q h z s in
          let thing = in_the_way m is_map facts ts ls good r z t in
          forward_back m is_map facts ts ls good r x z (elim (le_or_lt (at (ahead f) (vec x) *ℤ pos z.d) (at (ahead f) (vec z) *ℤ (vec x).d)) as (λ _. NotAfter f (vec x) (vec z)) [
            | inl n ↦ n
            | inr n ↦ absurd (elim (le_or_lt (at (ahead f) c *ℤ pos z.d) (at (ahead f) (vec z) *ℤ c.d)) as (λ _. ⊥) [
              | inr e ↦ h.clear (vec z) (scale_above z) y.zero y.after e thing
              | inl e ↦ deep_clear m is_map facts ts ls good r q o.0 b.0 o.1 b.1 o.3 wall (vec z) (scale_above z) (deep_tip f u v (vec x) (vec z) hn cd refl refl refl y.zero zero h.cut.left h.cut.right e n) thing
            ])
          ]);
    } in
    subst (λ (j : ℕ). ComesFirst m r (point_of (place m j))) tip done

-- so the answer of a trace over a good mesh tells what comes first
pub first_of_answer : {T : Type 0} (items : T → List ℕ) (m : Map) (ts : List Triangle) (ls : List (Option ℕ)) (r : Ray) → IsMap m → IsGoodMesh m ts ls → (v : Result T TraceFault)
    → MatchResult v (λ x. IsTrace m ts r (items x)) (λ f. IsTraceFault m ts r f) → MatchResult v (λ _. IsRayClear m r) (λ f. IsFirstTraceFault m r f)
first_of_answer items m ts ls r is_map good (Ok x) h = traced_is_clear m ts ls r (items x) is_map good h
first_of_answer items m ts ls r is_map good (Err (BadRay f)) h = h
first_of_answer items m ts ls r is_map good (Err (HitsSolid n)) h = wall_comes_first m ts ls r n is_map good h
first_of_answer items m ts ls r is_map good (Err (HitsPoint k)) h = point_comes_first m ts ls r k is_map good h
first_of_answer items m ts ls r is_map good (Err (Memory _)) h = tt
