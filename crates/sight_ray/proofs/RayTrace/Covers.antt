-- The stretch of a traced ray lies in the triangles that the trace names.
use Rattle.std.proofs.Common.{◌≡◌, ℕ, ℤ, pos, ◌*ℤ◌, ◌<ℤ◌, List, [], ◌∷◌, Contains, slice_get, Option, Some, not, sym, ap, ◌∙◌, subst, arith, inl, inr, option_map}
use lib.IntN.{*ℤ-zero}
use Rattle.std.proofs.lemmas.List.Elements.{Contains-append_left, Contains-push}
use Rattle.std.proofs.lemmas.Option.{same_Some}
use Rattle.math_base.proofs.Signs.{mul-nonneg, nonneg-of-mul, le_or_lt}
use Rattle.sight_names.specs.declared.names.Ray.{Ray}
use Rattle.sight_names.specs.declared.names.Triangle.{Triangle}
use Rattle.sight_names.specs.Map.{Map, MapLine, IsMap}
use Rattle.sight_names.specs.Mesh.{IsGoodMesh, side_edge}
use Rattle.sight_names.specs.Sequence.{Portal, Way, Left, Right, entry_edge, way_out, root_portal}
use Rattle.plane_base.proofs.Vec.{V, Lin, at, edge, det, On, value, det-swap, det-cycle, det-first, det-last}
use Rattle.plane_base.proofs.Near.{on_straight}
use Rattle.plane_base.proofs.Walk.{Closed}
use Rattle.mesh_base.proofs.SightLaws.Bridge.{vec}
use Rattle.mesh_base.proofs.SightLaws.Places.{ahead, NotAfter}
use Rattle.mesh_base.proofs.GoodMesh.{PointFacts, pv, tri_of}
use Rattle.mesh_base.proofs.MapFacts.{map_facts}
use Rattle.plane_base.proofs.Linear.{linear}
use Rattle.mesh_base.proofs.SightLaws.Crossings.{turn_nonneg, back_nonneg, third_left, third_right, not_after_chain}
use Rattle.sight_lift.proofs.Behind.{Behind, behind, third_in}
use Rattle.sight_lift.proofs.FirstWall.{at_crossing_on}
use Rattle.sight_lift.proofs.Pieces.{cross_d, direction}
use Rattle.sight_lift.proofs.PointLabels.{closed_back}
use Rattle.sight_lift.proofs.LiftLaws.{turns_back}
use Rattle.sight_lift.proofs.Tails.{root_portal_is}
use Rattle.sight_ray.specs.RayTrace.Trace.{Walked, IsFirstPortal, opposite}
use Rattle.sight_ray.specs.RayTrace.Trace.Walked.{begun, stepped}
use Rattle.sight_ray.specs.RayTrace.First.{TraceCovers}
use Rattle.sight_ray.proofs.RayTrace.Progress.{progress, form, cross, IsCut, at_the_crossing, stop_crossing}
use Rattle.sight_ray.proofs.RayTrace.Firsts.{on_stretch}
use Rattle.math_base.proofs.Bools.{not_not}
use Rattle.sight_names.proofs.Portals.{scale_above}

-- a point of an edge is in the triangle on its other side
on_back : (u v t z : V) → pos 0 <ℤ det v u t → On u v z → Closed (record { a = v; b = u; c = t }) z
on_back u v t z turn o =
    let l = o.0 in let m = o.1 in let n = o.2 in let c = o.3 in
    let flat = on_straight u v z o in
    let s = det-swap u v z in
    let e1 = value (edge u t) l m n u v z c in
    let e2 = value (edge t v) l m n u v z c in
    let c1 = det-cycle v u t in
    let c2 = det-cycle u t v in
    let z1 : l *ℤ det u t u ≡ pos 0 = ap (λ (k : ℤ). l *ℤ k) (det-first u t) ∙ *ℤ-zero l in
    let z2 : m *ℤ det t v v ≡ pos 0 = ap (λ (k : ℤ). m *ℤ k) (det-last t v) ∙ *ℤ-zero m in
    let p1 = mul-nonneg m (det u t v) c.right (omega (arith, linear, c1, turn)) in
    let p2 = mul-nonneg l (det t v u) c.left (omega (arith, linear, c1, c2, turn)) in
    record {
      ab = omega (arith, linear, s, flat);
      bc = nonneg-of-mul n (det u t z) c.scale (omega (arith, linear, e1, z1, p1));
      ca = nonneg-of-mul n (det t v z) c.scale (omega (arith, linear, e2, z2, p2));
    }

module _ (m : Map) (is_map : IsMap m) (facts : PointFacts m) (ts : List Triangle) (ls : List (Option ℕ)) (good : IsGoodMesh m ts ls) (r : Ray) where
  abbrev g : Lin
  g = form m is_map facts ts ls good r

  abbrev at_portal : Portal → V
  at_portal p = cross m is_map facts ts ls good r p

  record Covered (ks : List ℕ) (z : V) : Type 0 where
    k : ℕ
    in_list : Contains ks k
    t : Triangle
    is : slice_get ts k ≡ Some t
    closed : Closed (tri_of m t) z

  -- between a portal and the next one, in the triangle behind it
  in_triangle : (p : Portal) (k w : ℕ) (y : Way) (z : V) → Behind m ts p k w → IsCut m is_map facts ts ls good r p → IsCut m is_map facts ts ls good r (way_out p y w) → pos 0 <ℤ z.d → at g z ≡ pos 0
      → NotAfter g (at_portal p) z → NotAfter g z (at_portal (way_out p y w)) → Closed (record { a = pv m p.left; b = pv m p.right; c = pv m w }) z
  in_triangle p k w Left z b cp cq zd gz after before =
      let u = pv m p.left in let v = pv m p.right in let t = pv m w in
      let hn = direction m facts ts ls good g p cp in
      let hr = cp.right in let ht = cq.right in
      let ab = turn_nonneg g u v z hn gz after in
      let ca = back_nonneg g u t z hn gz before in
      record { ab = ab; bc = third_left g u v t z b.turn gz cp.left (omega (arith, linear, hr)) (omega (arith, linear, ht)) ab ca; ca = ca }
  in_triangle p k w Right z b cp cq zd gz after before =
      let u = pv m p.left in let v = pv m p.right in let t = pv m w in
      let hn = direction m facts ts ls good g p cp in
      let hl = cp.left in let ht = cq.left in
      let ab = turn_nonneg g u v z hn gz after in
      let bc = back_nonneg g t v z hn gz before in
      record { ab = ab; bc = bc; ca = third_right g u v t z b.turn gz (omega (arith, linear, hl)) cp.right (omega (arith, linear, ht)) ab bc }

  covers : (q : Portal) (ks : List ℕ) → Walked m ts r q ks → (first : Portal) → IsFirstPortal m r first → (z : V) → pos 0 <ℤ z.d → at g z ≡ pos 0 → NotAfter g (at_portal first) z → NotAfter g z (at_portal q) → Covered ks z
  covers q ks (begun k t f e same) first is_first z zd gz after before =
      let h = progress m is_map facts ts ls good r q ks (begun k t f e same) in
      let one : first ≡ q = same_Some first q (sym is_first ∙ f) in
      let b = behind m ts ls good (record { left = q.right; right = q.left }) k e in
      let on = at_crossing_on m g q.left q.right z (direction m facts ts ls good g q h.cut) zd gz h.cut.left h.cut.right (subst (λ (x : Portal). NotAfter g (at_portal x) z) one after) before in
      let closed = on_back (pv m q.left) (pv m q.right) (pv m b.0) z b.1.turn on in
      record {
        k = k;
        in_list = subst (λ (xs : List ℕ). Contains xs k) (sym same) (Contains-push [] k);
        t = b.1.tri;
        is = b.1.is;
        closed = closed_back (tri_of m b.1.tri) _ z (third_in m b.1.tri q.right q.left b.0 b.1.third) closed;
      }
  covers q ks (stepped p js k walked n s same) first is_first z zd gz after before =
      let h = progress m is_map facts ts ls good r p js walked in
      let hq = progress m is_map facts ts ls good r q ks (stepped p js k walked n s same) in
      let b = behind m ts ls good p k s.behind in
      let tip : s.tip ≡ b.0 = same_Some s.tip b.0 (sym s.third ∙ b.1.tip) in
      let out : q ≡ way_out p s.way b.0 = s.out ∙ ap (way_out p s.way) tip in
      elim (le_or_lt (at (ahead g) z *ℤ (at_portal p).d) (at (ahead g) (at_portal p) *ℤ z.d)) as (λ _. Covered ks z) [
        | inl e ↦
            let c = covers p js walked first is_first z zd gz after e in
            record { k = c.k; in_list = subst (λ (xs : List ℕ). Contains xs c.k) (sym same) (Contains-append_left js (k ∷ []) c.k c.in_list); t = c.t; is = c.is; closed = c.closed }
        | inr e ↦
            let closed = in_triangle p k b.0 s.way z b.1 h.cut (subst (IsCut m is_map facts ts ls good r) out hq.cut) zd gz (omega (arith, linear, e)) (subst (λ (x : Portal). NotAfter g z (at_portal x)) out before) in
            record {
              k = k;
              in_list = subst (λ (xs : List ℕ). Contains xs k) (sym same) (Contains-push js k);
              t = b.1.tri;
              is = b.1.is;
              closed = closed_back (tri_of m b.1.tri) _ z (third_in m b.1.tri p.left p.right b.0 b.1.third) closed;
            }
      ]

pub trace_covers : TraceCovers
trace_covers m ts ls r ks is_map good t =
    let facts = map_facts m is_map in
    let q = t.portal in
    let h = progress m is_map facts ts ls good r q t.before t.walked in
    let f = form m is_map facts ts ls good r in
    let l = h.crossings.arrives.line in
    let e = side_edge m l (not (not r.last.left)) in
    let p : Portal = record { left = e.from; right = e.to } in
    let there : root_portal m (opposite r.last) ≡ Some p = ap (option_map (λ (x : MapLine). let d = side_edge m x (not (not r.last.left)) in let y : Portal = record { left = d.from; right = d.to } in y)) h.crossings.arrives.is in
    let same : p ≡ q = same_Some p q (sym there ∙ t.arrives) in
    let edge_q : entry_edge q ≡ side_edge m l r.last.left = ap entry_edge (sym same) ∙ ap (side_edge m l) (not_not r.last.left) in
    let at_stop = at_the_crossing m is_map facts ts ls good r r.last.line l r.last.left q h.stop h.crossings.arrives.is edge_q (stop_crossing m is_map facts ts ls good r h.start h.stop h.crossings) h.cut in
    let is_first : IsFirstPortal m r h.first = root_portal_is m r.first.line h.crossings.leaves.line r.first.left h.first h.crossings.leaves.is h.first_edge in (
      h.start,
      h.stop,
      h.crossings,
      h.forward,
      λ z s.
          let v = on_stretch m is_map ts ls good r q h z s in
          let up = not_after_chain f (vec z) (vec h.stop) (cross m is_map facts ts ls good r q) (scale_above z) (scale_above h.stop) (cross_d m facts ts ls good f q h.cut) v.before at_stop.1 in
          let c = covers m is_map facts ts ls good r q t.before t.walked h.first is_first (vec z) (scale_above z) v.zero v.after up in
          (c.k, subst (λ (xs : List ℕ). Contains xs c.k) (sym t.all) (Contains-append_left t.before (t.last ∷ []) c.k c.in_list), c.t, c.is, turns_back m c.t z c.closed),
    )
