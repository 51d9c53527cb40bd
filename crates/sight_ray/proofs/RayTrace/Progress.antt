-- How far a traced ray has come: nothing is in its way before the portal that it has come to, and that isn't past the end of its stretch.
use Rattle.std.proofs.Common.{◌≡◌, ℕ, ◌<◌, ◌⊎◌, inl, inr, ℤ, pos, ◌+ℤ◌, ◌-ℤ◌, ◌*ℤ◌, neg_ℤ, ◌≤ℤ◌, ◌<ℤ◌, List, [], ◌∷◌, length, Option, Some, Bool, true, false, not, IsTrue, refl, sym, ap, ◌∙◌, subst, arith, option_map}
use borrow.Author.Differences.{ints}
use lib.IntN.{*ℤ-zero, *ℤ_comm}
use Rattle.std.proofs.lemmas.Option.{same_Some}
use Rattle.math_base.proofs.Quoting.{quoting, by_ring, combine2}
use Rattle.math_base.proofs.Signs.{mul-pos, pos-of-mul, le_or_lt}
use Rattle.sight_names.specs.declared.names.Pt.{Pt}
use Rattle.sight_names.specs.declared.names.Ray.{Ray}
use Rattle.sight_names.specs.declared.names.Triangle.{Triangle}
use Rattle.sight_names.specs.Point.{Point, point_of}
use Rattle.sight_names.specs.Map.{Map, MapLine, IsMap, line_at}
use Rattle.sight_names.specs.Points.{Edge, points_of, place}
use Rattle.sight_names.specs.Mesh.{IsGoodMesh, triangle_at, label_of, side_edge}
use Rattle.sight_names.specs.Ray.{along, NotBehind, SplitsLine, IsCrossing}
use Rattle.sight_names.specs.Sequence.{Portal, Way, Left, Right, entry_edge, way_out, root_portal, IsSolidLine}
use Rattle.plane_base.proofs.Vec.{V, Lin, at, edge, det, IsComb, On, value, bary, det-first, det-last, on_back}
use Rattle.plane_base.proofs.Near.{unit, height, on_straight}
use Rattle.mesh_base.proofs.SightLaws.Bridge.{vec, value_at_is, on_of_segment}
use Rattle.mesh_base.proofs.SightLaws.Paths.{side_from, side_to}
use Rattle.mesh_base.proofs.SightLaws.Places.{ahead, norm, Before, NotAfter}
use Rattle.mesh_base.proofs.GoodMesh.{PointFacts, pv, from_is, to_is}
use Rattle.plane_base.proofs.Linear.{linear}
use Rattle.mesh_base.proofs.SightLaws.Crossings.{crossing, turn_tells, turn_nonneg, later_left, later_right, Deep, deep_left, deep_right, not_after_chain, balanced}
use Rattle.sight_lift.proofs.Behind.{Behind, behind}
use Rattle.sight_lift.proofs.Doors.{has_name, named_is, way_over}
use Rattle.sight_lift.proofs.Tails.{root_portal_is}
use Rattle.sight_lift.proofs.RayOf.{along_is, splits_side}
use Rattle.sight_lift.proofs.Pieces.{Crossed, deep_line, deep_free, same_is_side, cross_d, direction}
use Rattle.sight_ray.specs.RayFault.{HasCrossings}
use Rattle.sight_ray.specs.RayTrace.Trace.{Walked, IsTraceable, IsFirstPortal, IsLastPortal, IsPortalOpen}
use Rattle.sight_ray.specs.RayTrace.Trace.Walked.{begun, stepped}
use Rattle.math_base.proofs.Options.{one_value}
use Rattle.math_base.proofs.Bools.{not_not}
use Rattle.math_base.proofs.Small.{times_one}
use Rattle.sight_names.proofs.Portals.{scale_above}

-- ---- a point under two names, of which one is whole
abbrev pub IsSameV : V → V → Type 0
IsSameV p z = (p.x *ℤ z.d ≡ z.x *ℤ p.d) × (p.y *ℤ z.d ≡ z.y *ℤ p.d)

same_comb : (p z o : V) → p.d ≡ pos 1 → pos 0 <ℤ z.d → IsSameV p z → IsComb z.d (pos 0) (pos 1) p o z
same_comb p z o pd zd s = record {
  left = omega (arith, linear, zd);
  right = omega (arith, ints);
  scale = omega (arith, ints);
  x = same_part p.x z.x p.d z.d o.x pd s.0;
  y = same_part p.y z.y p.d z.d o.y pd s.1;
  d = last_part z.d p.d o.d pd;
}
  where
    same_part : (px zx pd zd o : ℤ) → pd ≡ pos 1 → px *ℤ zd ≡ zx *ℤ pd → pos 1 *ℤ zx ≡ zd *ℤ px +ℤ pos 0 *ℤ o
    same_part px zx pd zd o e h = let a : zx *ℤ pd ≡ zx = ap (λ (k : ℤ). zx *ℤ k) e ∙ omega (arith, ints) in let c = *ℤ_comm zd px in omega (arith, ints)

    last_part : (zd pd o : ℤ) → pd ≡ pos 1 → pos 1 *ℤ zd ≡ zd *ℤ pd +ℤ pos 0 *ℤ o
    last_part zd pd o e = let a : zd *ℤ pd ≡ zd = ap (λ (k : ℤ). zd *ℤ k) e ∙ omega (arith, ints) in omega (arith, ints)

-- a functional that is 0 at it under the one name is 0 under the other
same_zero : (f : Lin) (p z : V) → p.d ≡ pos 1 → pos 0 <ℤ z.d → IsSameV p z → at f p ≡ pos 0 → at f z ≡ pos 0
same_zero f p z pd zd s e =
    let v = value f z.d (pos 0) (pos 1) p p z (same_comb p z p pd zd s) in
    let t : z.d *ℤ at f p ≡ pos 0 = ap (λ (k : ℤ). z.d *ℤ k) e ∙ *ℤ-zero z.d in
    omega (arith, ints)

-- ---- between a crossing and the third point on the line
past_ring : (n A B hr ht hx xd rd : ℤ) → n *ℤ (B *ℤ rd -ℤ A) -ℤ xd *ℤ (ht *ℤ rd -ℤ hr *ℤ pos 1) ≡ rd *ℤ (n *ℤ B -ℤ (ht *ℤ xd -ℤ hx *ℤ pos 1)) +ℤ neg_ℤ (pos 1) *ℤ (n *ℤ A -ℤ (hr *ℤ xd -ℤ hx *ℤ rd))
past_ring n A B hr ht hx xd rd = by_ring (n ∷ A ∷ B ∷ hr ∷ ht ∷ hx ∷ xd ∷ rd ∷ []) _ _ (search quoting depth 80 fits 1000000) (search quoting depth 80 fits 1000000) tt

past : (n A B hr ht hx xd rd : ℤ) → pos 0 <ℤ n → pos 0 <ℤ xd → n *ℤ A ≡ hr *ℤ xd -ℤ hx *ℤ rd → n *ℤ B ≡ ht *ℤ xd -ℤ hx *ℤ pos 1 → (hr *ℤ pos 1) <ℤ (ht *ℤ rd) → pos 0 <ℤ (B *ℤ rd -ℤ A)
past n A B hr ht hx xd rd hn hx0 i j k =
    let e : n *ℤ (B *ℤ rd -ℤ A) ≡ xd *ℤ (ht *ℤ rd -ℤ hr *ℤ pos 1) = combine2 rd (neg_ℤ (pos 1)) j i (past_ring n A B hr ht hx xd rd) in
    let m = mul-pos xd (ht *ℤ rd -ℤ hr *ℤ pos 1) hx0 (omega (arith, linear, k)) in
    pos-of-mul n (B *ℤ rd -ℤ A) hn (omega (arith, linear, e, m))

pub deep_tip : (g : Lin) (u v t r : V) → pos 0 <ℤ norm g → pos 0 <ℤ (crossing g u v).d → u.d ≡ pos 1 → v.d ≡ pos 1 → t.d ≡ pos 1 → at g r ≡ pos 0 → at g t ≡ pos 0 → pos 0 <ℤ at g u → at g v <ℤ pos 0 → NotAfter g (crossing g u v) r → Before g r t → Deep u v t r
deep_tip g u v t r hn xd ud vd td e et hu hv h k =
    let uv = turn_nonneg g u v r hn e h in
    let b = bary g u v t r in
    let z : det u v t *ℤ at g r ≡ pos 0 = ap (λ (s : ℤ). det u v t *ℤ s) e ∙ *ℤ-zero (det u v t) in
    let y : det u v r *ℤ at g t ≡ pos 0 = ap (λ (s : ℤ). det u v r *ℤ s) et ∙ *ℤ-zero (det u v r) in
    let w = bary unit u v t r in
    let q0 : det u v t *ℤ at unit r ≡ det u v t *ℤ r.d = ap (λ (s : ℤ). det u v t *ℤ s) (height r) in
    let q1 : det v t r *ℤ at unit u ≡ det v t r = ap (λ (s : ℤ). det v t r *ℤ s) (height u ∙ ud) ∙ times_one (det v t r) in
    let q2 : det t u r *ℤ at unit v ≡ det t u r = ap (λ (s : ℤ). det t u r *ℤ s) (height v ∙ vd) ∙ times_one (det t u r) in
    let q3 : det u v r *ℤ at unit t ≡ det u v r = ap (λ (s : ℤ). det u v r *ℤ s) (height t ∙ td) ∙ times_one (det u v r) in
    let x = crossing g u v in
    let i = turn_tells g u v r e in
    let j : norm g *ℤ det u v t ≡ at (ahead g) t *ℤ x.d -ℤ at (ahead g) x *ℤ pos 1 = turn_tells g u v t et ∙ ap (λ (s : ℤ). at (ahead g) t *ℤ x.d -ℤ at (ahead g) x *ℤ s) td in
    let l : (at (ahead g) r *ℤ pos 1) <ℤ (at (ahead g) t *ℤ r.d) = subst (λ (s : ℤ). (at (ahead g) r *ℤ s) <ℤ (at (ahead g) t *ℤ r.d)) td k in
    let s = past (norm g) (det u v r) (det u v t) (at (ahead g) r) (at (ahead g) t) (at (ahead g) x) x.d r.d hn xd i j l in
    let p : det t u r *ℤ neg_ℤ (at g v) ≡ neg_ℤ (det t u r *ℤ at g v) = by_ring (det t u r ∷ at g v ∷ []) _ _ (search quoting depth 40 fits 100000) (search quoting depth 40 fits 100000) tt in
    let both = balanced (det v t r) (det t u r) (at g u) (neg_ℤ (at g v)) hu (omega (arith, linear, hv)) (omega (arith, linear, b, z, y, p)) (omega (arith, linear, w, q0, q1, q2, q3, s)) in
    record { uv = uv; vt = both.0; tu = both.1 }

-- ---- the two ways over a line
one_way : (r : Ray) (l : MapLine) (a b : Bool) → SplitsLine r l a → SplitsLine r l b → a ≡ b
one_way r l true true h k = refl
one_way r l true false h k = absurd (let x = h.0 in let y = k.0 in omega (arith, linear, x, y))
one_way r l false true h k = absurd (let x = h.0 in let y = k.0 in omega (arith, linear, x, y))
one_way r l false false h k = refl

on_the_edge : (l : MapLine) (left : Bool) (r : V) → On (vec (point_of l.first)) (vec (point_of l.second)) r → det (side_from l left) (side_to l left) r ≡ pos 0
on_the_edge l true r o = on_straight _ _ r o
on_the_edge l false r o = on_straight _ _ r (on_back _ _ r o)

module _ (m : Map) (is_map : IsMap m) (facts : PointFacts m) (ts : List Triangle) (ls : List (Option ℕ)) (good : IsGoodMesh m ts ls) (r : Ray) where
  abbrev pub form : Lin
  form = record { a = r.a; b = r.b; c = r.c }

  abbrev pub cross : Portal → V
  cross p = crossing form (pv m p.left) (pv m p.right)

  abbrev pub IsCut : Portal → Type 0
  IsCut p = Crossed m facts ts ls good form p

  -- the vector is a point of a solid line, or a point of the map
  abbrev pub InTheWay : V → Type 0
  InTheWay z = ((i : ℕ) × (l : MapLine) × (line_at m i ≡ Some l) × IsTrue l.solid × On (vec (point_of l.first)) (vec (point_of l.second)) z) ⊎ ((k : ℕ) × (k < length (points_of m)) × IsSameV (pv m k) z)

  -- a point of the map is no deep point of a triangle
  no_corner : (p : Portal) (t : ℕ) (k : ℕ) (z : V) → pos 0 <ℤ z.d → IsSameV (pv m k) z → Deep (pv m p.left) (pv m p.right) (pv m t) z → (pv m k ≡ pv m p.left) ⊎ (pv m k ≡ pv m p.right) → ⊥
  no_corner p t k z zd s d w = elim w as (λ _. ⊥) [
    | inl e ↦ let h = same_zero (edge (pv m t) (pv m p.left)) (pv m k) z refl zd s (subst (λ (x : V). det (pv m t) (pv m p.left) x ≡ pos 0) (sym e) (det-last (pv m t) (pv m p.left))) in let x = d.tu in omega (arith, linear, h, x)
    | inr e ↦ let h = same_zero (edge (pv m p.right) (pv m t)) (pv m k) z refl zd s (subst (λ (x : V). det (pv m p.right) (pv m t) x ≡ pos 0) (sym e) (det-first (pv m p.right) (pv m t))) in let x = d.vt in omega (arith, linear, h, x)
  ]

  pub deep_clear : (p : Portal) (k t c : ℕ) → Behind m ts p k t → label_of ls k ≡ Some c → ¬ IsSolidLine m p → (z : V) → pos 0 <ℤ z.d → Deep (pv m p.left) (pv m p.right) (pv m t) z → InTheWay z → ⊥
  deep_clear p k t c h label wall z zd d (inl w) = deep_free m facts ts ls good p k t c h label wall z d w.0 w.1 w.2 w.3 w.4
  deep_clear p k t c h label wall z zd d (inr w) =
      let e = facts.is_end w.0 w.1 in
      let l = e.1 in let F = vec (point_of l.first) in let S = vec (point_of l.second) in
      let s = w.2 in
      elim e.3 as (λ _. ⊥) [
        | inl f ↦
            let own : pv m w.0 ≡ F = ap (λ (x : Pt). vec (point_of x)) f in
            let on : On F S z = subst (λ (x : V). On x S z) own (_, _, _, same_comb (pv m w.0) z S refl zd s) in
            no_corner p t w.0 z zd s d (elim (deep_line m facts ts ls good p k t c h label z d e.0 l e.2 on) as (λ _. (pv m w.0 ≡ pv m p.left) ⊎ (pv m w.0 ≡ pv m p.right)) [ inl same ↦ inl (own ∙ sym same.0) | inr same ↦ inr (own ∙ sym same.1) ])
        | inr f ↦
            let own : pv m w.0 ≡ S = ap (λ (x : Pt). vec (point_of x)) f in
            let on : On F S z = on_back S F z (subst (λ (x : V). On x F z) own (_, _, _, same_comb (pv m w.0) z F refl zd s)) in
            no_corner p t w.0 z zd s d (elim (deep_line m facts ts ls good p k t c h label z d e.0 l e.2 on) as (λ _. (pv m w.0 ≡ pv m p.left) ⊎ (pv m w.0 ≡ pv m p.right)) [ inl same ↦ inr (own ∙ sym same.1) | inr same ↦ inl (own ∙ sym same.0) ])
      ]

  -- where a portal is crossed, by the side of its line
  crossed_side : (i : ℕ) (l : MapLine) (left : Bool) (q : Portal) → line_at m i ≡ Some l → entry_edge q ≡ side_edge m l left → SplitsLine r l left → IsCut q
  crossed_side i l left q is e h =
      let u : pv m q.left ≡ side_from l left = ap (λ (d : Edge). pv m d.from) e ∙ from_is m facts i l left is in
      let v : pv m q.right ≡ side_to l left = ap (λ (d : Edge). pv m d.to) e ∙ to_is m facts i l left is in
      let s = ends left h in
      record { left = subst (λ (x : V). pos 0 <ℤ at form x) (sym u) s.0; right = subst (λ (x : V). at form x <ℤ pos 0) (sym v) s.1 }
    where
      ends : (b : Bool) → SplitsLine r l b → (pos 0 <ℤ at form (side_from l b)) × (at form (side_to l b) <ℤ pos 0)
      ends true h = (subst (λ (x : ℤ). pos 0 <ℤ x) (value_at_is r.a r.b r.c (point_of l.first)) h.0, subst (λ (x : ℤ). x <ℤ pos 0) (value_at_is r.a r.b r.c (point_of l.second)) h.1)
      ends false h = (subst (λ (x : ℤ). pos 0 <ℤ x) (value_at_is r.a r.b r.c (point_of l.second)) h.1, subst (λ (x : ℤ). x <ℤ pos 0) (value_at_is r.a r.b r.c (point_of l.first)) h.0)

  -- a crossing with the line of a portal is at the portal's crossing
  pub at_the_crossing : (i : ℕ) (l : MapLine) (left : Bool) (q : Portal) (x : Point) → line_at m i ≡ Some l → entry_edge q ≡ side_edge m l left → IsCrossing r l x → IsCut q → NotAfter form (cross q) (vec x) × NotAfter form (vec x) (cross q)
  at_the_crossing i l left q x is e c h =
      let u : pv m q.left ≡ side_from l left = ap (λ (d : Edge). pv m d.from) e ∙ from_is m facts i l left is in
      let v : pv m q.right ≡ side_to l left = ap (λ (d : Edge). pv m d.to) e ∙ to_is m facts i l left is in
      let zero : at form (vec x) ≡ pos 0 = sym (value_at_is r.a r.b r.c x) ∙ c.1 in
      let flat : det (pv m q.left) (pv m q.right) (vec x) ≡ pos 0 = subst (λ (y : V). det y (pv m q.right) (vec x) ≡ pos 0) (sym u) (subst (λ (y : V). det (side_from l left) y (vec x) ≡ pos 0) (sym v) (on_the_edge l left (vec x) (on_of_segment (point_of l.first) (point_of l.second) x c.0))) in
      let t = turn_tells form (pv m q.left) (pv m q.right) (vec x) zero in
      let n : norm form *ℤ det (pv m q.left) (pv m q.right) (vec x) ≡ pos 0 = ap (λ (k : ℤ). norm form *ℤ k) flat ∙ *ℤ-zero (norm form) in
      (omega (arith, linear, t, n), omega (arith, linear, t, n))

  -- what holds where the ray has come to q
  pub record Progress (q : Portal) : Type 0 where
    pub start : Point
    pub stop : Point
    pub crossings : HasCrossings m r start stop
    pub forward : NotBehind r start stop
    pub first : Portal
    pub first_edge : entry_edge first ≡ side_edge m crossings.leaves.line (not r.first.left)
    pub first_cut : IsCut first
    pub cut : IsCut q
    pub order : NotAfter form (cross first) (cross q)
    pub clear : (z : V) → pos 0 <ℤ z.d → at form z ≡ pos 0 → NotAfter form (cross first) z → Before form z (cross q) → InTheWay z → ⊥
    pub in_time : NotAfter form (cross q) (vec stop)
    pub opens : ¬ IsSolidLine m q → (k : ℕ) × (c : ℕ) × (triangle_at ts (entry_edge q) ≡ Some k) × (label_of ls k ≡ Some c)

  pub forward_is : (x y : Point) → NotBehind r x y → NotAfter form (vec x) (vec y)
  forward_is x y h = subst (λ (k : ℤ). (k *ℤ pos y.d) ≤ℤ (at (ahead form) (vec y) *ℤ pos x.d)) (sym (along_is r form x refl)) (subst (λ (k : ℤ). (along r x *ℤ pos y.d) ≤ℤ (k *ℤ pos x.d)) (sym (along_is r form y refl)) h)

  pub forward_back : (x y : Point) → NotAfter form (vec x) (vec y) → NotBehind r x y
  forward_back x y h = subst (λ (k : ℤ). (k *ℤ pos y.d) ≤ℤ (along r y *ℤ pos x.d)) (along_is r form x refl) (subst (λ (k : ℤ). (at (ahead form) (vec x) *ℤ pos y.d) ≤ℤ (k *ℤ pos x.d)) (along_is r form y refl) h)

  -- the start of the stretch is the crossing with the first portal
  pub at_start : (start stop : Point) (h : HasCrossings m r start stop) (q : Portal) → entry_edge q ≡ side_edge m h.leaves.line (not r.first.left) → IsCut q → NotAfter form (cross q) (vec start) × NotAfter form (vec start) (cross q)
  at_start start stop h q e c =
      at_the_crossing r.first.line h.leaves.line (not r.first.left) q start h.leaves.is e (subst (λ (l : MapLine). IsCrossing r l start) (one_value (line_at m r.first.line) h.starts.line h.leaves.line h.starts.is h.leaves.is) h.starts.crossing) c

  -- its end is on the line of the last side
  pub stop_crossing : (start stop : Point) (h : HasCrossings m r start stop) → IsCrossing r h.arrives.line stop
  stop_crossing start stop h = subst (λ (l : MapLine). IsCrossing r l stop) (one_value (line_at m r.last.line) h.stops.line h.arrives.line h.stops.is h.arrives.is) h.stops.crossing

  stop_zero : (start stop : Point) (h : HasCrossings m r start stop) → at form (vec stop) ≡ pos 0
  stop_zero start stop h = sym (value_at_is r.a r.b r.c stop) ∙ (stop_crossing start stop h).1

  -- a portal in whose triangle, or on which, the end is: the last one
  pub ends_here : (start stop : Point) (h : HasCrossings m r start stop) (p : Portal) (k t c : ℕ) → Behind m ts p k t → label_of ls k ≡ Some c → IsCut p → Deep (pv m p.left) (pv m p.right) (pv m t) (vec stop) → IsLastPortal m r p
  ends_here start stop h p k t c b label cut d =
      let l = h.arrives.line in
      let on = on_of_segment (point_of l.first) (point_of l.second) stop (stop_crossing start stop h).0 in
      let side = same_is_side m facts ts ls good p k t b l (deep_line m facts ts ls good p k t c b label (vec stop) d r.last.line l h.arrives.is on) in
      let splits = splits_side m facts ts ls good r.a r.b r.c r refl refl refl r.last.line l side.0 p h.arrives.is side.1 cut in
      let way = one_way r l side.0 r.last.left splits h.arrives.ends in
      root_portal_is m r.last.line l (not r.last.left) p h.arrives.is (side.1 ∙ ap (side_edge m l) (way ∙ sym (not_not r.last.left)))

  open_of : (p : Portal) → IsPortalOpen m p → ¬ IsSolidLine m p
  open_of p h (i, l, left, is, solid, e) = h i (record { line = l; is = is; solid = solid; left = left; edge = e })

  starts : (q : Portal) → IsTraceable m r → IsFirstPortal m r q → Progress q
  starts q (start, stop, h, forward) is_first =
      let l = h.leaves.line in
      let e = side_edge m l (not r.first.left) in
      let p : Portal = record { left = e.from; right = e.to } in
      let there : root_portal m r.first ≡ Some p = ap (option_map (λ (x : MapLine). let d = side_edge m x (not r.first.left) in let y : Portal = record { left = d.from; right = d.to } in y)) h.leaves.is in
      let same : p ≡ q = same_Some p q (sym there ∙ is_first) in
      let edge_q : entry_edge q ≡ e = ap entry_edge (sym same) in
      let cut = crossed_side r.first.line l (not r.first.left) q h.leaves.is edge_q h.leaves.ends in
      let s = at_start start stop h q edge_q cut in
      record {
        start = start;
        stop = stop;
        crossings = h;
        forward = forward;
        first = q;
        first_edge = edge_q;
        first_cut = cut;
        cut = cut;
        order = omega (arith, ints);
        clear = λ z zd e after before w. omega (arith, linear, after, before);
        in_time = not_after_chain form (cross q) (vec start) (vec stop) (cross_d m facts ts ls good form q cut) (scale_above start) (scale_above stop) s.0 (forward_is start stop forward);
        opens = λ wall. by_solid q l h.leaves.is edge_q wall l.solid refl;
      }
    where
      by_solid : (q : Portal) (l : MapLine) → line_at m r.first.line ≡ Some l → entry_edge q ≡ side_edge m l (not r.first.left) → ¬ IsSolidLine m q → (b : Bool) → l.solid ≡ b → (k : ℕ) × (c : ℕ) × (triangle_at ts (entry_edge q) ≡ Some k) × (label_of ls k ≡ Some c)
      by_solid q l is e wall true solid = absurd (wall (r.first.line, l, not r.first.left, is, solid, sym e))
      by_solid q l is e wall false solid =
          let n = has_name m.sectors l (not r.first.left) (is_map r.first.line l is) solid in
          let f = good.fits.sides (record { line = r.first.line; left = not r.first.left }) l n.0 is (named_is m r.first.line l (not r.first.left) n.0 is n.1) in
          (f.0, n.0, ap (triangle_at ts) e ∙ f.1, f.2)

  goes_on : (p : Portal) (k t c : ℕ) (w : Way) → Progress p → ¬ IsSolidLine m p → ¬ IsLastPortal m r p → Behind m ts p k t → label_of ls k ≡ Some c → IsCut (way_out p w t) → Progress (way_out p w t)
  goes_on p k t c Left h wall not_last b label cut =
      let q : Portal = way_out p Left t in
      let u = pv m p.left in let v = pv m p.right in let w = pv m t in
      let hn = direction m facts ts ls good form p h.cut in
      let pd = cross_d m facts ts ls good form p h.cut in
      let qd = cross_d m facts ts ls good form q cut in
      let later = later_left form u v w hn b.turn h.cut.left in
      record {
        start = h.start;
        stop = h.stop;
        crossings = h.crossings;
        forward = h.forward;
        first = h.first;
        first_edge = h.first_edge;
        first_cut = h.first_cut;
        cut = cut;
        order = not_after_chain form (cross h.first) (cross p) (cross q) (cross_d m facts ts ls good form h.first h.first_cut) pd qd h.order (omega (arith, linear, later));
        clear = λ z zd e after before x. elim (le_or_lt (at (ahead form) (cross p) *ℤ z.d) (at (ahead form) z *ℤ (cross p).d)) as (λ _. ⊥) [
          | inr s ↦ h.clear z zd e after s x
          | inl s ↦ deep_clear p k t c b label wall z zd (deep_left form u v w z hn e h.cut.left h.cut.right cut.right s before) x
        ];
        in_time = elim (le_or_lt (at (ahead form) (cross q) *ℤ pos h.stop.d) (at (ahead form) (vec h.stop) *ℤ (cross q).d)) as (λ _. NotAfter form (cross q) (vec h.stop)) [
          | inl s ↦ s
          | inr s ↦ absurd (not_last (ends_here h.start h.stop h.crossings p k t c b label h.cut (deep_left form u v w (vec h.stop) hn (stop_zero h.start h.stop h.crossings) h.cut.left h.cut.right cut.right h.in_time s)))
        ];
        opens = λ own. let o = way_over m is_map facts ts ls good p k t c Left b label own in (o.k, o.b, o.found, o.label);
      }
  goes_on p k t c Right h wall not_last b label cut =
      let q : Portal = way_out p Right t in
      let u = pv m p.left in let v = pv m p.right in let w = pv m t in
      let hn = direction m facts ts ls good form p h.cut in
      let pd = cross_d m facts ts ls good form p h.cut in
      let qd = cross_d m facts ts ls good form q cut in
      let later = later_right form u v w hn b.turn h.cut.right in
      record {
        start = h.start;
        stop = h.stop;
        crossings = h.crossings;
        forward = h.forward;
        first = h.first;
        first_edge = h.first_edge;
        first_cut = h.first_cut;
        cut = cut;
        order = not_after_chain form (cross h.first) (cross p) (cross q) (cross_d m facts ts ls good form h.first h.first_cut) pd qd h.order (omega (arith, linear, later));
        clear = λ z zd e after before x. elim (le_or_lt (at (ahead form) (cross p) *ℤ z.d) (at (ahead form) z *ℤ (cross p).d)) as (λ _. ⊥) [
          | inr s ↦ h.clear z zd e after s x
          | inl s ↦ deep_clear p k t c b label wall z zd (deep_right form u v w z hn e h.cut.left h.cut.right cut.left s before) x
        ];
        in_time = elim (le_or_lt (at (ahead form) (cross q) *ℤ pos h.stop.d) (at (ahead form) (vec h.stop) *ℤ (cross q).d)) as (λ _. NotAfter form (cross q) (vec h.stop)) [
          | inl s ↦ s
          | inr s ↦ absurd (not_last (ends_here h.start h.stop h.crossings p k t c b label h.cut (deep_right form u v w (vec h.stop) hn (stop_zero h.start h.stop h.crossings) h.cut.left h.cut.right cut.left h.in_time s)))
        ];
        opens = λ own. let o = way_over m is_map facts ts ls good p k t c Right b label own in (o.k, o.b, o.found, o.label);
      }

  pub progress : (q : Portal) (ks : List ℕ) → Walked m ts r q ks → Progress q
  progress q ks (begun k t f e g) = starts q t f
  progress q ks (stepped p js k w n s e) =
      let h = progress p js w in
      let wall = open_of p s.passable in
      let o = h.opens wall in
      let b = behind m ts ls good p o.0 o.2 in
      let tip : s.tip ≡ b.0 = same_Some s.tip b.0 (sym s.third ∙ b.1.tip) in
      let out : q ≡ way_out p s.way b.0 = s.out ∙ ap (way_out p s.way) tip in
      let cut : IsCut q = record { left = subst (λ (x : ℤ). pos 0 <ℤ x) (value_at_is r.a r.b r.c (point_of (place m q.left))) s.crossed.left; right = subst (λ (x : ℤ). x <ℤ pos 0) (value_at_is r.a r.b r.c (point_of (place m q.right))) s.crossed.right } in
      subst Progress (sym out) (goes_on p o.0 b.0 o.1 s.way h wall n b.1 o.3 (subst IsCut out cut))
