-- The walk along a line that meets no map point, from a triangle of a source to a point past no solid line: the point is in a triangle of the source, or in one that a sequence of the source enters.
use Rattle.std.proofs.Common.{ℤ, pos, ◌*ℤ◌, ◌≡◌, refl, sym, ap, ◌∙◌, ℕ, zero, suc, ◌<◌, List, [], ◌∷◌, length, arith, ◌<ℤ◌, ◌⊎◌, inl, inr, subst, slice_get, Option, Some, None, option_map}
use Rattle.std.specs.List.{AllByRecursion, last_or}
use Rattle.std.proofs.lemmas.Option.{same_Some}
use Rattle.math_base.proofs.Signs.{sign_cases, le_or_lt}
use Rattle.sight_names.specs.declared.names.Triangle.{Triangle}
use Rattle.sight_names.specs.Map.{Map, IsMap}
use Rattle.sight_names.specs.Points.{points_of}
use Rattle.sight_names.specs.Mesh.{label_of, triangle_at, IsGoodMesh}
use Rattle.sight_names.specs.Sequence.{Portal, Way, Left, Right, IsSolidLine, LeadsOutside, Splits, apex, entry_edge, portals_from, way_out}
use Rattle.plane_base.proofs.Vec.{V, Lin, at, det, bary}
use Rattle.plane_base.proofs.Walk.{Closed}
use Rattle.mesh_base.proofs.SightLaws.Places.{ahead, norm, Before, NotAfter, between}
use Rattle.mesh_base.proofs.GoodMesh.{PointFacts, pv, tri_of, same_or_not}
use Rattle.plane_base.proofs.Linear.{linear}
use Rattle.mesh_base.proofs.SightLaws.Crossings.{crossing, crossing_on, after, turn_nonneg, back_nonneg, third_left, later_left, later_right, before_chain, before_crossing, crossing_in, third_right}
use Rattle.sight_lift.proofs.Behind.{Third, Behind, behind, behind_third, third_first, third_turned, third_in}
use Rattle.sight_lift.proofs.Doors.{Door, Over, step_over}
use Rattle.sight_lift.proofs.PointLabels.{closed_back}
use Rattle.sight_lift.proofs.Stroll.{portal_on, crossed_d, weak, value_is, signs_turn, Clear}
use Rattle.sight_lift.proofs.Tally.{count, lies_ahead, fewer, all_of, in_all}
use Rattle.sight_lift.proofs.Tails.{IsCrossed, root_listed, root_portal_is}
use Rattle.math_base.proofs.Small.{zero_by_second}
use Rattle.pair_answer.specs.EnteredTriangles.Entered.{Enters}

-- a triangle of label a has the point
pub record IsOwn (m : Map) (ts : List Triangle) (ls : List (Option ℕ)) (a : ℕ) (q : V) : Type 0 where
  pub k : ℕ
  pub t : Triangle
  pub is : slice_get ts k ≡ Some t
  pub label : label_of ls k ≡ Some a
  pub closed : Closed (tri_of m t) q

-- a triangle that sight out of a enters has it
pub record IsBeyond (m : Map) (ts : List Triangle) (ls : List (Option ℕ)) (a : ℕ) (q : V) : Type 0 where
  pub k : ℕ
  pub t : Triangle
  pub is : slice_get ts k ≡ Some t
  pub enters : Enters m ts ls a k
  pub closed : Closed (tri_of m t) q

abbrev pub IsHeld : Map → List Triangle → List (Option ℕ) → ℕ → V → Type 0
IsHeld m ts ls a q = IsOwn m ts ls a q ⊎ IsBeyond m ts ls a q

-- the rest of a sequence of source a, from portal p on, which the line x, y, z splits and whose last portal leads into a triangle that has the point
pub record TailTo (m : Map) (ts : List Triangle) (ls : List (Option ℕ)) (x y z : ℤ) (a : ℕ) (q : V) (p : Portal) : Type 0 where
  pub ways : List Way
  pub rest : List Portal
  pub is : portals_from ts (Some p) ways ≡ Some (p ∷ rest)
  pub no_wall : AllByRecursion (λ (d : Portal). ¬ IsSolidLine m d) (p ∷ rest)
  pub outside : AllByRecursion (LeadsOutside ts ls a) (p ∷ rest)
  pub split : Splits m (p ∷ rest) x y z
  pub last : Portal
  pub is_last : last_or None (p ∷ rest) ≡ Some last
  pub k : ℕ
  pub found : triangle_at ts (entry_edge last) ≡ Some k
  pub t : Triangle
  pub there : slice_get ts k ≡ Some t
  pub closed : Closed (tri_of m t) q

end_to : (m : Map) (ts : List Triangle) (ls : List (Option ℕ)) (x y z : ℤ) (a c : ℕ) (q : V) (p : Portal) (k : ℕ) (t : Triangle) → ¬ IsSolidLine m p → triangle_at ts (entry_edge p) ≡ Some k → label_of ls k ≡ Some c → ¬ (c ≡ a) → IsCrossed m x y z p → slice_get ts k ≡ Some t → Closed (tri_of m t) q
    → TailTo m ts ls x y z a q p
end_to m ts ls x y z a c q p k t wall found label n crossed there closed = record {
  ways = [];
  rest = [];
  is = refl;
  no_wall = (wall, tt);
  outside = ((k, found, λ e. n (same_Some c a (sym label ∙ e))), tt);
  split = (crossed, tt);
  last = p;
  is_last = refl;
  k = k;
  found = found;
  t = t;
  there = there;
  closed = closed;
}

more_to : (m : Map) (ts : List Triangle) (ls : List (Option ℕ)) (x y z : ℤ) (a : ℕ) (q : V) (p : Portal) (k t c : ℕ) (w : Way) → ¬ IsSolidLine m p → triangle_at ts (entry_edge p) ≡ Some k → label_of ls k ≡ Some c → ¬ (c ≡ a) → IsCrossed m x y z p → apex ts p ≡ Some t → TailTo m ts ls x y z a q (way_out p w t)
    → TailTo m ts ls x y z a q p
more_to m ts ls x y z a q p k t c w wall found label n crossed tip h = record {
  ways = w ∷ h.ways;
  rest = way_out p w t ∷ h.rest;
  is = ap (λ (o : Option ℕ). option_map (λ (ps : List Portal). p ∷ ps) (portals_from ts (option_map (way_out p w) o) h.ways)) tip ∙ ap (option_map (λ (ps : List Portal). p ∷ ps)) h.is;
  no_wall = (wall, h.no_wall);
  outside = ((k, found, λ e. n (same_Some c a (sym label ∙ e))), h.outside);
  split = (crossed, h.split);
  last = h.last;
  is_last = h.is_last;
  k = h.k;
  found = h.found;
  t = h.t;
  there = h.there;
  closed = h.closed;
}

-- one that begins with a passable line out of the source is a sequence
rooted_to : (m : Map) (ts : List Triangle) (ls : List (Option ℕ)) (x y z : ℤ) (a c : ℕ) (q : V) (p : Portal) → Door m a c p → ¬ (c ≡ a) → TailTo m ts ls x y z a q p → IsBeyond m ts ls a q
rooted_to m ts ls x y z a c q p d n h = record {
  k = h.k;
  t = h.t;
  is = h.there;
  enters = (
    record { root = record { line = d.number; left = d.left }; ways = h.ways },
    record {
      portals = p ∷ h.rest;
      is = record {
        root = root_listed m a c d.number d.line d.left d.is d.passable d.from d.to n;
        portals = ap (λ (o : Option Portal). portals_from ts o h.ways) (root_portal_is m d.number d.line d.left p d.is d.edge) ∙ h.is;
        no_wall = h.no_wall;
        outside = h.outside;
      };
      line = (x, y, z, h.split);
      into = record { last = h.last; is_last = h.is_last; triangle = h.found };
    },
  );
  closed = h.closed;
}

module _ (m : Map) (is_map : IsMap m) (facts : PointFacts m) (ts : List Triangle) (ls : List (Option ℕ)) (good : IsGoodMesh m ts ls)
    (g : Lin) (hn : pos 0 <ℤ norm g) (free : (k : ℕ) → k < length (points_of m) → at g (pv m k) ≡ pos 0 → ⊥)
    (P Q : V) (pd : pos 0 <ℤ P.d) (qd : pos 0 <ℤ Q.d) (gP : at g P ≡ pos 0) (gQ : at g Q ≡ pos 0) (clear : Clear m P Q)
    (a : ℕ) where
  abbrev cross : Portal → V
  cross p = crossing g (pv m p.left) (pv m p.right)

  -- the walk has come through p into triangle k, of label c, and leaves it behind P
  pub record At (p : Portal) (k c : ℕ) : Type 0 where
    pub t : ℕ
    pub behind : Behind m ts p k t
    pub label : label_of ls k ≡ Some c
    pub left : pos 0 <ℤ at g (pv m p.left)
    pub right : at g (pv m p.right) <ℤ pos 0
    pub in_by : NotAfter g (cross p) Q
    pub left_out : at g (pv m t) <ℤ pos 0 → Before g P (crossing g (pv m p.left) (pv m t))
    pub right_out : pos 0 <ℤ at g (pv m t) → Before g P (crossing g (pv m t) (pv m p.right))

  abbrev Ahead : Portal → ℕ → Type 0
  Ahead p c = (¬ (c ≡ a)) × (¬ IsSolidLine m p → TailTo m ts ls g.a g.b g.c a Q p)

  -- the end is reached, or it is from here on
  abbrev pub Outcome : Portal → ℕ → Type 0
  Outcome p c = IsHeld m ts ls a Q ⊎ Ahead p c

  -- a portal that the segment crosses is no solid line
  no_wall : (q : Portal) → pos 0 <ℤ at g (pv m q.left) → at g (pv m q.right) <ℤ pos 0 → Before g P (cross q) → Before g (cross q) Q → ¬ IsSolidLine m q
  no_wall q hl hr hp hq (i, l, left, is, solid, e) =
      let xd = crossed_d m g q.left q.right hl hr in
      clear i l is solid (cross q) xd
      (between g P Q (cross q) hn pd qd xd gP gQ (crossing_on g (pv m q.left) (pv m q.right)) (weak g P (cross q) hp) (weak g (cross q) Q hq))
      (portal_on m facts i l left q (cross q) is e (crossing_in g (pv m q.left) (pv m q.right) hl hr))

  crossed : (p : Portal) (k c : ℕ) → At p k c → IsCrossed m g.a g.b g.c p
  crossed p k c h = (subst (λ (x : ℤ). pos 0 <ℤ x) (sym (value_is m g p.left)) h.left, subst (λ (x : ℤ). x <ℤ pos 0) (sym (value_is m g p.right)) h.right)

  into : (c : ℕ) (q : Portal) (o : Over m ts ls c q) → pos 0 <ℤ at g (pv m q.left) → at g (pv m q.right) <ℤ pos 0 → Before g P (cross q) → Before g (cross q) Q → At q o.k o.b
  into c q o hl hr hp hq =
      let w = behind m ts ls good q o.k o.found in
      let u = pv m q.left in let v = pv m q.right in let t = pv m w.0 in
      let turn = w.1.turn in
      let xd = crossed_d m g q.left q.right hl hr in
      record {
        t = w.0;
        behind = w.1;
        label = o.label;
        left = hl;
        right = hr;
        in_by = weak g (cross q) Q hq;
        left_out = λ s. before_chain g P (cross q) (crossing g u t) pd xd (crossed_d m g q.left w.0 hl s) hp (later_left g u v t hn turn hl);
        right_out = λ s. before_chain g P (cross q) (crossing g t v) pd xd (crossed_d m g w.0 q.right s hr) hp (later_right g u v t hn turn hr);
      }

  stop : (p : Portal) (k c : ℕ) → (h : At p k c) → Closed (record { a = pv m p.left; b = pv m p.right; c = pv m h.t }) Q → Outcome p c
  stop p k c h there =
      let closed : Closed (tri_of m h.behind.tri) Q = closed_back (tri_of m h.behind.tri) (record { a = pv m p.left; b = pv m p.right; c = pv m h.t }) Q (third_in m h.behind.tri p.left p.right h.t h.behind.third) there in
      elim (same_or_not c a) as (λ _. Outcome p c) [
        | inl same ↦ inl (inl (record { k = k; t = h.behind.tri; is = h.behind.is; label = h.label ∙ ap (λ (x : ℕ). Some x) same; closed = closed }))
        | inr n ↦ inr (n, λ wall. end_to m ts ls g.a g.b g.c a c Q p k h.behind.tri wall h.behind.found h.label n (crossed p k c h) h.behind.is closed)
      ]

  joined : (p : Portal) (k c : ℕ) (h : At p k c) (w : Way) (o : Over m ts ls c (way_out p w h.t)) → ¬ IsSolidLine m (way_out p w h.t) → Outcome (way_out p w h.t) o.b → Outcome p c
  joined p k c h w o wall (inl done) = inl done
  joined p k c h w o wall (inr more) = elim (same_or_not c a) as (λ _. Outcome p c) [
    | inl same ↦ elim o.link as (λ _. Outcome p c) [
      | inl e ↦ absurd (more.0 (sym e ∙ same))
      | inr d ↦ inl (inr (rooted_to m ts ls g.a g.b g.c a o.b Q (way_out p w h.t) (subst (λ (x : ℕ). Door m x o.b (way_out p w h.t)) same d) more.0 (more.1 wall)))
    ]
    | inr n ↦ inr (n, λ own. more_to m ts ls g.a g.b g.c a Q p k h.t c w own h.behind.found h.label n (crossed p k c h) h.behind.tip (more.1 wall))
  ]

  stroll : (n : ℕ) (p : Portal) (k c : ℕ) → At p k c → count (lies_ahead g (cross p)) (all_of m ts) < n → Outcome p c
  stroll zero p k c h l = absurd (omega arith)
  stroll (suc n) p k c h l =
      let u = pv m p.left in let v = pv m p.right in let t = pv m h.t in
      let turn = h.behind.turn in
      let ab = turn_nonneg g u v Q hn gQ h.in_by in
      let hl = h.left in let hr = h.right in
      let xd = crossed_d m g p.left p.right hl hr in
      elim (sign_cases (at g t)) as (λ _. Outcome p c) [
        | inr (inl z) ↦ absurd (free h.t h.behind.tip_in z)
        | inl s ↦ elim (le_or_lt (at (ahead g) Q *ℤ (crossing g u t).d) (at (ahead g) (crossing g u t) *ℤ Q.d)) as (λ _. Outcome p c) [
          | inl e ↦
              let ca = back_nonneg g u t Q hn gQ e in
              stop p k c h (record { ab = ab; bc = third_left g u v t Q turn gQ hl (omega (arith, linear, hr)) (omega (arith, linear, s)) ab ca; ca = ca })
          | inr e ↦
              let q : Portal = way_out p Left h.t in
              let wall = no_wall q hl s (h.left_out s) e in
              let o = step_over m is_map facts ts ls good k c h.behind.tri h.behind.is h.label q (third_first h.behind.tri h.t p.left p.right (third_turned h.behind.tri p.right h.t p.left (third_turned h.behind.tri p.left p.right h.t h.behind.third))) wall in
              let i = into c q o hl s (h.left_out s) e in
              let fall = fewer g (cross p) (cross q) (record { a = u; b = t; c = pv m i.t }) (all_of m ts) (in_all m ts o.k i.behind.tri _ i.behind.is (third_in m i.behind.tri p.left h.t i.t i.behind.third)) refl xd (crossed_d m g p.left h.t hl s) (later_left g u v t hn turn hl) in
              joined p k c h Left o wall (stroll n q o.k o.b i (omega (arith, fall, l)))
        ]
        | inr (inr s) ↦ elim (le_or_lt (at (ahead g) Q *ℤ (crossing g t v).d) (at (ahead g) (crossing g t v) *ℤ Q.d)) as (λ _. Outcome p c) [
          | inl e ↦
              let bc = back_nonneg g t v Q hn gQ e in
              stop p k c h (record { ab = ab; bc = bc; ca = third_right g u v t Q turn gQ (omega (arith, linear, hl)) hr (omega (arith, linear, s)) ab bc })
          | inr e ↦
              let q : Portal = way_out p Right h.t in
              let wall = no_wall q s hr (h.right_out s) e in
              let o = step_over m is_map facts ts ls good k c h.behind.tri h.behind.is h.label q (third_first h.behind.tri p.right h.t p.left (third_turned h.behind.tri p.left p.right h.t h.behind.third)) wall in
              let i = into c q o s hr (h.right_out s) e in
              let fall = fewer g (cross p) (cross q) (record { a = t; b = v; c = pv m i.t }) (all_of m ts) (in_all m ts o.k i.behind.tri _ i.behind.is (third_in m i.behind.tri h.t p.right i.t i.behind.third)) refl xd (crossed_d m g h.t p.right s hr) (later_right g u v t hn turn hr) in
              joined p k c h Right o wall (stroll n q o.k o.b i (omega (arith, fall, l)))
        ]
      ]

  pub walks : (p : Portal) (k c : ℕ) → At p k c → Outcome p c
  walks p k c h = stroll (suc (count (lies_ahead g (cross p)) (all_of m ts))) p k c h (omega arith)

  -- from a point strictly inside a triangle of the source, whose entered edge is from u to v
  at_start : (k : ℕ) (tri : Triangle) (u v w : ℕ) → slice_get ts k ≡ Some tri → label_of ls k ≡ Some a → Third tri u v w → Before g P Q
      → pos 0 <ℤ det (pv m u) (pv m v) P → pos 0 <ℤ det (pv m v) (pv m w) P → pos 0 <ℤ det (pv m w) (pv m u) P → pos 0 <ℤ at g (pv m u) → at g (pv m v) <ℤ pos 0 → At (record { left = u; right = v }) k a
  at_start k tri u v w is label third on uv vw wu hu hv = record {
    t = w;
    behind = behind_third m ts ls good (record { left = u; right = v }) k w tri is third;
    label = label;
    left = hu;
    right = hv;
    in_by = weak g (crossing g (pv m u) (pv m v)) Q (before_chain g (crossing g (pv m u) (pv m v)) P Q (crossed_d m g u v hu hv) pd qd (after g (pv m u) (pv m v) P hn gP uv) on);
    left_out = λ s. before_crossing g (pv m u) (pv m w) P hn gP wu;
    right_out = λ s. before_crossing g (pv m w) (pv m v) P hn gP vw;
  }

  pub from_inside : (k : ℕ) (tri : Triangle) (u v w : ℕ) → slice_get ts k ≡ Some tri → label_of ls k ≡ Some a → Third tri u v w → Before g P Q
      → pos 0 <ℤ det (pv m u) (pv m v) P → pos 0 <ℤ det (pv m v) (pv m w) P → pos 0 <ℤ det (pv m w) (pv m u) P → IsHeld m ts ls a Q
  from_inside k tri u v w is label third on uv vw wu =
      let t1 = third_turned tri u v w third in
      let t2 = third_turned tri v w u t1 in
      let x = behind_third m ts ls good (record { left = u; right = v }) k w tri is third in
      let z : det (pv m u) (pv m v) (pv m w) *ℤ at g P ≡ pos 0 = zero_by_second _ (at g P) gP in
      elim (signs_turn (det (pv m v) (pv m w) P) (det (pv m w) (pv m u) P) (det (pv m u) (pv m v) P) (at g (pv m u)) (at g (pv m v)) (at g (pv m w)) vw wu uv
      (free u x.left_in) (free v x.right_in) (free w x.tip_in) (sym (bary g (pv m u) (pv m v) (pv m w) P) ∙ z)) as (λ _. IsHeld m ts ls a Q) [
        | inl s ↦ finish u v (walks (record { left = u; right = v }) k a (at_start k tri u v w is label third on uv vw wu s.0 s.1))
        | inr (inl s) ↦ finish v w (walks (record { left = v; right = w }) k a (at_start k tri v w u is label t1 on vw wu uv s.0 s.1))
        | inr (inr s) ↦ finish w u (walks (record { left = w; right = u }) k a (at_start k tri w u v is label t2 on wu uv vw s.0 s.1))
      ]
    where
      finish : (x y : ℕ) → Outcome (record { left = x; right = y }) a → IsHeld m ts ls a Q
      finish x y (inl done) = done
      finish x y (inr more) = absurd (more.0 refl)
