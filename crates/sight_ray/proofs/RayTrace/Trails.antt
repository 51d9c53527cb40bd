-- A traced ray enters no triangle twice, and it is never lost: behind a portal that is no solid line a labelled triangle follows.
use Rattle.std.proofs.Common.{◌≡◌, ℕ, suc, ◌<◌, ◌≤◌, ◌⊎◌, inl, inr, pos, ◌<ℤ◌, List, [], ◌∷◌, length, length-append, slice_get, Option, Some, None, IsSome, option_map, Bool, true, false, not, ◌==◌, ◌&&◌, ◌||◌, refl, sym, ap, ◌∙◌, subst, arith}
use Rattle.std.specs.List.{AllByRecursion, IsDistinct, list_any}
use lib.Dec.{eqb}
use Rattle.std.proofs.lemmas.Bool.Decides.{nat_tests}
use Rattle.std.proofs.lemmas.Map.Keys.{IsDistinct-cons, IsDistinct-from_apart}
use Rattle.std.proofs.lemmas.Map.Steps.{length-le_from_distinct_below}
use Rattle.std.proofs.lemmas.Option.{same_Some, slice_get_within}
use Rattle.sight_names.specs.declared.names.Ray.{Ray}
use Rattle.sight_names.specs.declared.names.Triangle.{Triangle}
use Rattle.sight_names.specs.Map.{Map, MapLine, IsMap, line_at, named}
use Rattle.sight_names.specs.Points.{points_of, reverse_of}
use Rattle.sight_names.specs.Mesh.{IsGoodMesh, IsTriangle, HasEdge, label_of, side_edge, triangle_at}
use Rattle.sight_names.specs.Sequence.{Portal, Way, Left, Right, entry_edge, root_portal, way_out, IsSolidLine}
use Rattle.plane_base.proofs.Vec.{V, Lin, at}
use Rattle.mesh_base.proofs.SightLaws.Places.{NotAfter, Before}
use Rattle.mesh_base.proofs.GoodMesh.{PointFacts, pv, found_at}
use Rattle.mesh_base.proofs.MapFacts.{map_facts}
use Rattle.plane_base.proofs.Linear.{linear}
use Rattle.mesh_base.proofs.SightLaws.Crossings.{later_left, later_right, not_after_chain}
use Rattle.sight_lift.proofs.Behind.{Third, Behind, behind}
use Rattle.sight_lift.proofs.Pieces.{cross_d, direction}
use Rattle.sight_ray.specs.RayTrace.Trace.{Walked, HasLabelledTriangle, IsFirstPortal, IsPortalOpen, IsTraceable}
use Rattle.sight_ray.specs.RayTrace.Trace.Walked.{begun, stepped}
use Rattle.sight_ray.specs.RayTrace.First.{WalkGoesOn}
use Rattle.sight_ray.proofs.RayTrace.Progress.{progress, form, cross, IsCut}
use Rattle.math_base.proofs.Options.{is_there}
use Rattle.math_base.proofs.Numbers.{is_next, is_told_same, tells_other}
use Rattle.math_base.proofs.Bools.{one_true}
use Rattle.math_base.proofs.Lists.{all_so}

-- the edges of a triangle, by its third point
edge_by_third : (n : ℕ) (t : Triangle) (u v w a b : ℕ) → IsTriangle n t → Third t u v w → HasEdge t (record { from = a; to = b }) → ((a ≡ u) × (b ≡ v)) ⊎ (((a ≡ v) × (b ≡ w)) ⊎ ((a ≡ w) × (b ≡ u)))
edge_by_third n t u v w a b i h e = numbers t.p t.q t.r u v w a b h.is e
  where
    numbers : (p q r u v w a b : ℕ) → ((p ≡ u) × (q ≡ v) × (r ≡ w)) ⊎ (((q ≡ u) × (r ≡ v) × (p ≡ w)) ⊎ ((r ≡ u) × (p ≡ v) × (q ≡ w)))
        → ((p == a && q == b) || (q == a && r == b) || (r == a && p == b)) ≡ true → ((a ≡ u) × (b ≡ v)) ⊎ (((a ≡ v) × (b ≡ w)) ⊎ ((a ≡ w) × (b ≡ u)))
    numbers p q r u v w a b h e = grind (arith, nat_tests)

each_below : (n : ℕ) (xs : List ℕ) → AllByRecursion (λ x. x < n) xs → (q : ℕ) → list_any (eqb q) xs ≡ true → q < n
each_below n [] h q e = absurd (no e)
  where
    no : false ≡ true → ⊥
    no e = cc
each_below n (x ∷ xs) h q e = elim (one_true (eqb q x) (list_any (eqb q) xs) e) as (λ _. q < n) [
  | inl k ↦ subst (λ (y : ℕ). y < n) (sym (is_told_same q x k)) h.0
  | inr k ↦ each_below n xs h.1 q k
]

none_distinct : IsDistinct eqb []
none_distinct = IsDistinct-from_apart eqb [] (λ i j d lt h. absurd (omega arith))

module _ (m : Map) (is_map : IsMap m) (facts : PointFacts m) (ts : List Triangle) (ls : List (Option ℕ)) (good : IsGoodMesh m ts ls) (r : Ray) where
  abbrev g : Lin
  g = form m is_map facts ts ls good r

  abbrev at_portal : Portal → V
  at_portal p = cross m is_map facts ts ls good r p

  abbrev Cut : Portal → Type 0
  Cut p = IsCut m is_map facts ts ls good r p

  -- the ray has left triangle k not after q
  record HasLeft (q : Portal) (k : ℕ) : Type 0 where
    t : Triangle
    is : slice_get ts k ≡ Some t
    x : Portal
    edge : HasEdge t (record { from = x.right; to = x.left })
    cut : Cut x
    order : NotAfter g (at_portal x) (at_portal q)

  record Trail (q : Portal) (n : ℕ) : Type 0 where
    trail : List ℕ
    count : length trail ≡ n
    distinct : IsDistinct eqb trail
    each : AllByRecursion (HasLeft q) trail

  -- it leaves a triangle through one edge
  one_exit : (n : ℕ) (p : Portal) (t : Triangle) (w : ℕ) (y : Way) (x : Portal) → IsTriangle n t → Third t p.left p.right w → Cut p → Cut (way_out p y w) → Cut x → HasEdge t (record { from = x.right; to = x.left }) → x ≡ way_out p y w
  one_exit n p t w Left x i h cp cq cx e = elim (edge_by_third n t p.left p.right w x.right x.left i h e) as (λ _. x ≡ way_out p Left w) [
    | inl s ↦ absurd (let a = cx.right in let b = subst (λ (k : ℕ). pos 0 <ℤ at g (pv m k)) (sym s.0) cp.left in omega (arith, linear, a, b))
    | inr (inl s) ↦ absurd (let a = cx.left in let b = subst (λ (k : ℕ). at g (pv m k) <ℤ pos 0) (sym s.1) cq.right in omega (arith, linear, a, b))
    | inr (inr s) ↦ λ j. record { left = s.1 j; right = s.0 j }
  ]
  one_exit n p t w Right x i h cp cq cx e = elim (edge_by_third n t p.left p.right w x.right x.left i h e) as (λ _. x ≡ way_out p Right w) [
    | inl s ↦ absurd (let a = cx.right in let b = subst (λ (k : ℕ). pos 0 <ℤ at g (pv m k)) (sym s.0) cp.left in omega (arith, linear, a, b))
    | inr (inl s) ↦ λ j. record { left = s.1 j; right = s.0 j }
    | inr (inr s) ↦ absurd (let a = cx.right in let b = subst (λ (k : ℕ). pos 0 <ℤ at g (pv m k)) (sym s.0) cq.left in omega (arith, linear, a, b))
  ]

  later : (p : Portal) (k w : ℕ) (y : Way) → Behind m ts p k w → Cut p → Before g (at_portal p) (at_portal (way_out p y w))
  later p k w Left b c = later_left g (pv m p.left) (pv m p.right) (pv m w) (direction m facts ts ls good g p c) b.turn c.left
  later p k w Right b c = later_right g (pv m p.left) (pv m p.right) (pv m w) (direction m facts ts ls good g p c) b.turn c.right

  exit_edge : (p : Portal) (k w : ℕ) (y : Way) → Behind m ts p k w → (t : Triangle) → slice_get ts k ≡ Some t → (q : Portal) → q ≡ way_out p y w → HasEdge t (record { from = q.right; to = q.left })
  exit_edge p k w y b t is q e = subst (λ (x : Portal). HasEdge t (record { from = x.right; to = x.left })) (sym e) (subst (λ (x : Triangle). HasEdge x (record { from = (way_out p y w).right; to = (way_out p y w).left })) (same_Some b.tri t (sym b.is ∙ is)) (by_way y))
    where
      by_way : (z : Way) → HasEdge b.tri (record { from = (way_out p z w).right; to = (way_out p z w).left })
      by_way Left = last b.tri p.left p.right w b.third
        where
          last : (t : Triangle) (u v w : ℕ) → Third t u v w → HasEdge t (record { from = w; to = u })
          last t u v w h = numbers t.p t.q t.r u v w h.is
            where
              numbers : (p q r u v w : ℕ) → ((p ≡ u) × (q ≡ v) × (r ≡ w)) ⊎ (((q ≡ u) × (r ≡ v) × (p ≡ w)) ⊎ ((r ≡ u) × (p ≡ v) × (q ≡ w))) → ((p == w && q == u) || (q == w && r == u) || (r == w && p == u)) ≡ true
              numbers p q r u v w h = grind (arith, nat_tests)
      by_way Right = middle b.tri p.left p.right w b.third
        where
          middle : (t : Triangle) (u v w : ℕ) → Third t u v w → HasEdge t (record { from = v; to = w })
          middle t u v w h = numbers t.p t.q t.r u v w h.is
            where
              numbers : (p q r u v w : ℕ) → ((p ≡ u) × (q ≡ v) × (r ≡ w)) ⊎ (((q ≡ u) × (r ≡ v) × (p ≡ w)) ⊎ ((r ≡ u) × (p ≡ v) × (q ≡ w))) → ((p == v && q == w) || (q == v && r == w) || (r == v && p == w)) ≡ true
              numbers p q r u v w h = grind (arith, nat_tests)

  grown : (p : Portal) (k w n : ℕ) (y : Way) (q : Portal) → Behind m ts p k w → Cut p → Cut q → q ≡ way_out p y w → Trail p n → Trail q (suc n)
  grown p k w n y q b cp cq e h =
      let on : Before g (at_portal p) (at_portal q) = subst (λ (x : Portal). Before g (at_portal p) (at_portal x)) (sym e) (later p k w y b cp) in
      let cw : Cut (way_out p y w) = subst Cut e cq in
      let new : (j : ℕ) → HasLeft p j → eqb k j ≡ false = λ j l. tells_other k j (λ same.
      let own : HasEdge b.tri (record { from = l.x.right; to = l.x.left }) = subst (λ (t : Triangle). HasEdge t (record { from = l.x.right; to = l.x.left })) (same_Some l.t b.tri (sym l.is ∙ ap (slice_get ts) (sym same) ∙ b.is)) l.edge in
      let one = one_exit (length (points_of m)) p b.tri w y l.x (good.plain.triangles.each k b.tri b.is) b.third cp cw l.cut own ∙ sym e in
      let before : NotAfter g (at_portal q) (at_portal p) = subst (λ (x : Portal). NotAfter g (at_portal x) (at_portal p)) one l.order in
      omega (arith, linear, before, on)) in
      let pd = cross_d m facts ts ls good g p cp in
      let qd = cross_d m facts ts ls good g q cq in
      record {
        trail = k ∷ h.trail;
        count = ap suc h.count;
        distinct = IsDistinct-cons eqb k h.trail (all_so (HasLeft p) (λ j. eqb k j ≡ false) h.trail new h.each) h.distinct;
        each = (
          record { t = b.tri; is = b.is; x = q; edge = exit_edge p k w y b b.tri b.is q e; cut = cq; order = omega (arith, linear) },
          all_so (HasLeft p) (HasLeft q) h.trail (λ j l. record { t = l.t; is = l.is; x = l.x; edge = l.edge; cut = l.cut; order = not_after_chain g (at_portal l.x) (at_portal p) (at_portal q) (cross_d m facts ts ls good g l.x l.cut) pd qd l.order (omega (arith, linear, on)) }) h.each,
        );
      }

  open_of : (p : Portal) → IsPortalOpen m p → ¬ IsSolidLine m p
  open_of p h (i, l, left, is, solid, e) = h i (record { line = l; is = is; solid = solid; left = left; edge = e })

  trail_of : (q : Portal) (ks : List ℕ) → Walked m ts r q ks → Trail q (length ks)
  trail_of q ks (begun k t f e same) =
      let h = progress m is_map facts ts ls good r q ks (begun k t f e same) in
      let u = found_at ts (reverse_of (entry_edge q)) k e in
      record {
        trail = k ∷ [];
        count = sym (ap (λ (xs : List ℕ). length xs) same);
        distinct = IsDistinct-cons eqb k [] tt none_distinct;
        each = (record { t = u.0; is = u.1; x = q; edge = u.2; cut = h.cut; order = omega (arith, linear) }, tt);
      }
  trail_of q ks (stepped p js k walked n s same) =
      let h = progress m is_map facts ts ls good r p js walked in
      let hq = progress m is_map facts ts ls good r q ks (stepped p js k walked n s same) in
      let b = behind m ts ls good p k s.behind in
      let tip : s.tip ≡ b.0 = same_Some s.tip b.0 (sym s.third ∙ b.1.tip) in
      let out : q ≡ way_out p s.way b.0 = s.out ∙ ap (way_out p s.way) tip in
      subst (Trail q) (sym (ap (λ (xs : List ℕ). length xs) same ∙ length-append js (k ∷ []) ∙ is_next (length js))) (grown p k b.0 (length js) s.way q b.1 h.cut hq.cut out (trail_of p js walked))

  few : (q : Portal) (n : ℕ) → Trail q n → n ≤ length ts
  few q n h = subst (λ (k : ℕ). k ≤ length ts) h.count (length-le_from_distinct_below h.trail (length ts) h.distinct (each_below (length ts) h.trail (all_so (HasLeft q) (λ k. k < length ts) h.trail (λ k l. slice_get_within ts k l.t l.is) h.each)))

pub walk_goes_on : WalkGoesOn
walk_goes_on m ts ls r q ks is_map good w =
    let facts = map_facts m is_map in
    let h = progress m is_map facts ts ls good r q ks w in (
      few m is_map facts ts ls good r q (length ks) (trail_of m is_map facts ts ls good r q ks w),
      λ is_open.
          let o = h.opens (open_of m is_map facts ts ls good r q is_open) in
          let b = behind m ts ls good q o.0 o.2 in
          ((o.0, o.2, is_there (label_of ls o.0) o.1 o.3), (b.0, b.1.tip, b.1.tip_in)),
    )

-- ---- the walk begins in the triangle at the side first

other_edge : (m : Map) (l : MapLine) (left : Bool) → reverse_of (side_edge m l (not left)) ≡ side_edge m l left
other_edge m l true = refl
other_edge m l false = refl

abbrev portal_out : Map → Bool → MapLine → Portal
portal_out m left l = let e = side_edge m l (not left) in record { left = e.from; right = e.to }

-- that triangle has a label
pub begins_labelled : (m : Map) (ts : List Triangle) (ls : List (Option ℕ)) (r : Ray) (p q : Portal) → IsGoodMesh m ts ls → IsTraceable m r → IsFirstPortal m r p → entry_edge q ≡ reverse_of (entry_edge p) → HasLabelledTriangle ts ls q
begins_labelled m ts ls r p q good (start, stop, h, forward) is_first back = by_name h.leaves.line h.leaves.is (named m r.first) refl h.names.from
  where
    by_name : (l : MapLine) → line_at m r.first.line ≡ Some l → (o : Option ℕ) → named m r.first ≡ o → IsSome o → HasLabelledTriangle ts ls q
    by_name l is None e some = absurd (none_is some)
      where
        none_is : (let n : Option ℕ = None in IsSome n) → ⊥
        none_is h = cc
    by_name l is (Some a) e some =
        let f = good.fits.sides r.first l a is e in
        let there : root_portal m r.first ≡ Some (portal_out m r.first.left l) = ap (option_map (portal_out m r.first.left)) is in
        let same : portal_out m r.first.left l ≡ p = same_Some (portal_out m r.first.left l) p (sym there ∙ is_first) in
        let entry : reverse_of (entry_edge p) ≡ side_edge m l r.first.left = ap (λ (x : Portal). reverse_of (entry_edge x)) (sym same) ∙ other_edge m l r.first.left in
        (f.0, ap (triangle_at ts) (back ∙ entry) ∙ f.1, is_there (label_of ls f.0) a f.2)
