-- Whatever one sees from a triangle of a source is in a triangle of it or in an entered one; what is entered is of a sector that is seen.
use Rattle.std.proofs.Common.{ℤ, pos, ◌+ℤ◌, ◌-ℤ◌, ◌*ℤ◌, ◌≡◌, refl, sym, ap, ◌∙◌, ℕ, zero, suc, ◌<◌, List, [], ◌∷◌, length, arith, ◌<ℤ◌, ◌⊎◌, inl, inr, subst, Option, Some, None, Contains, option_and_then}
use borrow.Author.Differences.{ints}
use Rattle.std.specs.List.{AllByRecursion, last_or}
use Rattle.std.proofs.lemmas.Option.{same_Some}
use Rattle.math_base.proofs.Quoting.{quoting, by_ring}
use Rattle.sight_names.specs.declared.names.Triangle.{Triangle}
use Rattle.sight_names.specs.Point.{Point, OnSegment, point_of}
use Rattle.sight_names.specs.Map.{Map, IsMap}
use Rattle.sight_names.specs.Path.{MissesSolid}
use Rattle.sight_names.specs.Points.{place, points_of}
use Rattle.sight_names.specs.Mesh.{IsGoodMesh, label_of, triangle_at}
use Rattle.sight_names.specs.Sequence.{Portal, LeadsOutside, entry_edge, reached}
use Rattle.sight_names.proofs.Laws.{misses_sym}
use Rattle.sight_names.proofs.Portals.{scale_above}
use Rattle.plane_base.proofs.Vec.{V, at, edge, det, det-first, det-last, det-cycle, on_back, times, at_times}
use Rattle.plane_base.proofs.Walk.{Closed}
use Rattle.plane_base.proofs.Wedge.{on_within}
use Rattle.plane_base.proofs.Near.{on_first}
use Rattle.mesh_base.proofs.SightLaws.Bridge.{vec, on_of_segment, segment_of_on, turn_at_is}
use Rattle.mesh_base.proofs.SightLaws.Crossings.{norm_above}
use Rattle.mesh_base.proofs.SightLaws.Paths.{point_at}
use Rattle.mesh_base.proofs.GoodMesh.{pv, tri_of}
use Rattle.mesh_base.proofs.MapFacts.{map_facts}
use Rattle.sight_lift.specs.Lift.{InClosedTriangle, InLabelled}
use Rattle.sight_lift.proofs.Behind.{Third, behind_third}
use Rattle.sight_lift.proofs.Free.{Every, free_start}
use Rattle.sight_lift.proofs.LiftLaws.{sight_is_lifted, turns_back}
use Rattle.sight_lift.proofs.Parting.{parted_solid, clear_of, points_to, every_point, from_to, IsSameV}
use Rattle.sight_lift.proofs.Stroll.{Clear}
use Rattle.pair_answer.specs.EnteredTriangles.Entered.{Enters}
use Rattle.pair_answer.specs.EnteredTriangles.Laws.{InNumbered, SightStaysWithin, UnseenIsNotEntered}
use Rattle.pair_answer.proofs.EnteredTriangles.Near.{AreAbove, HaveToo, Near, near_both, near_triangles}
use Rattle.pair_answer.proofs.EnteredTriangles.Strolling.{IsHeld, IsOwn, from_inside}

turns : (m : Map) (t : Triangle) (p : Point) → InClosedTriangle m t p → Closed (tri_of m t) (vec p)
turns m t p h =
    let a = turn_at_is (place m t.p) (place m t.q) p in let b = turn_at_is (place m t.q) (place m t.r) p in let c = turn_at_is (place m t.r) (place m t.p) p in
    let x = h.pq in let y = h.qr in let z = h.rp in
    record { ab = omega (arith, ints); bc = omega (arith, ints); ca = omega (arith, ints) }

-- ---- segments

solid_sym : (m : Map) (p q : Point) → MissesSolid m p q → MissesSolid m q p
solid_sym m p q h i l is solid = misses_sym p q l (h i l is solid)

-- a part of the segment from its start misses them too
solid_part : (m : Map) (p q r : Point) → OnSegment p q r → MissesSolid m p q → MissesSolid m p r
solid_part m p q r on h i l is solid z on_z on_l = h i l is solid z (segment_of_on p q z (on_within (vec p) (vec q) (vec p) (vec r) (vec z) (on_first (vec p) (vec q)) (on_of_segment p q r on) (on_of_segment p r z on_z))) on_l

solid_of_clear : (m : Map) (p q : Point) → Clear m (vec q) (vec p) → MissesSolid m p q
solid_of_clear m p q h i l is solid z on on_l = h i l is solid (vec z) (scale_above z) (on_back (vec p) (vec q) (vec z) (on_of_segment p q z on)) (on_of_segment (point_of l.first) (point_of l.second) z on_l)

-- ---- points that are no map points

abbrev half : V
half = record { x = pos 1; y = pos 1; d = pos 2 }

none_half : (m : Map) (n : ℕ) → Every (λ (z : V). ¬ IsSameV z half) (points_to m n)
none_half m zero = tt
none_half m (suc n) = ((λ s. odd (place m n).x s.0), none_half m n)
  where
    odd : (x : ℤ) → x *ℤ pos 2 ≡ pos 1 *ℤ pos 1 → ⊥
    odd x e = omega (arith, ints, e)

-- a whole point that is q is on each line through q
on_line_to : (u z q : V) → z.d ≡ pos 1 → IsSameV z q → det u z q ≡ pos 0
on_line_to u z q whole same =
    let e : q ≡ times q.d z = parts q z whole same in
    ap (λ (v : V). det u z v) e ∙ at_times (edge u z) q.d z ∙ ap (λ (k : ℤ). q.d *ℤ k) (det-last u z) ∙ omega (arith, ints)
  where
    parts : (q z : V) → z.d ≡ pos 1 → IsSameV z q → q ≡ times q.d z
    parts q z whole same =
        let x : q.x ≡ q.d *ℤ z.x = one q.x (pos 1) z.x q.d (ap (λ (k : ℤ). q.x *ℤ k) (sym whole)) same.0 in
        let y : q.y ≡ q.d *ℤ z.y = one q.y (pos 1) z.y q.d (ap (λ (k : ℤ). q.y *ℤ k) (sym whole)) same.1 in
        let d : q.d ≡ q.d *ℤ z.d = unit q.d ∙ ap (λ (k : ℤ). q.d *ℤ k) (sym whole) in
        λ i. record { x = x i; y = y i; d = d i }
      where
        unit : (k : ℤ) → k ≡ k *ℤ pos 1
        unit k = omega (arith, ints)

        one : (a n b k : ℤ) → a *ℤ pos 1 ≡ a *ℤ z.d → b *ℤ k ≡ a *ℤ z.d → a ≡ k *ℤ b
        one a n b k e f = unit a ∙ e ∙ sym f ∙ swapped b k
          where
            swapped : (b k : ℤ) → b *ℤ k ≡ k *ℤ b
            swapped b k = by_ring (b ∷ k ∷ []) _ _ (search quoting depth 60 fits 400000) (search quoting depth 60 fits 400000) tt

none_here : (m : Map) (u q : V) (n : ℕ) → Every (λ (z : V). det u z q ≡ pos 0 → ⊥) (points_to m n) → Every (λ (z : V). ¬ IsSameV z q) (points_to m n)
none_here m u q zero h = tt
none_here m u q (suc n) h = ((λ s. h.0 (on_line_to u (pv m n) q refl s)), none_here m u q n h.1)

-- ---- a point near a given one that is no map point

-- the triangle of the point and two more, one beside it and one above it
abbrev aside : V → V
aside q = record { x = q.x +ℤ pos 1; y = q.y; d = q.d }

abbrev above : V → V
above q = record { x = q.x; y = q.y +ℤ pos 1; d = q.d }

corner_ring : (x y d : ℤ) → (y *ℤ d -ℤ d *ℤ y) *ℤ x +ℤ (d *ℤ (x +ℤ pos 1) -ℤ x *ℤ d) *ℤ (y +ℤ pos 1) +ℤ (x *ℤ y -ℤ y *ℤ (x +ℤ pos 1)) *ℤ d ≡ d
corner_ring x y d = by_ring (x ∷ y ∷ d ∷ []) _ _ (search quoting depth 60 fits 1000000) (search quoting depth 60 fits 1000000) tt

corner_turn : (q : V) → det q (aside q) (above q) ≡ q.d
unfolding at edge
corner_turn q = corner_ring q.x q.y q.d

pub record Beside (m : Map) (z : V) (Holds : V → Type 0) : Type 0 where
  pub q : Point
  pub holds : Holds (vec q)
  pub none : Every (λ (y : V). ¬ IsSameV y (vec q)) (points_to m (length (points_of m)))

beside : (m : Map) (z : V) (Holds : V → Type 0) → pos 0 <ℤ z.d → Near z Holds → Beside m z Holds
beside m z Holds zd near =
    let n = length (points_of m) in
    let turn : pos 0 <ℤ det z (aside z) (above z) = subst (λ (k : ℤ). pos 0 <ℤ k) (sym (corner_turn z)) zd in
    let zero_at = det-first z (aside z) in
    let zero_too = det-last (above z) z in
    let across : pos 0 <ℤ det (aside z) (above z) z = subst (λ (k : ℤ). pos 0 <ℤ k) (sym (det-cycle z (aside z) (above z))) turn in
    let start = free_start z (aside z) (above z) zd zd zd turn near.forms (points_to m n) z half zd (omega (arith, ints)) (record { ab = omega (arith, ints, zero_at); bc = omega (arith, ints, across); ca = omega (arith, ints, zero_too) }) near.first (none_half m n) in
    let x = point_at start.p start.good.d in
    record {
      q = x.0;
      holds = subst Holds (sym x.1) (near.keeps start.p start.good.each);
      none = none_here m half (vec x.0) n (subst (λ (v : V). Every (λ (y : V). det half y v ≡ pos 0 → ⊥) (points_to m n)) (sym x.1) start.free);
    }

-- ---- sight from a triangle

around : (p q z : V) → at (edge p q) z ≡ pos 0 → det q z p ≡ pos 0
around p q z e = det-cycle p q z ∙ e

-- to a point that is no map point
module _ (m : Map) (is_map : IsMap m) (ts : List Triangle) (ls : List (Option ℕ)) (good : IsGoodMesh m ts ls) (a : ℕ) where
  held_if_free : (p q : Point) → IsOwn m ts ls a (vec p) → MissesSolid m p q → Every (λ (z : V). ¬ IsSameV z (vec q)) (points_to m (length (points_of m))) → IsHeld m ts ls a (vec q)
  held_if_free p q own clear none =
      let facts = map_facts m is_map in
      let n = length (points_of m) in
      let t = own.t in
      let third : Third t t.p t.q t.r = record { is = inl (refl, refl, refl) } in
      let here = behind_third m ts ls good (record { left = t.p; right = t.q }) own.k t.r t own.is third in
      let parted = parted_solid m p q is_map clear in
      let closed = own.closed in
      let start = free_start (pv m t.p) (pv m t.q) (pv m t.r) (omega (arith, ints)) (omega (arith, ints)) (omega (arith, ints)) here.turn parted.forms (points_to m n) (vec p) (vec q) (scale_above p) (scale_above q)
      (record { ab = closed.ab; bc = closed.bc; ca = closed.ca }) parted.first none in
      let P = start.p in let Q = vec q in
      let g = edge P Q in
      let free : (k : ℕ) → k < n → at g (pv m k) ≡ pos 0 → ⊥ = λ k l e. every_point (λ (z : V). det Q z P ≡ pos 0 → ⊥) m n k l start.free (around P Q (pv m k) e) in
      let gP = det-first P Q in
      let gQ = det-last P Q in
      let hn = norm_above g P (pv m t.p) start.good.d gP (free t.p here.left_in) in
      from_inside m is_map facts ts ls good g hn free P Q start.good.d (scale_above q) gP gQ (clear_of m (vec p) Q P parted start.good.each) a own.k t t.p t.q t.r own.is own.label third (from_to P Q hn) start.good.ab start.good.bc start.good.ca

  -- to any point
  held : (p q : Point) → IsOwn m ts ls a (vec p) → MissesSolid m p q → IsHeld m ts ls a (vec q)
  held p q own clear =
      let parted = parted_solid m q p is_map (solid_sym m p q clear) in
      let apart : Near (vec q) (AreAbove parted.forms) = record { forms = parted.forms; first = parted.first; keeps = λ v h. h } in
      let b = beside m (vec q) (λ v. AreAbove parted.forms v × HaveToo m ts (vec q) v) (scale_above q) (near_both (vec q) (AreAbove parted.forms) (HaveToo m ts (vec q)) apart (near_triangles m ts (vec q))) in
      let near_clear = clear_of m (vec q) (vec p) (vec b.q) parted b.holds.0 in
      moved b.q b.holds.1 (held_if_free p b.q own (solid_of_clear m p b.q near_clear) b.none)
    where
      moved : (v : Point) → HaveToo m ts (vec q) (vec v) → IsHeld m ts ls a (vec v) → IsHeld m ts ls a (vec q)
      moved v too (inl o) = inl (record { k = o.k; t = o.t; is = o.is; label = o.label; closed = too o.k o.t o.is o.closed })
      moved v too (inr o) = inr (record { k = o.k; t = o.t; is = o.is; enters = o.enters; closed = too o.k o.t o.is o.closed })

pub sight_stays : SightStaysWithin
sight_stays m ts ls sources e a p q r is_map good are source start clear on = by (held m is_map ts ls good a p r (record { k = start.k; t = start.t; is = start.is; label = start.label; closed = turns m start.t p start.closed }) (solid_part m p q r on clear))
  where
    by : IsHeld m ts ls a (vec r) → InLabelled m ts ls r a ⊎ InNumbered m ts e.triangles.items r
    by (inl o) = inl (record { k = o.k; t = o.t; is = o.is; label = o.label; closed = turns_back m o.t r o.closed })
    by (inr o) = inr (record { k = o.k; t = o.t; one = (are.exactly o.k).1 (a, source, o.enters); is = o.is; closed = turns_back m o.t r o.closed })

-- ---- what is entered is seen

-- the last portal of a sequence leads out of the source
last_outside : (ts : List Triangle) (ls : List (Option ℕ)) (a : ℕ) (ps : List Portal) (o : Option Portal) (p : Portal) → AllByRecursion (LeadsOutside ts ls a) ps → ((x : Portal) → o ≡ Some x → LeadsOutside ts ls a x) → last_or o ps ≡ Some p → LeadsOutside ts ls a p
last_outside ts ls a [] o p all first e = first p e
last_outside ts ls a (x ∷ xs) o p all first e = last_outside ts ls a xs (Some x) p all.1 (λ y f. subst (LeadsOutside ts ls a) (same_Some x y f) all.0) e

pub unseen_not_entered : UnseenIsNotEntered
unseen_not_entered m ts ls sources e b is_map ends good are unseen k there labelled = by ((are.exactly k).0 there)
  where
    by : (a : ℕ) × Contains sources a × Enters m ts ls a k → ⊥
    by (a, source, (s, x)) =
        let out = last_outside ts ls a x.portals None x.into.last x.is.outside (λ y f. absurd (no y f)) x.into.is_last in
        let same : out.0 ≡ k = same_Some out.0 k (sym out.1 ∙ x.into.triangle) in
        let differ : ¬ (a ≡ b) = λ q. out.2 (ap (label_of ls) same ∙ labelled ∙ ap (λ (n : ℕ). Some n) (sym q)) in
        let arrives : reached ts ls x.portals ≡ Some b =
        ap (option_and_then (λ (p : Portal). option_and_then (label_of ls) (triangle_at ts (entry_edge p)))) x.into.is_last ∙ ap (option_and_then (label_of ls)) x.into.triangle ∙ labelled in
        unseen a source ((sight_is_lifted m ts ls a b is_map ends good differ).1 (s, (x.portals, x.is, x.line, arrives)))
      where
        no : (y : Portal) → ◌≡◌ {A = Option Portal} None (Some y) → ⊥
        no y f = cc
