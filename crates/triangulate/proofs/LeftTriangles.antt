-- The triangles on the left of the segments, one added after another.
use Rattle.std.proofs.Common.{◌≡◌, ◌≢◌, ℕ, ◌+◌, ◌<◌, inl, inr, List, [], ◌∷◌, length, slice_get, get_or, Contains, Some, refl, sym, ap, ◌∙◌, subst, arith}
use Rattle.std.proofs.lemmas.Option.{same_Some, slice_get_within, get_or_from_slice_get}
use Rattle.std.proofs.lemmas.List.Elements.{Contains-append_left, Contains-append_right, Contains-append_cases}
use Rattle.sight_names.specs.declared.names.Triangle.{Triangle}
use borrow.Author.Differences.{ints}
use Rattle.sight_names.specs.Map.{Map}
use Rattle.sight_names.specs.Point.{point_of}
use Rattle.sight_names.specs.Points.{place}
use Rattle.sight_names.specs.Mesh.{IsTriangle}
use Rattle.plane_base.proofs.Vec.{det-last}
use Rattle.mesh_base.proofs.SightLaws.Bridge.{vec, turn_at_is}
use Rattle.sight_names.proofs.Lists.{contains_cases}
use Rattle.triangulate.specs.declared.incident_segments.segments.Segment.{Segment}
use Rattle.triangulate.specs.IncidentSegments.Incident.{has_end, other_end, AreSegments}
use Rattle.triangulate.specs.IncidentSegments.Neighbours.{IsNeighbour}
use Rattle.triangulate.specs.IncidentSegments.Next.{IsLeftOf}
use Rattle.triangulate.specs.Left.{IsLeftTriangle, HasLeftTriangle, HasBothSides, IsLeftAdded, AreLeftTriangles}
use Rattle.triangulate.proofs.IncidentSegments.KeptEdges.{any_segment}
use Rattle.triangulate.proofs.IncidentSegments.Chains.{end_cases, other_from, other_to, end_to, end_from}
use Rattle.math_base.proofs.Numbers.{below_or_last}
use Rattle.math_base.proofs.Lists.{contains_none, contains_here}

-- ---- the ends of a segment are neighbours of one another

pub neighbour_out : (segs : List Segment) (k : ℕ) (s : Segment) → slice_get segs k ≡ Some s → IsNeighbour segs s.from s.to
neighbour_out segs k s e = (
  k,
  slice_get_within segs k s e,
  λ d. ap (has_end s.from) (get_or_from_slice_get segs k s d e) ∙ end_from s,
  λ d. sym (ap (other_end s.from) (get_or_from_slice_get segs k s d e) ∙ other_from s.from s refl),
)

pub neighbour_in : (segs : List Segment) (k : ℕ) (s : Segment) → s.from ≢ s.to → slice_get segs k ≡ Some s → IsNeighbour segs s.to s.from
neighbour_in segs k s n e = (
  k,
  slice_get_within segs k s e,
  λ d. ap (has_end s.to) (get_or_from_slice_get segs k s d e) ∙ end_to s,
  λ d. sym (ap (other_end s.to) (get_or_from_slice_get segs k s d e) ∙ other_to s.to s n refl),
)

-- ---- one way along a segment

pub added_each : (m : Map) (segs : List Segment) (a b : ℕ) (old new : List Triangle) → IsNeighbour segs a b → IsLeftAdded m segs a b old new → ((t : Triangle) → Contains old t → IsLeftTriangle m segs t) → (t : Triangle) → Contains new t → IsLeftTriangle m segs t
added_each m segs a b old new neighbour (inr (inl h)) each t c = each t (subst (λ (xs : List Triangle). Contains xs t) h.0 c)
added_each m segs a b old new neighbour (inl h) each t c = each t (subst (λ (xs : List Triangle). Contains xs t) h.0 c)
added_each m segs a b old new neighbour (inr (inr (x, first, inr h))) each t c = each t (subst (λ (xs : List Triangle). Contains xs t) h.0 c)
added_each m segs a b old new neighbour (inr (inr (x, first, inl h))) each t c = elim (Contains-append_cases old (record { p = a; q = b; r = x } ∷ []) t (subst (λ (xs : List Triangle). Contains xs t) h.2 c)) as (λ _. IsLeftTriangle m segs t) [
  | inl o ↦ each t o
  | inr n ↦ elim (contains_cases (record { p = a; q = b; r = x }) t [] n) as (λ _. IsLeftTriangle m segs t) [
    | inl e ↦ subst (IsLeftTriangle m segs) e (record { least = h.0; least_too = h.1; neighbour = neighbour; first = first })
    | inr none ↦ absurd (contains_none t none)
  ]
]

pub added_keeps : (m : Map) (segs : List Segment) (a b : ℕ) (old new : List Triangle) → IsLeftAdded m segs a b old new → (t : Triangle) → Contains old t → Contains new t
added_keeps m segs a b old new (inr (inl h)) t c = subst (λ (xs : List Triangle). Contains xs t) (sym h.0) c
added_keeps m segs a b old new (inl h) t c = subst (λ (xs : List Triangle). Contains xs t) (sym h.0) c
added_keeps m segs a b old new (inr (inr (x, first, inr h))) t c = subst (λ (xs : List Triangle). Contains xs t) (sym h.0) c
added_keeps m segs a b old new (inr (inr (x, first, inl h))) t c = subst (λ (xs : List Triangle). Contains xs t) (sym h.2) (Contains-append_left old (record { p = a; q = b; r = x } ∷ []) t c)

pub added_has : (m : Map) (segs : List Segment) (a b : ℕ) (old new : List Triangle) → IsLeftAdded m segs a b old new → HasLeftTriangle m segs new a b
added_has m segs a b old new (inl h) = inl h.1
added_has m segs a b old new (inr (inl h)) = inr (inl h.1)
added_has m segs a b old new (inr (inr (x, first, inr h))) = inr (inr (x, first, λ ab ax. absurd (h.1 (ab, ax))))
added_has m segs a b old new (inr (inr (x, first, inl h))) = inr (inr (x, first, λ ab ax. subst (λ (xs : List Triangle). Contains xs (record { p = a; q = b; r = x })) (sym h.2) (Contains-append_right old (record { p = a; q = b; r = x } ∷ []) (record { p = a; q = b; r = x }) (contains_here (record { p = a; q = b; r = x }) []))))

left_stays : (m : Map) (segs : List Segment) (a b : ℕ) (old new : List Triangle) → ((t : Triangle) → Contains old t → Contains new t) → HasLeftTriangle m segs old a b → HasLeftTriangle m segs new a b
left_stays m segs a b old new keeps (inl h) = inl h
left_stays m segs a b old new keeps (inr (inl h)) = inr (inl h)
left_stays m segs a b old new keeps (inr (inr (x, first, h))) = inr (inr (x, first, λ ab ax. keeps (record { p = a; q = b; r = x }) (h ab ax)))

-- ---- the triangles of the first so many segments

pub record LeftSoFar (m : Map) (segs : List Segment) (i : ℕ) (ts : List Triangle) : Type 0 where
  pub each : (t : Triangle) → Contains ts t → IsLeftTriangle m segs t
  pub all : (k : ℕ) (s : Segment) → k < i → slice_get segs k ≡ Some s → HasBothSides m segs ts s

pub left_more : (m : Map) (segs : List Segment) (i n : ℕ) (s : Segment) (old mid new : List Triangle) → AreSegments n segs → slice_get segs i ≡ Some s → LeftSoFar m segs i old
    → IsLeftAdded m segs s.from s.to old mid → IsLeftAdded m segs s.to s.from mid new → LeftSoFar m segs (i + 1) new
left_more m segs i n s old mid new are here so_far out back = record {
  each = added_each m segs s.to s.from mid new (neighbour_in segs i s differ here) back (added_each m segs s.from s.to old mid (neighbour_out segs i s here) out so_far.each);
  all = λ k t lt e. elim (below_or_last k i lt) as (λ _. HasBothSides m segs new t) [
    | inl less ↦ let h = so_far.all k t less e in (left_stays m segs t.from t.to old new both_keep h.0, left_stays m segs t.to t.from old new both_keep h.1)
    | inr same ↦ subst (HasBothSides m segs new) (same_Some s t (sym here ∙ ap (slice_get segs) (sym same) ∙ e)) (
      left_stays m segs s.from s.to mid new (added_keeps m segs s.to s.from mid new back) (added_has m segs s.from s.to old mid out),
      added_has m segs s.to s.from mid new back,
    )
  ];
}
  where
    both_keep : (t : Triangle) → Contains old t → Contains new t
    both_keep t c = added_keeps m segs s.to s.from mid new back t (added_keeps m segs s.from s.to old mid out t c)

    differ : s.from ≢ s.to
    differ = let d = (are i (slice_get_within segs i s here) s).differ in subst (λ (x : Segment). x.from ≢ x.to) (get_or_from_slice_get segs i s s here) d

pub left_all : (m : Map) (segs : List Segment) (i : ℕ) (ts : List Triangle) → length segs ≡ i → LeftSoFar m segs i ts → AreLeftTriangles m segs ts
left_all m segs i ts e h = record { each = h.each; all = λ k s at. h.all k s (let lt = slice_get_within segs k s at in omega arith) at }

-- ---- their numbers

neighbour_below : (n : ℕ) (segs : List Segment) (u v : ℕ) → AreSegments n segs → IsNeighbour segs u v → v < n
neighbour_below n segs u v are (k, lt, end, other) =
    let is = are k lt any_segment in
    elim (end_cases u (get_or segs k any_segment) (end any_segment)) as (λ _. v < n) [
      | inl e ↦ subst (λ (x : ℕ). x < n) (sym (other any_segment ∙ other_from u (get_or segs k any_segment) e)) is.to
      | inr e ↦ subst (λ (x : ℕ). x < n) (sym (other any_segment ∙ other_to u (get_or segs k any_segment) is.differ e)) is.from
    ]

pub left_numbers : (m : Map) (n : ℕ) (segs : List Segment) (ts : List Triangle) → AreSegments n segs → AreLeftTriangles m segs ts → (t : Triangle) → Contains ts t → IsTriangle n t
left_numbers m n segs ts are left t c =
    let h = left.each t c in
    record {
      least = h.least;
      least_too = h.least_too;
      second = neighbour_below n segs t.p t.q are h.neighbour;
      third = neighbour_below n segs t.p t.r are h.first.neighbour;
      differ = λ e.
          let l : IsLeftOf m (place m t.p) (place m t.q) t.q = subst (IsLeftOf m (place m t.p) (place m t.q)) (sym e) h.first.left in
          let s = turn_at_is (place m t.p) (place m t.q) (point_of (place m t.q)) in
          let z = det-last (vec (point_of (place m t.p))) (vec (point_of (place m t.q))) in
          omega (arith, ints);
    }
