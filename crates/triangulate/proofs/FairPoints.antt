-- Segments between whole points that meet at ends alone, as points and as vectors; and which pairs of segments don't.
use Rattle.std.proofs.Common.{◌≡◌, ◌≢◌, ℤ, pos, ◌+ℤ◌, ◌-ℤ◌, ◌*ℤ◌, ◌<ℤ◌, neg_ℤ, arith, refl, sym, ap, ◌∙◌, subst, ◌⊎◌, inl, inr, [], ◌∷◌}
use borrow.Author.Differences.{ints}
use lib.IntN.{zero-*ℤ, *ℤ_comm}
use Rattle.math_base.proofs.Quoting.{quoting, by_ring}
use Rattle.math_base.proofs.Signs.{le_or_lt, mul-pos, pos-of-mul, same-of-mul}
use Rattle.sight_names.specs.declared.names.Pt.{Pt}
use Rattle.sight_names.specs.Point.{Point, point_of, SamePoint}
use Rattle.sight_names.specs.Sound.{IsCommon, IsLineEnd, MeetAtEnds}
use Rattle.plane_base.proofs.Vec.{V, Lin, at, On, value, det-swap, on_back, on_last}
use Rattle.plane_base.proofs.Wedge.{Inside}
use Rattle.plane_base.proofs.Near.{on_first, on_inside, unit, height}
use Rattle.mesh_base.proofs.SightLaws.Bridge.{vec, segment_of_on, on_of_segment}
use Rattle.mesh_base.proofs.SightLaws.Paths.{point_at}
use Rattle.mesh_base.proofs.Net.{IsAt}
use Rattle.mesh_base.proofs.Face.{not_at_end}
use Rattle.mesh_base.proofs.Clash.{Differ, differ_back, MeetsFairly, fair, end_in_first, end_in_second, same_ends, cross_right, cross_left, meeting}
use Rattle.geom_exact.proofs.Uniqueness.{same_trans}
use Rattle.math_base.proofs.Small.{same_where_no_difference, some_square}
use Rattle.mesh_base.proofs.MakeNet.{crossing, apart_of}
use Rattle.sight_names.proofs.Meets.{same_whole}
use Rattle.sight_names.proofs.Records.{same_pt, whole_same}
use Rattle.sight_names.proofs.Laws.{same_point_sym}
use Rattle.mesh_base.proofs.MapFacts.{far_is}

abbrev pub at_pt : Pt → V
at_pt p = vec (point_of p)

-- ---- a point at a whole point

at_of_same : (p : Pt) (r : Point) → SamePoint r (point_of p) → IsAt (at_pt p) (vec r)
at_of_same p r h = record {
  k = pos r.d;
  n = pos 1;
  up = let z = r.positive in omega (arith, ints);
  comb = record {
    left = omega (arith, ints);
    right = omega (arith, ints);
    scale = omega (arith, ints);
    x = let e = h.x in omega (arith, ints, *ℤ_comm p.x (pos r.d), *ℤ_comm r.x (pos 1), zero-*ℤ p.x);
    y = let e = h.y in omega (arith, ints, *ℤ_comm p.y (pos r.d), *ℤ_comm r.y (pos 1), zero-*ℤ p.y);
    d = omega (arith, ints);
  };
}

same_ring : (n k rx px rd : ℤ) → n *ℤ (rx *ℤ pos 1) -ℤ n *ℤ (px *ℤ rd) ≡ (n *ℤ rx -ℤ (k *ℤ px +ℤ pos 0 *ℤ px)) +ℤ neg_ℤ px *ℤ (n *ℤ rd -ℤ (k *ℤ pos 1 +ℤ pos 0 *ℤ pos 1))
same_ring n k rx px rd = by_ring (n ∷ k ∷ rx ∷ px ∷ rd ∷ []) _ _ (search quoting depth 80 fits 1000000) (search quoting depth 80 fits 1000000) tt

same_along : (n k rx px rd : ℤ) → pos 0 <ℤ n → n *ℤ rx ≡ k *ℤ px +ℤ pos 0 *ℤ px → n *ℤ rd ≡ k *ℤ pos 1 +ℤ pos 0 *ℤ pos 1 → rx *ℤ pos 1 ≡ px *ℤ rd
same_along n k rx px rd up e f = same-of-mul n (rx *ℤ pos 1) (px *ℤ rd) up (
    let r = same_ring n k rx px rd in
    let z : n *ℤ rd -ℤ (k *ℤ pos 1 +ℤ pos 0 *ℤ pos 1) ≡ pos 0 = omega (arith, ints) in
    let t : neg_ℤ px *ℤ (n *ℤ rd -ℤ (k *ℤ pos 1 +ℤ pos 0 *ℤ pos 1)) ≡ neg_ℤ px *ℤ pos 0 = ap (λ (x : ℤ). neg_ℤ px *ℤ x) z in
    let o = lib.IntN.*ℤ-zero (neg_ℤ px) in
    omega (arith, ints))

pub same_of_at : (p : Pt) (r : Point) → IsAt (at_pt p) (vec r) → SamePoint r (point_of p)
same_of_at p r h = record {
  x = same_along h.n h.k r.x p.x (pos r.d) h.comb.scale h.comb.x h.comb.d;
  y = same_along h.n h.k r.y p.y (pos r.d) h.comb.scale h.comb.y h.comb.d;
}

-- ---- two whole points that differ

pub differ_of : (p q : Pt) → p ≢ q → Differ (at_pt p) (at_pt q)
differ_of p q n = record {
  first = refl;
  second = refl;
  far = subst (λ (k : ℤ). pos 0 <ℤ k) (sym (far_is p.x p.y q.x q.y)) (some_square (q.x -ℤ p.x) (q.y -ℤ p.y) (λ h. n (same_pt p q (same_where_no_difference p.x q.x h.0) (same_where_no_difference p.y q.y h.1))));
}

-- ---- from points to vectors

on_above : (p q : Pt) (w : V) (f : Lin) → pos 0 <ℤ at f w → On (at_pt p) (at_pt q) w → pos 0 <ℤ w.d
on_above p q w f fw (l, m, n, h) =
    let v = value f l m n (at_pt p) (at_pt q) w h in
    let e = h.d in let hl = h.left in let hm = h.right in
    elim (le_or_lt (l +ℤ m) (pos 0)) as (λ _. pos 0 <ℤ w.d) [
      | inl z ↦ absurd (
          let lz : l ≡ pos 0 = omega (arith, ints) in let mz : m ≡ pos 0 = omega (arith, ints) in
          let a : l *ℤ at f (at_pt p) ≡ pos 0 = ap (λ (k : ℤ). k *ℤ at f (at_pt p)) lz ∙ zero-*ℤ (at f (at_pt p)) in
          let b : m *ℤ at f (at_pt q) ≡ pos 0 = ap (λ (k : ℤ). k *ℤ at f (at_pt q)) mz ∙ zero-*ℤ (at f (at_pt q)) in
          omega (arith, ints, mul-pos n (at f w) h.scale fw))
      | inr s ↦ pos-of-mul n w.d h.scale (omega (arith, ints))
    ]

pub fair_of : (p q s t : Pt) → MeetAtEnds p q s t → MeetsFairly (at_pt p) (at_pt q) (at_pt s) (at_pt t)
fair_of p q s t h w f fw o1 o2 =
    let x = point_at w (on_above p q w f fw o1) in
    let o3 : On (at_pt p) (at_pt q) (vec x.0) = subst (λ (k : V). On (at_pt p) (at_pt q) k) (sym x.1) o1 in
    let o4 : On (at_pt s) (at_pt t) (vec x.0) = subst (λ (k : V). On (at_pt s) (at_pt t) k) (sym x.1) o2 in
    let e = h.ends x.0 (segment_of_on (point_of p) (point_of q) x.0 o3, segment_of_on (point_of s) (point_of t) x.0 o4) in
    let P : V → Type 0 = λ k. (IsAt (at_pt p) k ⊎ IsAt (at_pt q) k) × (IsAt (at_pt s) k ⊎ IsAt (at_pt t) k) in
    subst P x.1 (
      elim e.0 as (λ _. IsAt (at_pt p) (vec x.0) ⊎ IsAt (at_pt q) (vec x.0)) [ inl a ↦ inl (at_of_same p x.0 a) | inr a ↦ inr (at_of_same q x.0 a) ],
      elim e.1 as (λ _. IsAt (at_pt s) (vec x.0) ⊎ IsAt (at_pt t) (vec x.0)) [ inl a ↦ inl (at_of_same s x.0 a) | inr a ↦ inr (at_of_same t x.0 a) ],
    )

-- ---- from vectors to points

-- the two segments have the same ends
abbrev pub SameEnds : Pt → Pt → Pt → Pt → Type 0
SameEnds p q s t = ((p ≡ s) × (q ≡ t)) ⊎ ((p ≡ t) × (q ≡ s))

ends_of_fair : (p q s t : Pt) → MeetsFairly (at_pt p) (at_pt q) (at_pt s) (at_pt t) → (r : Point) → IsCommon p q s t r → IsLineEnd p q r × IsLineEnd s t r
ends_of_fair p q s t h r c =
    let up : pos 0 <ℤ at unit (vec r) = let e = height (vec r) in let z = r.positive in omega (arith, ints) in
    let e = h (vec r) unit up (on_of_segment (point_of p) (point_of q) r c.0) (on_of_segment (point_of s) (point_of t) r c.1) in (
      elim e.0 as (λ _. IsLineEnd p q r) [ inl a ↦ inl (same_of_at p r a) | inr a ↦ inr (same_of_at q r a) ],
      elim e.1 as (λ _. IsLineEnd s t r) [ inl a ↦ inl (same_of_at s r a) | inr a ↦ inr (same_of_at t r a) ],
    )

one_place : (p s : Pt) (r : Point) → SamePoint r (point_of p) → SamePoint r (point_of s) → p ≡ s
one_place p s r a b = whole_same p s (same_trans (point_of p) r (point_of s) (same_point_sym r (point_of p) a) b)

-- r at p and u at q, both at ends of s t: they are one point, or the segments have the same ends
two_ends : (p q s t : Pt) → ¬ SameEnds p q s t → (r u : Point) → SamePoint r (point_of p) → SamePoint u (point_of q) → IsLineEnd s t r → IsLineEnd s t u → SamePoint r u
two_ends p q s t n r u rp uq rs us = elim rs as (λ _. SamePoint r u) [
  | inl a ↦ elim us as (λ _. SamePoint r u) [
    | inl b ↦ same_whole s r u a b
    | inr b ↦ absurd (n (inl (one_place p s r rp a, one_place q t u uq b)))
  ]
  | inr a ↦ elim us as (λ _. SamePoint r u) [
    | inl b ↦ absurd (n (inr (one_place p t r rp a, one_place q s u uq b)))
    | inr b ↦ same_whole t r u a b
  ]
]

pub meet_of_fair : (p q s t : Pt) → ¬ SameEnds p q s t → MeetsFairly (at_pt p) (at_pt q) (at_pt s) (at_pt t) → MeetAtEnds p q s t
meet_of_fair p q s t n h = record {
  ends = ends_of_fair p q s t h;
  one = λ r u cr cu.
      let er = ends_of_fair p q s t h r cr in let eu = ends_of_fair p q s t h u cu in
      elim er.0 as (λ _. SamePoint r u) [
        | inl a ↦ elim eu.0 as (λ _. SamePoint r u) [ inl b ↦ same_whole p r u a b | inr b ↦ two_ends p q s t n r u a b er.1 eu.1 ]
        | inr a ↦ elim eu.0 as (λ _. SamePoint r u) [ inl b ↦ same_point_sym u r (two_ends p q s t n u r b a eu.1 er.1) | inr b ↦ same_whole q r u a b ]
      ];
}

-- ---- how two segments meet, decided

up_at : (p : Pt) → pos 0 <ℤ at unit (at_pt p)
up_at p = let e = height (at_pt p) in omega (arith, ints)

-- the two segments have the same ends, or they meet at ends alone, or they don't
pub data HowMet (p q s t : Pt) : Type 0 where
  same_segment : SameEnds p q s t → HowMet p q s t
  met_at_ends : MeetAtEnds p q s t → HowMet p q s t
  met_within : ¬ MeetsFairly (at_pt p) (at_pt q) (at_pt s) (at_pt t) → HowMet p q s t

same_or_other : (p q : Pt) → (p ≡ q) ⊎ (p ≢ q)
same_or_other p q = elim (same_whole p.x q.x) [
  | inl e ↦ elim (same_whole p.y q.y) [ inl f ↦ inl (same_pt p q e f) | inr n ↦ inr (λ h. n (ap (λ (r : Pt). r.y) h)) ]
  | inr n ↦ inr (λ h. n (ap (λ (r : Pt). r.x) h))
]
  where
    same_whole : (a b : ℤ) → (a ≡ b) ⊎ ¬ (a ≡ b)
    same_whole a b = elim (le_or_lt a b) [
      | inl h ↦ elim (le_or_lt b a) [ inl k ↦ inl (omega (arith, ints)) | inr k ↦ inr (λ e. omega (arith, ints)) ]
      | inr h ↦ inr (λ e. omega (arith, ints))
    ]

same_ends_or_not : (p q s t : Pt) → SameEnds p q s t ⊎ ¬ SameEnds p q s t
same_ends_or_not p q s t = elim (both p s q t) [
  | inl a ↦ inl (inl a)
  | inr n ↦ elim (both p t q s) [ inl a ↦ inl (inr a) | inr k ↦ inr (λ h. elim h as (λ _. ⊥) [ inl a ↦ n a | inr a ↦ k a ]) ]
]
  where
    both : (a b c d : Pt) → ((a ≡ b) × (c ≡ d)) ⊎ ¬ ((a ≡ b) × (c ≡ d))
    both a b c d = elim (same_or_other a b) [
      | inl e ↦ elim (same_or_other c d) [ inl f ↦ inl (e, f) | inr n ↦ inr (λ h. n h.1) ]
      | inr n ↦ inr (λ h. n h.0)
    ]

inside_not : (p q s t : Pt) (w : V) (f : Lin) → p ≢ q → pos 0 <ℤ at f w → Inside (at_pt p) (at_pt q) w → On (at_pt s) (at_pt t) w → ¬ MeetsFairly (at_pt p) (at_pt q) (at_pt s) (at_pt t)
inside_not p q s t w f n fw h o m =
    let d = differ_of p q n in
    not_at_end (at_pt p) (at_pt q) w (apart_of (at_pt p) (at_pt q) d) (apart_of (at_pt q) (at_pt p) (differ_back (at_pt p) (at_pt q) d)) h (m w f fw (on_inside (at_pt p) (at_pt q) w h) o).0

inside_second_not : (p q s t : Pt) (w : V) (f : Lin) → s ≢ t → pos 0 <ℤ at f w → Inside (at_pt s) (at_pt t) w → On (at_pt p) (at_pt q) w → ¬ MeetsFairly (at_pt p) (at_pt q) (at_pt s) (at_pt t)
inside_second_not p q s t w f n fw h o m =
    let d = differ_of s t n in
    not_at_end (at_pt s) (at_pt t) w (apart_of (at_pt s) (at_pt t) d) (apart_of (at_pt t) (at_pt s) (differ_back (at_pt s) (at_pt t) d)) h (m w f fw o (on_inside (at_pt s) (at_pt t) w h)).1

-- a point strictly inside a segment between whole points isn't the zero vector
inside_up : (p q : Pt) (y : V) → Inside (at_pt p) (at_pt q) y → pos 0 <ℤ at unit y
inside_up p q y h =
    let v = value unit h.l h.m h.n (at_pt p) (at_pt q) y h.comb in
    pos-of-mul h.n (at unit y) h.comb.scale (omega (arith, ints, mul-pos h.l (at unit (at_pt p)) h.left (up_at p), mul-pos h.m (at unit (at_pt q)) h.right (up_at q)))

pub how_met : (p q s t : Pt) → p ≢ q → s ≢ t → HowMet p q s t
how_met p q s t np ns = elim (same_ends_or_not p q s t) as (λ _. HowMet p q s t) [
  | inl e ↦ same_segment e
  | inr n ↦ elim (meeting (at_pt p) (at_pt q) (at_pt s) (at_pt t) (differ_of p q np) (differ_of s t ns)) as (λ _. HowMet p q s t) [
    | fair f ↦ met_at_ends (meet_of_fair p q s t n f)
    | end_in_first e ↦ met_within (elim e as (λ _. ¬ MeetsFairly (at_pt p) (at_pt q) (at_pt s) (at_pt t)) [
      | inl h ↦ inside_not p q s t (at_pt s) unit np (up_at s) h (on_first (at_pt s) (at_pt t))
      | inr h ↦ inside_not p q s t (at_pt t) unit np (up_at t) h (on_last (at_pt s) (at_pt t))
    ])
    | end_in_second e ↦ met_within (elim e as (λ _. ¬ MeetsFairly (at_pt p) (at_pt q) (at_pt s) (at_pt t)) [
      | inl h ↦ inside_second_not p q s t (at_pt p) unit ns (up_at p) h (on_first (at_pt p) (at_pt q))
      | inr h ↦ inside_second_not p q s t (at_pt q) unit ns (up_at q) h (on_last (at_pt p) (at_pt q))
    ])
    | same_ends e ↦ same_segment (elim e as (λ _. SameEnds p q s t) [
      | inl h ↦ inl (one_at p s h.0, one_at q t h.1)
      | inr h ↦ inr (one_at p t h.0, one_at q s h.1)
    ])
    | cross_right a b c d ↦
        let y = crossing (at_pt p) (at_pt q) (at_pt s) (at_pt t) a b c d in
        met_within (inside_not p q s t y.0 unit np (inside_up p q y.0 y.1) y.1 (on_inside (at_pt s) (at_pt t) y.0 y.2))
    | cross_left a b c d ↦
        let e1 = det-swap (at_pt s) (at_pt t) (at_pt p) in let e2 = det-swap (at_pt s) (at_pt t) (at_pt q) in
        let y = crossing (at_pt p) (at_pt q) (at_pt t) (at_pt s) b a (omega (arith, ints)) (omega (arith, ints)) in
        met_within (inside_not p q s t y.0 unit np (inside_up p q y.0 y.1) y.1 (on_back (at_pt t) (at_pt s) y.0 (on_inside (at_pt t) (at_pt s) y.0 y.2)))
  ]
]
  where
    one_at : (p s : Pt) → IsAt (at_pt p) (at_pt s) → p ≡ s
    one_at p s h = sym (whole_same s p (same_of_at p (point_of s) h))
