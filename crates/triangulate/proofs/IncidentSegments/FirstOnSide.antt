-- The first neighbour on one side: what each step of the search keeps.
use Rattle.std.proofs.Common.{◌≡◌, ℕ, ℤ, pos, ◌≤ℤ◌, ◌<ℤ◌, arith, refl, sym, ◌∙◌, subst, inl, inr, List, Option, Some, None}
use borrow.Author.Differences.{ints}
use lib.IntN.{*ℤ_comm}
use Rattle.math_base.proofs.Signs.{mul-nonneg, nonneg-of-mul}
use Rattle.std.proofs.lemmas.Option.{same_Some}
use Rattle.geom_exact.specs.Formulas.{turn_of}
use Rattle.mesh_shape.proofs.RuleLemmas.{turn_at_places}
use Rattle.sight_names.specs.declared.names.Pt.{Pt}
use Rattle.sight_names.specs.Point.{point_of, turn_at}
use Rattle.sight_names.specs.Map.{Map}
use Rattle.sight_names.specs.Points.{place}
use Rattle.plane_base.proofs.Vec.{V, edge, det, det-swap, det-first, det-last, fan}
use Rattle.plane_base.proofs.Near.{det-flip}
use Rattle.mesh_base.proofs.SightLaws.Bridge.{vec, turn_at_is}
use Rattle.triangulate.specs.declared.incident_segments.segments.Segment.{Segment}
use Rattle.triangulate.specs.IncidentSegments.Neighbours.{IsNeighbour}
use Rattle.triangulate.specs.IncidentSegments.Next.{IsLeftOf, IsRightOf, IsNextLeft, IsNextRight, IsBehindLeft, IsBehindRight, IsBestLeft, IsBestRight}
use Rattle.math_base.proofs.Options.{none_is_not_some, some_is_same}

-- the best point so far is a neighbour on the side
pub record IsHeldLeft (m : Map) (segs : List Segment) (a : ℕ) (p q : Pt) (best : Option ℕ) : Type 0 where
  pub held : (d : ℕ) → best ≡ Some d → IsNeighbour segs a d × IsLeftOf m p q d

pub record IsHeldRight (m : Map) (segs : List Segment) (a : ℕ) (p q : Pt) (best : Option ℕ) : Type 0 where
  pub held : (d : ℕ) → best ≡ Some d → IsNeighbour segs a d × IsRightOf m p q d

-- c before d and d not behind w, all on the left of the way from p to q: c isn't behind w
behind_new : (p q c d w : V) → pos 0 <ℤ det p q c → pos 0 <ℤ det p q d → pos 0 <ℤ det p q w → det p d c <ℤ pos 0 → pos 0 ≤ℤ det p d w → pos 0 ≤ℤ det p c w
behind_new p q c d w fc fd fw before behind =
    let e = fan (edge p q) p c d w (det-first p q) in
    let s = det-flip p d c in
    nonneg-of-mul (det p q d) (det p c w) fd
    (omega (arith, ints, *ℤ_comm (det p c w) (det p q d), mul-nonneg (det p d w) (det p q c) behind (omega (arith, ints)), mul-nonneg (det p c d) (det p q w) (omega (arith, ints)) (omega (arith, ints))))

left_new : (m : Map) (p q : Pt) (c d w : ℕ) → IsLeftOf m p q c → IsLeftOf m p q d → IsLeftOf m p q w → turn_at p (place m d) (point_of (place m c)) <ℤ pos 0 → pos 0 ≤ℤ turn_at p (place m d) (point_of (place m w))
    → pos 0 ≤ℤ turn_at p (place m c) (point_of (place m w))
left_new m p q c d w fc fd fw before behind =
    let e1 = turn_at_is p q (point_of (place m c)) in let e2 = turn_at_is p q (point_of (place m d)) in let e3 = turn_at_is p q (point_of (place m w)) in
    let e4 = turn_at_is p (place m d) (point_of (place m c)) in let e5 = turn_at_is p (place m d) (point_of (place m w)) in let e6 = turn_at_is p (place m c) (point_of (place m w)) in
    let r = behind_new (vec (point_of p)) (vec (point_of q)) (vec (point_of (place m c))) (vec (point_of (place m d))) (vec (point_of (place m w))) (omega (arith, ints)) (omega (arith, ints)) (omega (arith, ints)) (omega (arith, ints)) (omega (arith, ints)) in
    omega (arith, ints)

right_new : (m : Map) (p q : Pt) (c d w : ℕ) → IsRightOf m p q c → IsRightOf m p q d → IsRightOf m p q w → pos 0 <ℤ turn_at p (place m d) (point_of (place m c)) → turn_at p (place m d) (point_of (place m w)) ≤ℤ pos 0
    → turn_at p (place m c) (point_of (place m w)) ≤ℤ pos 0
right_new m p q c d w fc fd fw before behind =
    let P = vec (point_of p) in let Q = vec (point_of q) in let C = vec (point_of (place m c)) in let D = vec (point_of (place m d)) in let W = vec (point_of (place m w)) in
    let e1 = turn_at_is p q (point_of (place m c)) in let e2 = turn_at_is p q (point_of (place m d)) in let e3 = turn_at_is p q (point_of (place m w)) in
    let e4 = turn_at_is p (place m d) (point_of (place m c)) in let e5 = turn_at_is p (place m d) (point_of (place m w)) in let e6 = turn_at_is p (place m c) (point_of (place m w)) in
    let r = mirrored P Q C D W (omega (arith, ints)) (omega (arith, ints)) (omega (arith, ints)) (omega (arith, ints)) (omega (arith, ints)) in
    omega (arith, ints)
  where
    mirrored : (p q c d w : V) → det p q c <ℤ pos 0 → det p q d <ℤ pos 0 → det p q w <ℤ pos 0 → pos 0 <ℤ det p d c → det p d w ≤ℤ pos 0 → det p c w ≤ℤ pos 0
    mirrored p q c d w fc fd fw before behind =
        let e = fan (edge q p) p w d c (det-last q p) in
        let s1 = det-swap p q c in let s2 = det-swap p q d in let s3 = det-swap p q w in
        let f1 = det-flip p c w in let f2 = det-flip p d w in
        let r = nonneg-of-mul (det q p d) (det p w c) (omega (arith, ints))
        (omega (arith, ints, *ℤ_comm (det p w c) (det q p d), mul-nonneg (det p d c) (det q p w) (omega (arith, ints)) (omega (arith, ints)), mul-nonneg (det p w d) (det q p c) (omega (arith, ints)) (omega (arith, ints)))) in
        omega (arith, ints)

-- ---- on the left

pub best_left_kept : (m : Map) (segs : List Segment) (a : ℕ) (p q : Pt) (best r : Option ℕ) (c w : ℕ) → IsHeldLeft m segs a p q best → IsBestLeft m p q best c r → IsBehindLeft m p q best w → IsBehindLeft m p q r w
best_left_kept m segs a p q best r c w held (inl s) b = subst (λ (x : Option ℕ). IsBehindLeft m p q x w) (sym s.0) b
best_left_kept m segs a p q None r c w held (inr s) b = subst (λ (x : Option ℕ). IsBehindLeft m p q x w) (sym s.0) (λ h. absurd (b h))
best_left_kept m segs a p q (Some d) r c w held (inr s) b = subst (λ (x : Option ℕ). IsBehindLeft m p q x w) (sym s.0) (λ h. left_new m p q c d w s.1.left (held.held d refl).1 h (s.1.before d refl) (b h))

pub best_left_here : (m : Map) (p q : Pt) (best r : Option ℕ) (c : ℕ) → IsBestLeft m p q best c r → IsBehindLeft m p q r c
best_left_here m p q best r c (inl s) = subst (λ (x : Option ℕ). IsBehindLeft m p q x c) (sym s.0) s.1
best_left_here m p q best r c (inr s) = subst (λ (x : Option ℕ). IsBehindLeft m p q x c) (sym s.0) (λ h. straight)
  where
    straight : pos 0 ≤ℤ turn_at p (place m c) (point_of (place m c))
    straight = let e = turn_at_is p (place m c) (point_of (place m c)) in let z = det-last (vec (point_of p)) (vec (point_of (place m c))) in omega (arith, ints)

pub best_left_held : (m : Map) (segs : List Segment) (a : ℕ) (p q : Pt) (best r : Option ℕ) (c : ℕ) → IsHeldLeft m segs a p q best → IsNeighbour segs a c → IsBestLeft m p q best c r → IsHeldLeft m segs a p q r
best_left_held m segs a p q best r c held neighbour (inl s) = subst (IsHeldLeft m segs a p q) (sym s.0) held
best_left_held m segs a p q best r c held neighbour (inr s) = subst (IsHeldLeft m segs a p q) (sym s.0) (record { held = λ d e. (subst (IsNeighbour segs a) (some_is_same c d e) neighbour, subst (IsLeftOf m p q) (some_is_same c d e) s.1.left) })

pub next_left_of : (m : Map) (segs : List Segment) (a b : ℕ) (p q : Pt) (best : Option ℕ) → p ≡ place m a → q ≡ place m b → IsHeldLeft m segs a p q best → ((x : ℕ) → IsNeighbour segs a x → IsBehindLeft m p q best x) → IsNextLeft m segs a b best
next_left_of m segs a b p q None e f held behind = λ x s h. behind x s (subst (λ (u : Pt). IsLeftOf m u q x) (sym e) (subst (λ (u : Pt). IsLeftOf m (place m a) u x) (sym f) h))
next_left_of m segs a b p q (Some d) e f held behind = record {
  neighbour = (held.held d refl).0;
  left = subst (λ (u : Pt). IsLeftOf m (place m a) u d) f (subst (λ (u : Pt). IsLeftOf m u q d) e (held.held d refl).1);
  first = λ x s h. subst (λ (u : Pt). pos 0 ≤ℤ turn_at u (place m d) (point_of (place m x))) e (behind x s (subst (λ (u : Pt). IsLeftOf m u q x) (sym e) (subst (λ (u : Pt). IsLeftOf m (place m a) u x) (sym f) h)));
}

-- ---- on the right

pub best_right_kept : (m : Map) (segs : List Segment) (a : ℕ) (p q : Pt) (best r : Option ℕ) (c w : ℕ) → IsHeldRight m segs a p q best → IsBestRight m p q best c r → IsBehindRight m p q best w → IsBehindRight m p q r w
best_right_kept m segs a p q best r c w held (inl s) b = subst (λ (x : Option ℕ). IsBehindRight m p q x w) (sym s.0) b
best_right_kept m segs a p q None r c w held (inr s) b = subst (λ (x : Option ℕ). IsBehindRight m p q x w) (sym s.0) (λ h. absurd (b h))
best_right_kept m segs a p q (Some d) r c w held (inr s) b = subst (λ (x : Option ℕ). IsBehindRight m p q x w) (sym s.0) (λ h. right_new m p q c d w s.1.right (held.held d refl).1 h (s.1.before d refl) (b h))

pub best_right_here : (m : Map) (p q : Pt) (best r : Option ℕ) (c : ℕ) → IsBestRight m p q best c r → IsBehindRight m p q r c
best_right_here m p q best r c (inl s) = subst (λ (x : Option ℕ). IsBehindRight m p q x c) (sym s.0) s.1
best_right_here m p q best r c (inr s) = subst (λ (x : Option ℕ). IsBehindRight m p q x c) (sym s.0) (λ h. straight)
  where
    straight : turn_at p (place m c) (point_of (place m c)) ≤ℤ pos 0
    straight = let e = turn_at_is p (place m c) (point_of (place m c)) in let z = det-last (vec (point_of p)) (vec (point_of (place m c))) in omega (arith, ints)

pub best_right_held : (m : Map) (segs : List Segment) (a : ℕ) (p q : Pt) (best r : Option ℕ) (c : ℕ) → IsHeldRight m segs a p q best → IsNeighbour segs a c → IsBestRight m p q best c r → IsHeldRight m segs a p q r
best_right_held m segs a p q best r c held neighbour (inl s) = subst (IsHeldRight m segs a p q) (sym s.0) held
best_right_held m segs a p q best r c held neighbour (inr s) = subst (IsHeldRight m segs a p q) (sym s.0) (record { held = λ d e. (subst (IsNeighbour segs a) (some_is_same c d e) neighbour, subst (IsRightOf m p q) (some_is_same c d e) s.1.right) })

pub next_right_of : (m : Map) (segs : List Segment) (a b : ℕ) (p q : Pt) (best : Option ℕ) → p ≡ place m a → q ≡ place m b → IsHeldRight m segs a p q best → ((x : ℕ) → IsNeighbour segs a x → IsBehindRight m p q best x) → IsNextRight m segs a b best
next_right_of m segs a b p q None e f held behind = λ x s h. behind x s (subst (λ (u : Pt). IsRightOf m u q x) (sym e) (subst (λ (u : Pt). IsRightOf m (place m a) u x) (sym f) h))
next_right_of m segs a b p q (Some d) e f held behind = record {
  neighbour = (held.held d refl).0;
  right = subst (λ (u : Pt). IsRightOf m (place m a) u d) f (subst (λ (u : Pt). IsRightOf m u q d) e (held.held d refl).1);
  first = λ x s h. subst (λ (u : Pt). turn_at u (place m d) (point_of (place m x)) ≤ℤ pos 0) e (behind x s (subst (λ (u : Pt). IsRightOf m u q x) (sym e) (subst (λ (u : Pt). IsRightOf m (place m a) u x) (sym f) h)));
}

-- ---- nothing found yet

pub none_held_left : (m : Map) (segs : List Segment) (a : ℕ) (p q : Pt) → IsHeldLeft m segs a p q None
none_held_left m segs a p q = record { held = λ d e. absurd (none_is_not_some d e) }

pub none_held_right : (m : Map) (segs : List Segment) (a : ℕ) (p q : Pt) → IsHeldRight m segs a p q None
none_held_right m segs a p q = record { held = λ d e. absurd (none_is_not_some d e) }

-- ---- one step, as the code takes it

pub turn_seen : (m : Map) (p q end : Pt) (c : ℕ) (t : ℤ) → t ≡ turn_of p q end → end ≡ place m c → t ≡ turn_at p q (point_of (place m c))
turn_seen m p q end c t e f = e ∙ turn_at_places p q end p q (place m c) refl refl f

pub turn_seen_from : (m : Map) (p mid end : Pt) (d c : ℕ) (t : ℤ) → t ≡ turn_of p mid end → mid ≡ place m d → end ≡ place m c → t ≡ turn_at p (place m d) (point_of (place m c))
turn_seen_from m p mid end d c t e f g = e ∙ turn_at_places p mid end p (place m d) (place m c) refl f g

pub passed_left : (m : Map) (p q : Pt) (best : Option ℕ) (c : ℕ) (t : ℤ) → t ≡ turn_at p q (point_of (place m c)) → t ≤ℤ pos 0 → IsBestLeft m p q best c best
passed_left m p q None c t e h = inl (refl, λ k. omega (arith, ints))
passed_left m p q (Some d) c t e h = inl (refl, λ k. absurd (omega (arith, ints)))

pub taken_left : (m : Map) (p q : Pt) (best : Option ℕ) (c d : ℕ) (t s : ℤ) → best ≡ Some d → t ≡ turn_at p q (point_of (place m c)) → pos 0 <ℤ t → s ≡ turn_at p (place m d) (point_of (place m c)) → s <ℤ pos 0 → IsBestLeft m p q best c (Some c)
taken_left m p q best c d t s is e h f k = inr (refl, record { left = omega (arith, ints); before = λ x g. subst (λ (y : ℕ). turn_at p (place m y) (point_of (place m c)) <ℤ pos 0) (same_Some d x (sym is ∙ g)) (omega (arith, ints)) })

pub kept_left : (m : Map) (p q : Pt) (best : Option ℕ) (c d : ℕ) (s : ℤ) → best ≡ Some d → s ≡ turn_at p (place m d) (point_of (place m c)) → pos 0 ≤ℤ s → IsBestLeft m p q best c (Some d)
kept_left m p q best c d s is f k = inl (sym is, subst (λ (x : Option ℕ). IsBehindLeft m p q x c) (sym is) (λ h. omega (arith, ints)))

pub first_taken_left : (m : Map) (p q : Pt) (best : Option ℕ) (c : ℕ) (t : ℤ) → best ≡ None → t ≡ turn_at p q (point_of (place m c)) → pos 0 <ℤ t → IsBestLeft m p q best c (Some c)
first_taken_left m p q best c t is e h = inr (refl, record { left = omega (arith, ints); before = λ x g. absurd (none_is_not_some x (sym is ∙ g)) })

pub passed_right : (m : Map) (p q : Pt) (best : Option ℕ) (c : ℕ) (t : ℤ) → t ≡ turn_at p q (point_of (place m c)) → pos 0 ≤ℤ t → IsBestRight m p q best c best
passed_right m p q None c t e h = inl (refl, λ k. omega (arith, ints))
passed_right m p q (Some d) c t e h = inl (refl, λ k. absurd (omega (arith, ints)))

pub taken_right : (m : Map) (p q : Pt) (best : Option ℕ) (c d : ℕ) (t s : ℤ) → best ≡ Some d → t ≡ turn_at p q (point_of (place m c)) → t <ℤ pos 0 → s ≡ turn_at p (place m d) (point_of (place m c)) → pos 0 <ℤ s → IsBestRight m p q best c (Some c)
taken_right m p q best c d t s is e h f k = inr (refl, record { right = omega (arith, ints); before = λ x g. subst (λ (y : ℕ). pos 0 <ℤ turn_at p (place m y) (point_of (place m c))) (same_Some d x (sym is ∙ g)) (omega (arith, ints)) })

pub kept_right : (m : Map) (p q : Pt) (best : Option ℕ) (c d : ℕ) (s : ℤ) → best ≡ Some d → s ≡ turn_at p (place m d) (point_of (place m c)) → s ≤ℤ pos 0 → IsBestRight m p q best c (Some d)
kept_right m p q best c d s is f k = inl (sym is, subst (λ (x : Option ℕ). IsBehindRight m p q x c) (sym is) (λ h. omega (arith, ints)))

pub first_taken_right : (m : Map) (p q : Pt) (best : Option ℕ) (c : ℕ) (t : ℤ) → best ≡ None → t ≡ turn_at p q (point_of (place m c)) → t <ℤ pos 0 → IsBestRight m p q best c (Some c)
first_taken_right m p q best c t is e h = inr (refl, record { right = omega (arith, ints); before = λ x g. absurd (none_is_not_some x (sym is ∙ g)) })
