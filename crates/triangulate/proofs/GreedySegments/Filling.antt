-- Points of a map on the left of a way, and strictly inside a triangle.
use Rattle.std.proofs.Common.{max, ◌≡◌, ℕ, ◌+◌, ◌<◌, ◌≤◌, ◌⊎◌, inl, inr, List, [], ◌∷◌, length, get_or, slice_get, Some, ℤ, pos, ◌+ℤ◌, ◌-ℤ◌, ◌*ℤ◌, ◌≤ℤ◌, ◌<ℤ◌, sym, ap, ◌∙◌, subst, arith}
use Rattle.std.proofs.lemmas.Int.{ints}
use Rattle.std.proofs.lemmas.Option.{same_Some, slice_get-get_or}
use Rattle.math_base.proofs.Quoting.{quoting, by_ring}
use Rattle.math_base.proofs.Signs.{mul-pos, le_or_lt}
use Rattle.math_base.proofs.MoreSigns.{mul-neg}
use Rattle.sight_names.specs.declared.names.Pt.{Pt}
use Rattle.sight_names.specs.Map.{Map, map_of, origin}
use Rattle.sight_names.specs.Plan.{PlanParts, IsPlan}
use Rattle.sight_names.specs.Points.{place}
use Rattle.sight_names.proofs.PlanNumbers.{place_of_plan, count_of_plan}
use Rattle.geom_exact.specs.Formulas.{turn_of}
use Rattle.geom_exact.proofs.InsideLemmas.{inside_of_turns}
use Rattle.mesh_shape.proofs.Separate.{inside_numbers}
use Rattle.triangulate.specs.declared.greedy_segments.saturated.Heights.{Heights}
use Rattle.triangulate.specs.GreedySegments.Saturated.{turn_between, IsBetweenHeights, IsEmptyTriangle, HasNoneLeft}
use Rattle.math_base.proofs.Numbers.{below_or_last}
use Rattle.math_base.proofs.Small.{pos_not_zero}
use Rattle.geom_exact.proofs.RelationLemmas.{turn_at_first as turn_ends, turn_at_second as turn_second}

-- ---- on the left

abbrev pub NoneBefore : Pt → Pt → List Pt → ℕ → Type 0
NoneBefore a b points i = (k : ℕ) (p : Pt) → k < i → slice_get points k ≡ Some p → turn_of a b p ≤ℤ pos 0

pub none_next : (a b : Pt) (points : List Pt) (i : ℕ) (p : Pt) → slice_get points i ≡ Some p → turn_of a b p ≤ℤ pos 0 → NoneBefore a b points i → NoneBefore a b points (i + 1)
none_next a b points i p at here before k q lt at_k = elim (below_or_last k i lt) [
  | inl less ↦ before k q less at_k
  | inr same ↦ subst (λ (x : Pt). turn_of a b x ≤ℤ pos 0) (same_Some p q (sym at ∙ ap (slice_get points) (sym same) ∙ at_k)) here
]

pub none_left : (p : PlanParts) → IsPlan p → (a b i : ℕ) (from to : Pt) → from ≡ place (map_of p) a → to ≡ place (map_of p) b → length p.points ≤ i → NoneBefore from to p.points i → HasNoneLeft (map_of p) a b
none_left p is a b i from to e f le before k lt =
    let within : k < length p.points = subst (λ (n : ℕ). k < n) (count_of_plan p is) lt in
    subst (λ (x : Pt). turn_of x (place (map_of p) b) (place (map_of p) k) ≤ℤ pos 0) e
    (subst (λ (y : Pt). turn_of from y (place (map_of p) k) ≤ℤ pos 0) f
    (subst (λ (z : Pt). turn_of from to z ≤ℤ pos 0) (sym (place_of_plan p is k)) (before k (get_or p.points k origin) (omega arith) (slice_get-get_or p.points k origin within))))

-- ---- inside

abbrev pub IsInsideOf : Map → ℕ → ℕ → ℕ → ℕ → Type 0
IsInsideOf m a b c k = (pos 0 <ℤ turn_between m a b k) × (pos 0 <ℤ turn_between m b c k) × (pos 0 <ℤ turn_between m c a k)

-- the corners as seen from a point, by the triangles that it makes with the other two
balanced : (a b c p : Pt) → turn_of b c p *ℤ (a.y -ℤ p.y) +ℤ turn_of c a p *ℤ (b.y -ℤ p.y) +ℤ turn_of a b p *ℤ (c.y -ℤ p.y) ≡ pos 0
unfolding turn_of
balanced a b c p = by_ring (a.x ∷ a.y ∷ b.x ∷ b.y ∷ c.x ∷ c.y ∷ p.x ∷ p.y ∷ []) _ _ (search quoting depth 60 fits 400000) (search quoting depth 60 fits 400000) tt

-- no point below all corners or above them is inside
below_outside : (a b c p : Pt) → p.y <ℤ a.y → p.y <ℤ b.y → p.y <ℤ c.y → ¬ ((pos 0 <ℤ turn_of a b p) × (pos 0 <ℤ turn_of b c p) × (pos 0 <ℤ turn_of c a p))
below_outside a b c p ha hb hc h =
    let x = mul-pos (turn_of b c p) (a.y -ℤ p.y) h.1 (omega (arith, ints)) in
    let y = mul-pos (turn_of c a p) (b.y -ℤ p.y) h.2 (omega (arith, ints)) in
    let z = mul-pos (turn_of a b p) (c.y -ℤ p.y) h.0 (omega (arith, ints)) in
    three (turn_of b c p *ℤ (a.y -ℤ p.y)) (turn_of c a p *ℤ (b.y -ℤ p.y)) (turn_of a b p *ℤ (c.y -ℤ p.y)) x y z (balanced a b c p)
  where
    three : (x y z : ℤ) → pos 0 <ℤ x → pos 0 <ℤ y → pos 0 <ℤ z → x +ℤ y +ℤ z ≡ pos 0 → ⊥
    three x y z f g h e = omega (arith, ints)

above_outside : (a b c p : Pt) → a.y <ℤ p.y → b.y <ℤ p.y → c.y <ℤ p.y → ¬ ((pos 0 <ℤ turn_of a b p) × (pos 0 <ℤ turn_of b c p) × (pos 0 <ℤ turn_of c a p))
above_outside a b c p ha hb hc h =
    let x = mul-neg (turn_of b c p) (a.y -ℤ p.y) h.1 (omega (arith, ints)) in
    let y = mul-neg (turn_of c a p) (b.y -ℤ p.y) h.2 (omega (arith, ints)) in
    let z = mul-neg (turn_of a b p) (c.y -ℤ p.y) h.0 (omega (arith, ints)) in
    three (turn_of b c p *ℤ (a.y -ℤ p.y)) (turn_of c a p *ℤ (b.y -ℤ p.y)) (turn_of a b p *ℤ (c.y -ℤ p.y)) x y z (balanced a b c p)
  where
    three : (x y z : ℤ) → x <ℤ pos 0 → y <ℤ pos 0 → z <ℤ pos 0 → x +ℤ y +ℤ z ≡ pos 0 → ⊥
    three x y z f g h e = omega (arith, ints)

under : (x y z : ℤ) → x <ℤ y → y ≤ℤ z → x <ℤ z
under x y z h k = omega (arith, ints)

over : (x y z : ℤ) → x ≤ℤ y → y <ℤ z → x <ℤ z
over x y z h k = omega (arith, ints)

-- a point inside has a y that the corners span
pub inside_within : (a b c p : Pt) (h : Heights) → IsBetweenHeights a h → IsBetweenHeights b h → IsBetweenHeights c h → (pos 0 <ℤ turn_of a b p) × (pos 0 <ℤ turn_of b c p) × (pos 0 <ℤ turn_of c a p) → IsBetweenHeights p h
inside_within a b c p h ha hb hc inside = (
  elim (le_or_lt h.low p.y) [ inl le ↦ le | inr lt ↦ absurd (below_outside a b c p (under p.y h.low a.y lt ha.0) (under p.y h.low b.y lt hb.0) (under p.y h.low c.y lt hc.0) inside) ],
  elim (le_or_lt p.y h.high) [ inl le ↦ le | inr lt ↦ absurd (above_outside a b c p (over a.y h.high p.y ha.1 lt) (over b.y h.high p.y hb.1 lt) (over c.y h.high p.y hc.1 lt) inside) ],
)

turn_first : (a c : Pt) → turn_of a a c ≡ pos 0
unfolding turn_of
turn_first a c = by_ring (a.x ∷ a.y ∷ c.x ∷ c.y ∷ []) _ _ (search quoting depth 60 fits 200000) (search quoting depth 60 fits 200000) tt

-- the corners of a triangle have different numbers
corners_differ : (m : Map) (a b c : ℕ) → pos 0 <ℤ turn_between m a b c → ¬ (a ≡ b) × ¬ (b ≡ c) × ¬ (a ≡ c)
corners_differ m a b c h = (
  λ e. pos_not_zero (turn_between m a b c) h (ap (λ (x : ℕ). turn_between m a x c) (sym e) ∙ turn_first (place m a) (place m c)),
  λ e. pos_not_zero (turn_between m a b c) h (ap (λ (x : ℕ). turn_between m a x c) e ∙ turn_second (place m a) (place m c)),
  λ e. pos_not_zero (turn_between m a b c) h (ap (λ (x : ℕ). turn_between m a b x) (sym e) ∙ turn_ends (place m a) (place m b)),
)

-- a point strictly inside has a number from the least of the corners on and below the greatest
inside_between : (p : PlanParts) → IsPlan p → (a b c k low high : ℕ) → a < length p.points → b < length p.points → c < length p.points → k < length p.points → pos 0 <ℤ turn_between (map_of p) a b c
    → low ≤ a → low ≤ b → low ≤ c → a ≤ high → b ≤ high → c ≤ high → high < length p.points → IsInsideOf (map_of p) a b c k → (low ≤ k) × (k < high)
inside_between p is a b c k low high an bn cn kn turn la lb lc ah bh ch hn inside =
    let m = map_of p in
    let d = corners_differ m a b c turn in
    elim (cases a b c d.0 d.1 d.2) [
      | inl h ↦ wider a (inside_numbers p is a b c k high h.0 h.1 bn cn kn bh ch hn (inside_of_turns (place m a) (place m b) (place m c) (place m k) inside.0 inside.1 inside.2)) la
      | inr (inl h) ↦ wider b (inside_numbers p is b c a k high h.0 h.1 cn an kn ch ah hn (inside_of_turns (place m b) (place m c) (place m a) (place m k) inside.1 inside.2 inside.0)) lb
      | inr (inr h) ↦ wider c (inside_numbers p is c a b k high h.0 h.1 an bn kn ah bh hn (inside_of_turns (place m c) (place m a) (place m b) (place m k) inside.2 inside.0 inside.1)) lc
    ]
  where
    cases : (a b c : ℕ) → ¬ (a ≡ b) → ¬ (b ≡ c) → ¬ (a ≡ c) → ((a < b) × (a < c)) ⊎ ((b < c) × (b < a)) ⊎ ((c < a) × (c < b))
    cases a b c x y z = grind arith

    wider : (x : ℕ) → (x < k) × (k < high) → low ≤ x → (low ≤ k) × (k < high)
    wider x h le = ((let g = h.0 in omega arith), h.1)

pub empty_triangle : (p : PlanParts) → IsPlan p → (a b c low high i : ℕ) → a < length p.points → b < length p.points → c < length p.points → pos 0 <ℤ turn_between (map_of p) a b c
    → low ≤ a → low ≤ b → low ≤ c → a ≤ high → b ≤ high → c ≤ high → high < length p.points → high ≤ i → ((k : ℕ) → low ≤ k → k < i → ¬ IsInsideOf (map_of p) a b c k) → IsEmptyTriangle (map_of p) a b c
empty_triangle p is a b c low high i an bn cn turn la lb lc ah bh ch hn le none = record {
  turn = turn;
  empty = λ k kn inside.
      let h = inside_between p is a b c k low high an bn cn (subst (λ (n : ℕ). k < n) (count_of_plan p is) kn) turn la lb lc ah bh ch hn inside in
      none k h.0 (let g = h.1 in omega arith) inside;
}

-- ---- turns at the places that were read

pub moved_turn : (a b c x y z : Pt) → a ≡ x → b ≡ y → c ≡ z → turn_of a b c ≡ turn_of x y z
moved_turn a b c x y z e f g = ap (λ (k : Pt). turn_of k b c) e ∙ ap (λ (k : Pt). turn_of x k c) f ∙ ap (λ (k : Pt). turn_of x y k) g

pub inside_more : (m : Map) (a b c low i : ℕ) → ((k : ℕ) → low ≤ k → k < i → ¬ IsInsideOf m a b c k) → ¬ IsInsideOf m a b c i → (k : ℕ) → low ≤ k → k < i + 1 → ¬ IsInsideOf m a b c k
inside_more m a b c low i before here k le lt = elim (below_or_last k i lt) [ inl less ↦ before k le less | inr same ↦ subst (λ (n : ℕ). ¬ IsInsideOf m a b c n) (sym same) here ]

pub greatest_within : (a b n : ℕ) → a < n → b < n → max a b < n
greatest_within a b n h k = grind arith
