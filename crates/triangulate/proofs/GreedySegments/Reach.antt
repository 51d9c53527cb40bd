-- How long a segment between points can be whose coordinates are known to be small.
use Rattle.std.proofs.Common.{◌≡◌, ℕ, ◌+◌, ◌*◌, ◌<◌, ◌≤◌, inl, inr, List, length, get_or, slice_get, Some, ℤ, ◌-ℤ◌, nat_abs, sym, ap, ◌∙◌, subst, arith}
use Rattle.std.proofs.Math.Nat.{mul-le-mul}
use Rattle.std.proofs.lemmas.Int.{ints}
use Rattle.std.proofs.lemmas.Option.{same_Some, slice_get-get_or}
use Rattle.sight_names.specs.declared.names.Pt.{Pt}
use Rattle.sight_names.specs.Map.{Map, map_of, origin}
use Rattle.sight_names.specs.Plan.{PlanParts, IsPlan}
use Rattle.sight_names.specs.Points.{Edge, place}
use Rattle.sight_names.specs.Greedy.{IsPointPair, edge_length, square_length}
use Rattle.sight_names.proofs.PlanNumbers.{place_of_plan, count_of_plan}
use Rattle.triangulate.specs.GreedySegments.Pairs.{IsPointWithin, IsReach}
use Rattle.triangulate.specs.GreedySegments.Rounds.{IsShorter}
use Rattle.math_base.proofs.Numbers.{below_or_last, below_through}

two_squares : (b a c : ℕ) → a ≤ 2 * b → c ≤ 2 * b → a * a + c * c < (3 * b + 1) * (3 * b + 1)
two_squares b a c h k = let p : a * a ≤ (2 * b) * (2 * b) = mul-le-mul h h in let q : c * c ≤ (2 * b) * (2 * b) = mul-le-mul k k in omega arith

apart : (b : ℕ) (x y : ℤ) → nat_abs x ≤ b → nat_abs y ≤ b → nat_abs (y -ℤ x) ≤ 2 * b
apart b x y h k = omega (arith, ints)

short_square : (b : ℕ) (p q : Pt) → IsPointWithin b p → IsPointWithin b q → square_length p q < (3 * b + 1) * (3 * b + 1)
short_square b p q h k = two_squares b (nat_abs (q.x -ℤ p.x)) (nat_abs (q.y -ℤ p.y)) (apart b p.x q.x h.0 k.0) (apart b p.y q.y h.1 k.1)

pub all_shorter : (m : Map) (b low : ℕ) → IsReach m b → 3 * b + 1 ≤ low → (e : Edge) → IsPointPair m e → IsShorter m low e
all_shorter m b low reach le e pair =
    let h = short_square b (place m e.from) (place m e.to) (reach e.from (let p = pair.0 in let q = pair.1 in omega arith)) (reach e.to pair.1) in
    let k : (3 * b + 1) * (3 * b + 1) ≤ low * low = mul-le-mul le le in
    below_through (edge_length m e) ((3 * b + 1) * (3 * b + 1)) (low * low) h k

-- ---- the greatest coordinate, point by point

abbrev pub ReachBefore : List Pt → ℕ → ℕ → Type 0
ReachBefore points i b = (k : ℕ) (p : Pt) → k < i → slice_get points k ≡ Some p → IsPointWithin b p

pub reach_next : (points : List Pt) (i b c d : ℕ) (p : Pt) → slice_get points i ≡ Some p → b ≤ d → c ≤ d → IsPointWithin c p → ReachBefore points i b → ReachBefore points (i + 1) d
reach_next points i b c d p at bd cd within before k q lt at_k = elim (below_or_last k i lt) [
  | inl less ↦ let h = before k q less at_k in (wider (nat_abs q.x) b d h.0 bd, wider (nat_abs q.y) b d h.1 bd)
  | inr same ↦ subst (IsPointWithin d) (same_Some p q (sym at ∙ ap (slice_get points) (sym same) ∙ at_k)) (wider (nat_abs p.x) c d within.0 cd, wider (nat_abs p.y) c d within.1 cd)
]
  where
    wider : (a b c : ℕ) → a ≤ b → b ≤ c → a ≤ c
    wider a b c h k = omega arith

pub reach_all : (p : PlanParts) → IsPlan p → (i b : ℕ) → length p.points ≤ i → ReachBefore p.points i b → IsReach (map_of p) b
reach_all p is i b le before k lt =
    let within : k < length p.points = subst (λ (n : ℕ). k < n) (count_of_plan p is) lt in
    subst (IsPointWithin b) (sym (place_of_plan p is k)) (before k (get_or p.points k origin) (omega arith) (slice_get-get_or p.points k origin within))
