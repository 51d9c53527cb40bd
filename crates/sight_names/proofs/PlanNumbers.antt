-- A plan's point numbers are those of its map.
use Rattle.std.proofs.Common.{◌≡◌, ◌≢◌, ℕ, ◌<◌, List, length, slice_get, slice_index_or, get_or, Some, refl, sym, ap, ◌∙◌, subst, arith, Bool, true, false, ◌&&◌, ℤ}
use Rattle.std.specs.Prelude.{unwrap_or, position}
use Rattle.std.specs.List.{position_or_len}
use Rattle.std.specs.Ordering.{int_eq}
use Rattle.std.proofs.lemmas.List.Sums.{position_or_len_is}
use borrow.Author.Differences.{ints}
use Rattle.sight_names.specs.declared.names.Pt.{Pt}
use Rattle.sight_names.specs.declared.plan.Line.{Line}
use Rattle.sight_names.specs.Plan.{PlanParts, IsPlan}
use Rattle.sight_names.specs.Map.{map_of, looked_up, origin}
use Rattle.sight_names.specs.Points.{pt_eq, points_of, place, point_number, line_edge}
use Rattle.sight_names.proofs.PlanPoints.{plan_points, index_any}
use Rattle.sight_names.proofs.PlanMap.{points_differ}
use Rattle.sight_names.proofs.Records.{same_edge, same_pt}

pub eq_refl : (a b : ℤ) → (int_eq a a && int_eq b b) ≡ true
eq_refl a b = grind (arith, ints)

eq_true : (a b c d : ℤ) → (int_eq a c && int_eq b d) ≡ true → (a ≡ c) × (b ≡ d)
eq_true a b c d h = grind (arith, ints)

pub same_pt_true : (p q : Pt) → pt_eq p q ≡ true → p ≡ q
same_pt_true p q h = let e = eq_true p.x p.y q.x q.y h in same_pt p q e.0 e.1

pub pt_false : (p q : Pt) → p ≢ q → pt_eq p q ≡ false
pt_false p q h = go (pt_eq p q) (same_pt_true p q)
  where
    go : (b : Bool) → (b ≡ true → p ≡ q) → b ≡ false
    go true f = absurd (h (f refl))
    go false f = refl

-- where no earlier point is the same, the number is the place
pub number_at : (points : List Pt) (k : ℕ) → k < length points → ((j : ℕ) → j < k → get_or points j origin ≢ get_or points k origin)
    → unwrap_or (position (pt_eq (get_or points k origin)) points) (length points) ≡ k
number_at points k lt differ =
    let e : position_or_len (pt_eq (get_or points k origin)) points ≡ k =
    position_or_len_is (pt_eq (get_or points k origin)) points k origin (omega arith)
    (λ j h. pt_false (get_or points k origin) (get_or points j origin) (λ s. differ j h (sym s)))
    (λ h. eq_refl (get_or points k origin).x (get_or points k origin).y) in
    grind (arith, e)

pub number_of_plan : (p : PlanParts) → IsPlan p → (k : ℕ) → k < length p.points → point_number (map_of p) (slice_index_or p.points k origin) ≡ k
number_of_plan p is k lt = subst (λ (ps : List Pt). unwrap_or (position (pt_eq (get_or p.points k origin)) ps) (length ps) ≡ k) (sym (plan_points p is))
    (number_at p.points k lt (λ j h. points_differ p is j k (omega arith) lt (omega arith)))

-- the edge of a plan's line goes between the line's own numbers
pub line_edge_of_plan : (p : PlanParts) → IsPlan p → (i : ℕ) (l : Line) → slice_get p.lines i ≡ Some (Some l) → line_edge (map_of p) (looked_up p.points l) ≡ record { from = l.a; to = l.b }
line_edge_of_plan p is i l e = let q = is.each i l e in same_edge (number_of_plan p is l.a q.first) (number_of_plan p is l.b q.second)

-- the place of a number in a plan's map
pub place_of_plan : (p : PlanParts) → IsPlan p → (k : ℕ) → place (map_of p) k ≡ slice_index_or p.points k origin
place_of_plan p is k = ap (λ (ps : List Pt). slice_index_or ps k origin) (plan_points p is)

pub count_of_plan : (p : PlanParts) → IsPlan p → length (points_of (map_of p)) ≡ length p.points
count_of_plan p is = ap length (plan_points p is)

-- what a body reads at a number is the place that its clauses name
pub seen_place : (inside seen : PlanParts) (k : ℕ) (p : Pt) → inside ≡ seen → IsPlan inside → k < length seen.points → p ≡ slice_index_or inside.points k p → p ≡ place (map_of seen) k
seen_place inside seen k p e is lt read =
    read ∙ index_any inside.points k p origin (subst (λ (q : PlanParts). k < length q.points) (sym e) lt) ∙ sym (place_of_plan inside is k) ∙ ap (λ (q : PlanParts). place (map_of q) k) e
