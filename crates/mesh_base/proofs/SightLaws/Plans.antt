-- The lines of the map that a plan stands for.
use Rattle.std.proofs.Common.{◌≡◌, ℕ, zero, suc, arith, ◌<◌, List, [], ◌∷◌, length, slice_get, Option, Some, None, refl, sym, ◌∙◌, ap, map, option_map, option_and_then}
use Rattle.sight_names.specs.declared.names.Pt.{Pt}
use Rattle.sight_names.specs.declared.plan.Line.{Line}
use Rattle.sight_names.specs.Plan.{PlanParts}
use Rattle.sight_names.specs.Map.{MapLine, map_of, looked_up, line_at}
use Rattle.math_base.proofs.Options.{none_is_not_some}

line_of : (points : List Pt) (ls : List (Option Line)) (i : ℕ) → option_and_then (λ k. k) (slice_get (map (option_map (looked_up points)) ls) i) ≡ option_map (looked_up points) (option_and_then (λ k. k) (slice_get ls i))
line_of points [] i = refl
line_of points (None ∷ ls) zero = refl
line_of points (Some k ∷ ls) zero = refl
line_of points (l ∷ ls) (suc i) = line_of points ls i

-- the map's line is the plan's, looked up
pub line_at_is : (p : PlanParts) (i : ℕ) → line_at (map_of p) i ≡ option_map (looked_up p.points) (option_and_then (λ k. k) (slice_get p.lines i))
line_at_is p i = line_of p.points p.lines i

pub line_there : (p : PlanParts) (i : ℕ) (k : Line) → Some k ≡ option_and_then (λ k. k) (slice_get p.lines i) → line_at (map_of p) i ≡ Some (looked_up p.points k)
line_there p i k e = line_at_is p i ∙ ap (option_map (looked_up p.points)) (sym e)

pub no_line_there : (p : PlanParts) (i : ℕ) → ◌≡◌ {A = Option Line} None (option_and_then (λ k. k) (slice_get p.lines i)) → line_at (map_of p) i ≡ None
no_line_there p i e = line_at_is p i ∙ ap (option_map (looked_up p.points)) (sym e)

-- a line of the map is within the plan's list
pub line_below : (p : PlanParts) (i : ℕ) (l : MapLine) → line_at (map_of p) i ≡ Some l → i < length p.lines
line_below p i l e = within p.lines i (sym (line_at_is p i) ∙ e)
  where
    within : (ls : List (Option Line)) (i : ℕ) → option_map (looked_up p.points) (option_and_then (λ k. k) (slice_get ls i)) ≡ Some l → i < length ls
    within [] i e = absurd (none_is_not_some l e)
    within (k ∷ ls) zero e = omega arith
    within (k ∷ ls) (suc i) e = let h = within ls i e in omega arith
