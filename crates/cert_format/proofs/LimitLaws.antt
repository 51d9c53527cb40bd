-- How many triangles, or groups, a certificate may have: never more than the program knows, and always twice the points.
use Rattle.std.proofs.Common.{ℕ, ◌*◌, ◌^◌, ◌<◌, ◌≤◌, arith, max}
use Rattle.std.proofs.Math.Nat.{le-min, le-max_right, min-le_left}
use Rattle.sight_names.specs.declared.limits.TheConstants.{LARGE_POINTS, MOST_TRIANGLES, USUAL_TRIANGLES}
use Rattle.sight_names.specs.Limits.{most_triangles}

pub few_of : (points n : ℕ) → n ≤ most_triangles points → n ≤ MOST_TRIANGLES
few_of points n few = let h = min-le_left MOST_TRIANGLES (max USUAL_TRIANGLES (2 * points)) in omega (arith, few, h)

-- a count of so many takes two bytes
pub small_of : (points n : ℕ) → n ≤ most_triangles points → n < 2 ^ 16
small_of points n few = let h = few_of points n few in omega (arith, h)

pub twice_fits : (points n : ℕ) → points ≤ LARGE_POINTS → n ≤ 2 * points → n ≤ most_triangles points
twice_fits points n all few =
    let h = le-max_right USUAL_TRIANGLES (2 * points) in
    le-min {k = n} {a = MOST_TRIANGLES} {b = max USUAL_TRIANGLES (2 * points)} (omega (arith, all, few)) (omega (arith, few, h))
