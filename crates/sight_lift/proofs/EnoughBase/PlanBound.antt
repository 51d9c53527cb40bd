-- The budget that is enough for a plan's map fits: with at most 2^15 lines, 2^14 - 1 points, and twice as many triangles as
-- points, it is at most 2^58.
use Rattle.std.proofs.Common.{ℕ, ◌*◌, ◌^◌, ◌≤◌, arith, List, length, mul-le-mul, lit≤}
use Rattle.std.proofs.lemmas.List.{length-map}
use Rattle.sight_names.specs.declared.limits.TheConstants.{LARGE_LINES, LARGE_POINTS, MOST_TRIANGLES}
use Rattle.sight_names.specs.Map.{map_of, looked_up}
use Rattle.sight_names.specs.Plan.{PlanParts, IsPlan}
use Rattle.sight_names.specs.Enough.{is_passable, passable_lines}
use Rattle.sight_lift.proofs.EnoughBase.Ranks.{filter_short}

pub few_passable : (p : PlanParts) → IsPlan p → passable_lines (map_of p) ≤ LARGE_LINES
few_passable p is =
    let s = filter_short is_passable (map_of p).lines in
    let l = length-map p.lines (Rattle.std.specs.Prelude.option_map (looked_up p.points)) in
    let k = is.few_lines in
    omega (arith, s, l)

pub product : (l v t : ℕ) → l ≤ LARGE_LINES → v ≤ LARGE_POINTS → t ≤ MOST_TRIANGLES → l * v * v * t ≤ 2 ^ 58
product l v t hl hv ht =
    let a = mul-le-mul hl hv in
    let b = mul-le-mul a hv in
    let c = mul-le-mul b ht in
    let d : LARGE_LINES * LARGE_POINTS * LARGE_POINTS * MOST_TRIANGLES ≤ 2 ^ 58 = lit≤ tt in
    omega (arith, c, d)
