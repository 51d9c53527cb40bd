use Rattle.std.proofs.Common.{◌≤◌, ◌*◌, ◌^◌, mul-le-mul, arith}
use Rattle.map_faults.proofs.corners.weighed.Goals as goal

bounded : (c : goal.Start) → c.args.m * c.args.a ≤ 2 ^ 53 * 2 ^ 26
bounded c = mul-le-mul c.requires.weight c.requires.coordinate

pub overflow_mul-result : goal.overflow_mul-result
overflow_mul-result c = let p = bounded c in omega (arith, p)

pub returns-clause-bound : goal.returns-clause-bound
returns-clause-bound c = let p = bounded c in omega (arith, p)
