use Rattle.std.proofs.Common.{◌≤◌, ◌*◌, ◌^◌, mul-le-mul, arith}
use Rattle.map_picture.proofs.crossings.product.Goals as goal

bounded : (c : goal.Start) → c.args.a * c.args.b ≤ 2 ^ 58 * 4294967295
bounded c =
    let r = c.requires.right in
    let h : c.args.b ≤ 4294967295 = omega (arith, r) in
    mul-le-mul c.requires.left h

pub overflow_mul-result : goal.overflow_mul-result
overflow_mul-result c = let p = bounded c in omega (arith, p)

pub returns-clause-bound : goal.returns-clause-bound
returns-clause-bound c = let p = bounded c in omega (arith, p)
