use Rattle.std.proofs.Common.{to_z-of_z, w64, FitsSigned, ◌*ℤ◌, unsigned_abs, ◌≤◌, ◌^◌, mul-le-mul, lit<}
use Rattle.std.proofs.lemmas.Int.{fits_signed_mul, unsigned_abs-mul}
use Rattle.stab_hull.proofs.chain.product.Goals as goal

fits : (c : goal.Start) → FitsSigned w64 (c.args.a *ℤ c.args.b)
fits c = fits_signed_mul w64 c.args.a c.args.b (2 ^ 26) (2 ^ 26) c.requires.left c.requires.right (lit< tt)

pub overflow_mul-result : goal.overflow_mul-result
overflow_mul-result c = let a = c.ranges.a in let b = c.ranges.b in simp to_z-of_z (fits c)

pub returns-clause-value : goal.returns-clause-value
returns-clause-value c = let a = c.ranges.a in let b = c.ranges.b in let p = fits c in simp to_z-of_z

pub returns-clause-bound : goal.returns-clause-bound
returns-clause-bound c =
    let a = c.ranges.a in let b = c.ranges.b in let p = fits c in
    let q : unsigned_abs (c.args.a *ℤ c.args.b) ≤ 2 ^ 52 = rw unsigned_abs-mul (mul-le-mul c.requires.left c.requires.right) in
    simp to_z-of_z q
