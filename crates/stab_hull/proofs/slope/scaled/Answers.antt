use Rattle.std.proofs.Common.{to_z-of_z, w64, FitsSigned, ◌*ℤ◌, unsigned_abs, ◌≤◌, ◌^◌, mul-le-mul, lit<, arith}
use Rattle.std.proofs.lemmas.Int.{fits_signed_mul, ints, unsigned_abs-mul}
use Rattle.stab_hull.proofs.slope.scaled.Goals as goal

fits : (c : goal.Start) → FitsSigned w64 (c.args.a *ℤ c.args.x)
fits c = fits_signed_mul w64 c.args.a c.args.x (2 ^ 26) (2 ^ 25) c.requires.left c.requires.right (lit< tt)

wide : (c : goal.Start) → FitsSigned w64 c.args.x
wide c = omega (arith, ints)

pub overflow_cast-result : goal.overflow_cast-result
overflow_cast-result c = omega (arith, ints)

pub overflow_mul-result : goal.overflow_mul-result
overflow_mul-result c = let a = c.ranges.a in let x = c.ranges.x in let w = wide c in simp to_z-of_z (fits c)

pub returns-clause-value : goal.returns-clause-value
returns-clause-value c = let a = c.ranges.a in let x = c.ranges.x in let w = wide c in let p = fits c in simp to_z-of_z

pub returns-clause-bound : goal.returns-clause-bound
returns-clause-bound c =
    let a = c.ranges.a in let x = c.ranges.x in let w = wide c in let p = fits c in
    let q : unsigned_abs (c.args.a *ℤ c.args.x) ≤ 2 ^ 51 = rw unsigned_abs-mul (mul-le-mul c.requires.left c.requires.right) in
    simp to_z-of_z q
