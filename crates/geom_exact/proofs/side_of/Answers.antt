use Rattle.std.proofs.Common.{to_z-of_z, arith}
use Rattle.std.proofs.lemmas.Int.{ints}
use Rattle.geom_exact.proofs.CrossingLemmas.{side_sum}
use Rattle.geom_exact.proofs.side_of.Goals as goal

pub returns-clause-value : goal.returns-clause-value
returns-clause-value c = let e = side_sum c.args.ray.now c.args.p in grind (arith, to_z-of_z)

pub overflow_add-result-2 : goal.overflow_add-result-2
overflow_add-result-2 c = omega (arith, ints)

pub returns-clause-bound : goal.returns-clause-bound
returns-clause-bound c = omega (arith, ints)

pub scaled-requires-clause-of_ray : goal.scaled-requires-clause-of_ray
scaled-requires-clause-of_ray c = omega (arith, ints)

pub scaled-requires-2-clause-of_ray : goal.scaled-requires-2-clause-of_ray
scaled-requires-2-clause-of_ray c = omega (arith, ints)

pub overflow_add-result : goal.overflow_add-result
overflow_add-result c = omega (arith, ints)
