use Rattle.std.proofs.Common.{to_z-of_z, arith}
use Rattle.std.proofs.lemmas.Int.{ints}
use Rattle.stab_hull.proofs.slope.Slope.level.Goals as goal

pub returns-clause-value : goal.returns-clause-value
returns-clause-value c = grind (arith, to_z-of_z)

pub scaled-requires-clause-left : goal.scaled-requires-clause-left
scaled-requires-clause-left c = omega (arith, ints)

pub scaled-requires-2-clause-left : goal.scaled-requires-2-clause-left
scaled-requires-2-clause-left c = omega (arith, ints)

pub overflow_add-result : goal.overflow_add-result
overflow_add-result c = omega (arith, ints)

pub returns-clause-bound : goal.returns-clause-bound
returns-clause-bound c = omega (arith, ints)
