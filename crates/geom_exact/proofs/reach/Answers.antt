use Rattle.std.proofs.Common.{to_z-of_z, arith}
use Rattle.std.proofs.lemmas.Int.{ints}
use Rattle.geom_exact.specs.Formulas.{reach_of}
use Rattle.geom_exact.proofs.reach.Goals as goal

pub returns : goal.returns
unfolding reach_of
returns c = grind (arith, to_z-of_z)

pub overflow_add-result : goal.overflow_add-result
overflow_add-result c = omega (arith, ints)
