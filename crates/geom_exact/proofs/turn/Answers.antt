use Rattle.std.proofs.Common.{to_z-of_z, arith}
use Rattle.geom_exact.specs.Formulas.{turn_of}
use Rattle.geom_exact.proofs.turn.Goals as goal

pub returns-clause-value : goal.returns-clause-value
unfolding turn_of
returns-clause-value c = grind (arith, to_z-of_z)
