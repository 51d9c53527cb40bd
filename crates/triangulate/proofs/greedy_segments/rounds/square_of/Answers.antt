use Rattle.std.proofs.Common.{to_z-of_z, arith}
use Rattle.triangulate.proofs.greedy_segments.rounds.square_of.Goals as goal

pub returns-clause-value : goal.returns-clause-value
returns-clause-value c = grind (arith, to_z-of_z, c.difference-across.ensures.value, c.difference-up.ensures.value)
