use Rattle.std.proofs.Common.{arith}
use Rattle.std.proofs.lemmas.Int.{ints}
use Rattle.geom_exact.specs.ExtremeLines.Differences.{arrow_to, difference}
use Rattle.plane_base.proofs.Middle.{cross_by}
use Rattle.geom_exact.proofs.extreme_lines.extreme.Extreme.turn.Goals as goal

pub returns-clause-value : goal.returns-clause-value
returns-clause-value c =
    let e = cross_by (difference c.args.self.now.left.at c.args.self.now.right.at) (arrow_to c.args.left) (arrow_to c.args.right) (arrow_to c.args.self.now.right.at) in
    omega (arith, ints)

pub value-requires : goal.value-requires
value-requires c = omega (arith, ints)

pub value-requires-2 : goal.value-requires-2
value-requires-2 c = omega (arith, ints)

pub overflow_sub-result : goal.overflow_sub-result
overflow_sub-result c = omega (arith, ints)

pub returns-clause-bound : goal.returns-clause-bound
returns-clause-bound c = omega (arith, ints)
