use Rattle.std.proofs.Common.{to_z-of_z, arith}
use Rattle.std.proofs.lemmas.Int.{ints}
use Rattle.geom_exact.proofs.ExtremeLines.Values.{value_is}
use Rattle.geom_exact.proofs.extreme_lines.extreme.Extreme.value.Goals as goal

pub returns-clause-value : goal.returns-clause-value
returns-clause-value c =
    let e = value_is c.args.self.now.left.at c.args.self.now.right.at c.args.p c.args.self.now.a c.args.self.now.b c.args.self.now.c c.args.self.now.a_is c.args.self.now.b_is c.args.self.now.c_is in
    grind (arith, to_z-of_z)

pub returns-clause-bound : goal.returns-clause-bound
returns-clause-bound c = let k = c.args.self.now.c_small in omega (arith, ints)

pub overflow_sub-result : goal.overflow_sub-result
overflow_sub-result c = let k = c.args.self.now.c_small in omega (arith, ints)
