use Rattle.std.proofs.Common.{to_z-of_z, arith, ◌-ℤ◌, refl}
use Rattle.geom_exact.proofs.ExtremeLines.Values.{product_is}
use Rattle.geom_exact.proofs.extreme_lines.extreme.Extreme.product.Goals as goal

pub returns-clause-value : goal.returns-clause-value
returns-clause-value c =
    let e = product_is c.args.self.now.left.at c.args.self.now.right.at c.args.left c.args.right c.args.self.now.a c.args.self.now.b (c.args.left.x -ℤ c.args.right.x) (c.args.left.y -ℤ c.args.right.y) c.args.self.now.a_is c.args.self.now.b_is refl refl in
    grind (arith, to_z-of_z)
