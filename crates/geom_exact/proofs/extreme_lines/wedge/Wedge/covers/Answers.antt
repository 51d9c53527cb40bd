use Rattle.std.proofs.Common.{arith}
use Rattle.std.proofs.lemmas.Int.{ints}
use Rattle.plane_base.proofs.Middle.{strictly_between}
use Rattle.geom_exact.specs.ExtremeLines.Differences.{difference}
use Rattle.geom_exact.proofs.extreme_lines.wedge.Wedge.covers.Goals as goal

pub returns : goal.returns
returns c h = strictly_between (difference c.args.self.now.first.left.at c.args.self.now.first.right.at) (difference c.args.self.now.second.left.at c.args.self.now.second.right.at) (difference c.args.left c.args.right) (omega (arith, ints)) (omega (arith, ints, h))
