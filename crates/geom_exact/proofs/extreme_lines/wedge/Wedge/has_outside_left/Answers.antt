use Rattle.std.proofs.Common.{arith}
use Rattle.std.proofs.lemmas.Int.{ints}
use Rattle.plane_base.proofs.Middle.{left_outside}
use Rattle.geom_exact.specs.ExtremeLines.Differences.{arrow_to}
use Rattle.geom_exact.proofs.extreme_lines.wedge.Wedge.has_outside_left.Goals as goal

pub returns : goal.returns
returns c h r a b = left_outside (arrow_to c.args.self.now.first.left.at) (arrow_to c.args.self.now.first.right.at) (arrow_to c.args.self.now.second.left.at) (arrow_to c.args.self.now.second.right.at) (arrow_to c.args.left) (arrow_to r) (omega (arith, ints)) (omega (arith, ints, h)) a b
