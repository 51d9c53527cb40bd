use Rattle.std.proofs.Common.{arith}
use Rattle.std.proofs.lemmas.Int.{ints}
use Rattle.plane_base.proofs.Middle.{right_outside}
use Rattle.geom_exact.specs.ExtremeLines.Differences.{arrow_to}
use Rattle.geom_exact.proofs.extreme_lines.wedge.Wedge.has_outside_right.Goals as goal

pub returns : goal.returns
returns c h r a b = right_outside (arrow_to c.args.self.now.first.left.at) (arrow_to c.args.self.now.first.right.at) (arrow_to c.args.self.now.second.left.at) (arrow_to c.args.self.now.second.right.at) (arrow_to r) (arrow_to c.args.right) (omega (arith, ints)) (omega (arith, ints, h)) a b
