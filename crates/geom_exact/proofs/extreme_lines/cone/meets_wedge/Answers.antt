use Rattle.std.proofs.Common.{arith}
use Rattle.std.proofs.lemmas.Int.{ints}
use Rattle.geom_exact.proofs.ExtremeLines.Widening.{wedge_meets}
use Rattle.geom_exact.proofs.extreme_lines.cone.meets_wedge.Goals as goal

pub returns : goal.returns
returns c h = wedge_meets c.args.wedge.now c.args.left c.args.right (omega (arith, ints)) (omega (arith, ints, h))
