use Rattle.std.proofs.Common.{arith, sym, subst}
use Rattle.std.proofs.lemmas.Int.{ints}
use Rattle.geom_exact.specs.ExtremeLines.Spans.{IsCutOf}
use Rattle.geom_exact.specs.declared.extreme_lines.cone.Cone.{Cone}
use Rattle.geom_exact.proofs.ExtremeLines.Cutting.{cut_ray}
use Rattle.geom_exact.proofs.extreme_lines.cone.Cone.cut.Goals as goal

pub returns-in-Ray : goal.returns-in-Ray
returns-in-Ray c = subst (λ (k : Cone). IsCutOf k c.ray_cut.result.a c.ray_cut.result.b c.ray_cut.result.c) (sym c.in-Ray.is) (cut_ray c.in-Ray.ray c.ray_cut.result.a c.ray_cut.result.b c.ray_cut.result.c (λ p. c.ray_cut.ensures.value p) (omega (arith, ints)) (omega (arith, ints)) (omega (arith, ints)))
