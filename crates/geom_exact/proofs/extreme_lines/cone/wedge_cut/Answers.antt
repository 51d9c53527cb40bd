use Rattle.std.proofs.Common.{arith, ap, ◌∙◌, of_z, w64}
use Rattle.std.proofs.lemmas.Int.{ints}
use Rattle.geom_exact.proofs.ExtremeLines.Cutting.{cut_near, cut_away}
use Rattle.geom_exact.proofs.extreme_lines.cone.wedge_cut.Goals as goal

pub returns-then-value-eq0 : goal.returns-then-value-eq0
returns-then-value-eq0 c = cut_near c.args.wedge.now _ _ _ (omega (arith, ints)) (λ p. c.middle_cut.ensures.value p) (omega (arith, ints)) (omega (arith, ints)) (omega (arith, ints))

pub returns : goal.returns
returns c = cut_away c.args.wedge.now _ _ _ (λ e. c.if-value-eq0.false (ap (of_z w64) (c.value.ensures.value ∙ e))) c.requires (λ p. c.middle_cut-2.ensures.value p) (omega (arith, ints)) (omega (arith, ints)) (omega (arith, ints))
