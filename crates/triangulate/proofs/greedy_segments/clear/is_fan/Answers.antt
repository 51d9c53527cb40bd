use Rattle.std.proofs.Common.{ℤ, of_z, w64, ap, refl, ◌∙◌}
use Rattle.triangulate.proofs.GreedySegments.Crossed.{fan_ends}
use Rattle.triangulate.proofs.greedy_segments.clear.is_fan.Goals as goal

pub returns : goal.returns
returns c = (λ h. fan_ends c.args.p c.args.q c.args.s (λ e. c.if-turn-eq0.false (ap (λ (t : ℤ). of_z w64 t) (c.turn.ensures.value ∙ e))), λ h. refl)
