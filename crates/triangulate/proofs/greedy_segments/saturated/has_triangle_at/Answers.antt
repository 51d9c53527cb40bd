use Rattle.std.proofs.Common.{ℕ, ◌-◌, arith}
use Rattle.std.proofs.lemmas.Bool.{OnTrue_at}
use Rattle.triangulate.proofs.IncidentSegments.AroundPoint.{walk_neighbour}
use Rattle.triangulate.proofs.greedy_segments.saturated.has_triangle_at.Goals as goal

pub returns-then-has_triangle_left-clause-triangle : goal.returns-then-has_triangle_left-clause-triangle
returns-then-has_triangle_left-clause-triangle c = (
  c.other-b.result,
  walk_neighbour c.args.incident.now.segments c.args.a (λ (v : ℕ). Unit {0}) c.loop-at.at (c.loop-at.at - 1) c.other-b.result c.loop-at.invariant (omega arith) c.other-b.ensures.end,
  OnTrue_at c.if-has_triangle_left.true c.has_triangle_left.ensures.triangle,
)
