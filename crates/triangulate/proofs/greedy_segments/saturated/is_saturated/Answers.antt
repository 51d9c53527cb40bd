use Rattle.std.proofs.Common.{arith}
use Rattle.std.proofs.lemmas.Bool.{OnTrue_at, OnTrue_from}
use Rattle.triangulate.proofs.GreedySegments.Saturation.{shut_off}
use Rattle.triangulate.proofs.greedy_segments.saturated.is_saturated.Goals as goal

pub returns-clause-saturated : goal.returns-clause-saturated
returns-clause-saturated c = OnTrue_from _ _ (λ e. shut_off c.args.plan.now (OnTrue_at e c.has_triangle_at.ensures.plan) c.args.incident.now.segments c.args.a (let h = c.requires.at in let p = c.requires.points in omega arith) (OnTrue_at c.if-not-have_left_faces.false c.have_left_faces.ensures.faces) (OnTrue_at c.if-not-have_right_faces.false c.have_right_faces.ensures) (OnTrue_at e c.has_triangle_at.ensures.triangle))
