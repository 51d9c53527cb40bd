use Rattle.std.proofs.Common.{ℕ, ◌-◌, subst, arith, ℤ, pos, ◌<ℤ◌}
use Rattle.std.proofs.lemmas.Int.{ints}
use Rattle.sight_names.specs.Map.{map_of}
use Rattle.sight_names.specs.Points.{place}
use Rattle.geom_exact.specs.Formulas.{turn_of}
use Rattle.triangulate.proofs.IncidentSegments.AroundPoint.{walk_neighbour}
use Rattle.triangulate.proofs.GreedySegments.Filling.{moved_turn}
use Rattle.triangulate.proofs.greedy_segments.saturated.has_neighbour_right.Goals as goal

pub returns-then-turn-lt0 : goal.returns-then-turn-lt0
returns-then-turn-lt0 c =
    let m = map_of c.args.plan.now in
    let v = c.turn.ensures.value in
    let right : turn_of c.place-from.result c.place-to.result c.place.result <ℤ pos 0 = omega (arith, ints, v, c.if-turn-lt0.true) in (
      c.other.result,
      walk_neighbour c.args.incident.now.segments c.args.a (λ (v : ℕ). Unit {0}) c.loop-at.at (c.loop-at.at - 1) c.other.result c.loop-at.invariant (omega arith) c.other.ensures.end,
      subst (λ (t : ℤ). t <ℤ pos 0) (moved_turn _ _ _ (place m c.args.a) (place m c.args.b) (place m c.other.result) c.place-from.ensures.place c.place-to.ensures.place c.place.ensures.place) right,
    )
