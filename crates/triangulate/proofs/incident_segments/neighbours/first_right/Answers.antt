use Rattle.std.proofs.Common.{arith}
use borrow.Author.Differences.{ints}
use Rattle.std.proofs.lemmas.Int.{to_z-of_z}
use Rattle.sight_names.specs.Map.{map_of}
use Rattle.triangulate.proofs.IncidentSegments.FirstOnSide.{turn_seen, turn_seen_from, passed_right, taken_right, kept_right, first_taken_right}
use Rattle.triangulate.proofs.incident_segments.neighbours.first_right.Goals as goal

pub returns-then-turn-ge0-clause-best : goal.returns-then-turn-ge0-clause-best
returns-then-turn-ge0-clause-best c = passed_right (map_of c.args.plan.now) c.args.a c.args.b c.args.best c.args.c c.turn.result (turn_seen (map_of c.args.plan.now) c.args.a c.args.b c.place-end.result c.args.c c.turn.result c.turn.ensures.value c.place-end.ensures.place) (let h = c.if-turn-ge0.true in grind (arith, ints, to_z-of_z))

pub returns-then-turn-gt0-clause-best : goal.returns-then-turn-gt0-clause-best
returns-then-turn-gt0-clause-best c = taken_right (map_of c.args.plan.now) c.args.a c.args.b c.args.best c.args.c c.in-Some.d c.turn.result c.turn-in-Some.result c.in-Some.is
    (turn_seen (map_of c.args.plan.now) c.args.a c.args.b c.place-end.result c.args.c c.turn.result c.turn.ensures.value c.place-end.ensures.place) (let h = c.if-turn-ge0.false in grind (arith, ints, to_z-of_z))
    (turn_seen_from (map_of c.args.plan.now) c.args.a c.place.result c.place-end.result c.in-Some.d c.args.c c.turn-in-Some.result c.turn-in-Some.ensures.value c.place.ensures.place c.place-end.ensures.place) (let h = c.if-turn-gt0.true in grind (arith, ints, to_z-of_z))

pub returns-else-turn-gt0-clause-best : goal.returns-else-turn-gt0-clause-best
returns-else-turn-gt0-clause-best c = kept_right (map_of c.args.plan.now) c.args.a c.args.b c.args.best c.args.c c.in-Some.d c.turn-in-Some.result c.in-Some.is
    (turn_seen_from (map_of c.args.plan.now) c.args.a c.place.result c.place-end.result c.in-Some.d c.args.c c.turn-in-Some.result c.turn-in-Some.ensures.value c.place.ensures.place c.place-end.ensures.place) (let h = c.if-turn-gt0.false in grind (arith, ints, to_z-of_z))

pub returns-in-None-clause-best : goal.returns-in-None-clause-best
returns-in-None-clause-best c = first_taken_right (map_of c.args.plan.now) c.args.a c.args.b c.args.best c.args.c c.turn.result c.in-None.is
    (turn_seen (map_of c.args.plan.now) c.args.a c.args.b c.place-end.result c.args.c c.turn.result c.turn.ensures.value c.place-end.ensures.place) (let h = c.if-turn-ge0.false in grind (arith, ints, to_z-of_z))
