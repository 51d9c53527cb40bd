use Rattle.std.proofs.Common.{inr, refl}
use Rattle.std.proofs.lemmas.Bool.{OnTrue_at}
use Rattle.sight_names.specs.Map.{map_of}
use Rattle.triangulate.specs.IncidentSegments.Kept.{edges_of}
use Rattle.triangulate.proofs.GreedySegments.Crossed.{bar_turned}
use Rattle.triangulate.proofs.greedy_segments.parts.push_if_uncrossed.Goals as goal

pub returns-then-is_crossed-2 : goal.returns-then-is_crossed-2
returns-then-is_crossed-2 c = inr (refl, bar_turned (map_of c.args.plan.now) (edges_of c.args.incident.now.segments) c.args.pair.from c.args.pair.to (OnTrue_at c.if-is_crossed-2.true c.is_crossed-2.ensures.crossed))
