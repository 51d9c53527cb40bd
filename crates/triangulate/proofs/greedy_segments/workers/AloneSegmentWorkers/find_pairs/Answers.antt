use Rattle.std.proofs.lemmas.Result.{IfOk-weaker}
use Rattle.sight_names.specs.Map.{map_of}
use Rattle.triangulate.specs.IncidentSegments.Kept.{edges_of}
use Rattle.triangulate.proofs.GreedySegments.Joining.{all_uncrossed}
use Rattle.triangulate.proofs.greedy_segments.workers.AloneSegmentWorkers.find_pairs.Goals as goal

pub returns : goal.returns
returns c = IfOk-weaker c.pairs_between.result _ _ (λ v h. all_uncrossed (map_of c.args.plan.now) (edges_of c.args.incident.now.segments) c.args.unsaturated.now c.args.low c.args.high v.items h) c.pairs_between.ensures
