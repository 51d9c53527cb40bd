use Rattle.std.proofs.Common.{length, arith}
use Rattle.std.proofs.lemmas.Result.{IfOk-weaker}
use Rattle.sight_names.specs.Map.{map_of}
use Rattle.triangulate.proofs.GreedySegments.Listed.{between_all}
use Rattle.triangulate.proofs.greedy_segments.rounds.pairs_between.Goals as goal

pub returns : goal.returns
returns c = IfOk-weaker c.pairs_from.result _ _ (λ v h. between_all (map_of c.args.plan.now) c.args.unsaturated.now c.args.low c.args.high (length c.args.unsaturated.now) v.items (omega arith) h) c.pairs_from.ensures
