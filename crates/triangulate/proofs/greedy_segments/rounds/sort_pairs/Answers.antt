use Rattle.triangulate.proofs.GreedySegments.Ordering.{in_order}
use Rattle.triangulate.proofs.greedy_segments.rounds.sort_pairs.Goals as goal

pub returns-clause-order : goal.returns-clause-order
returns-clause-order c = in_order _ c.sort_unstable.ensures.sorted
