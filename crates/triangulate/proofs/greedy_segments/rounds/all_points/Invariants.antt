use Rattle.triangulate.proofs.GreedySegments.Starting.{IsCount}
use Rattle.triangulate.proofs.greedy_segments.rounds.all_points.Given as goal

abbrev pub invariant-loop-k : goal.invariant-loop-k
invariant-loop-k l = IsCount l.k l.numbers.items
