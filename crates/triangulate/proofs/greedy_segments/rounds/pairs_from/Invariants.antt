use Rattle.sight_names.specs.Map.{map_of}
use Rattle.triangulate.specs.GreedySegments.Pairs.{ArePairsFrom}
use Rattle.triangulate.proofs.greedy_segments.rounds.pairs_from.Given as goal

abbrev pub invariant-loop-at : goal.invariant-loop-at
invariant-loop-at l = ArePairsFrom (map_of l.plan) l.unsaturated l.low l.high l.begin l.at l.pairs.items
