use Rattle.sight_names.specs.Map.{map_of}
use Rattle.triangulate.proofs.GreedySegments.Listed.{AddsUpTo}
use Rattle.triangulate.proofs.greedy_segments.rounds.add_pairs.Given as goal

abbrev pub invariant-loop-to : goal.invariant-loop-to
invariant-loop-to l = AddsUpTo (map_of l.plan) l.from l.later l.low l.high l.to-index l.initial.pairs.items l.pairs.items
