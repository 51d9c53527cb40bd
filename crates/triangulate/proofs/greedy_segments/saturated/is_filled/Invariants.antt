use Rattle.std.proofs.Common.{ℕ, ◌≤◌, ◌<◌}
use Rattle.sight_names.specs.Map.{map_of}
use Rattle.triangulate.proofs.GreedySegments.Filling.{IsInsideOf}
use Rattle.triangulate.proofs.greedy_segments.saturated.is_filled.Given as goal

abbrev pub invariant-loop-k : goal.invariant-loop-k
invariant-loop-k l = (k : ℕ) → l.initial.k ≤ k → k < l.k → ¬ IsInsideOf (map_of l.plan) l.a l.b l.c k
