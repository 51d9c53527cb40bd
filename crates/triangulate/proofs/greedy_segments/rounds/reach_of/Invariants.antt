use Rattle.std.proofs.Common.{◌≤◌, ◌^◌}
use Rattle.triangulate.proofs.GreedySegments.Reach.{ReachBefore}
use Rattle.triangulate.proofs.greedy_segments.rounds.reach_of.Given as goal

abbrev pub invariant-loop-point : goal.invariant-loop-point
invariant-loop-point l = record { bound : l.most ≤ 2 ^ 25; before : ReachBefore l.plan.points l.point-index l.most }
