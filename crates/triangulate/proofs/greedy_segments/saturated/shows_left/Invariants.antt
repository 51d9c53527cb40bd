use Rattle.std.proofs.Common.{◌≤◌, length}
use Rattle.triangulate.proofs.greedy_segments.saturated.shows_left.Given as goal

abbrev pub invariant-loop-behind : goal.invariant-loop-behind
invariant-loop-behind l = l.behind ≤ length l.points

abbrev pub decreases-loop-behind : goal.decreases-loop-behind
decreases-loop-behind l = l.behind
