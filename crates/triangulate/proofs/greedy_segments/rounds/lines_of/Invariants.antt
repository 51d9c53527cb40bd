use Rattle.std.proofs.Common.{◌≡◌, length, take}
use Rattle.triangulate.specs.IncidentSegments.Kept.{edges_of}
use Rattle.triangulate.proofs.GreedySegments.Starting.{edges_of_lines}
use Rattle.triangulate.proofs.greedy_segments.rounds.lines_of.Given as goal

abbrev pub invariant-loop-line : goal.invariant-loop-line
invariant-loop-line l = record { points : l.incident.points ≡ length l.plan.points; lines : edges_of l.incident.segments ≡ edges_of_lines (take l.line-index l.plan.lines) }
