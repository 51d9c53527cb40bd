use Rattle.std.proofs.Common.{◌≡◌, take}
use Rattle.triangulate.proofs.triangles.incident_of.Given as goal

abbrev pub invariant-loop-segment : goal.invariant-loop-segment
invariant-loop-segment l = record { points : l.incident.points ≡ l.points; segments : l.incident.segments ≡ take l.segment-index l.segment-items }
