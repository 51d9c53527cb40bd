use Rattle.sight_names.specs.Map.{map_of}
use Rattle.pair_answer.specs.EnteredTriangles.Marks.{IsNumberMarked}
use Rattle.pair_answer.proofs.EnteredTriangles.Stopping.{StopsBelow}
use Rattle.pair_answer.proofs.entered_triangles.stops.all_stops.Given as goal

abbrev pub invariant-loop-k : goal.invariant-loop-k
invariant-loop-k l = StopsBelow (map_of l.plan) l.mesh.triangles (IsNumberMarked l.marks) l.k l.stops.items
