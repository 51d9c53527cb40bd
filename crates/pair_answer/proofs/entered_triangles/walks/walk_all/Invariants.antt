use Rattle.sight_names.specs.Map.{map_of}
use Rattle.pair_answer.specs.EnteredTriangles.Walks.{EndedBelow}
use Rattle.pair_answer.proofs.entered_triangles.walks.walk_all.Given as goal

abbrev pub invariant-loop-i : goal.invariant-loop-i
invariant-loop-i l = EndedBelow (map_of l.plan) l.mesh.triangles l.labels l.budget l.i l.sources l.marks.items
