use Rattle.pair_answer.proofs.EnteredTriangles.Marking.{NamedBelow}
use Rattle.pair_answer.proofs.entered_triangles.marks.mark_sources.Given as goal

abbrev pub invariant-loop-k : goal.invariant-loop-k
invariant-loop-k l = NamedBelow l.k l.labels l.sources l.fn.marks l.marks
