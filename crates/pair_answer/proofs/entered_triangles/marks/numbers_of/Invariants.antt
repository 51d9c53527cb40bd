use Rattle.pair_answer.proofs.EnteredTriangles.Marking.{ListsBelow}
use Rattle.pair_answer.proofs.entered_triangles.marks.numbers_of.Given as goal

abbrev pub invariant-loop-k : goal.invariant-loop-k
invariant-loop-k l = ListsBelow l.k l.marks l.numbers.items
