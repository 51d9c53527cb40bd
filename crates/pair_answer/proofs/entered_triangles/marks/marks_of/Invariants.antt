use Rattle.pair_answer.proofs.EnteredTriangles.Marking.{MarksBelow}
use Rattle.pair_answer.proofs.entered_triangles.marks.marks_of.Given as goal

abbrev pub invariant-loop-i : goal.invariant-loop-i
invariant-loop-i l = MarksBelow l.i l.count l.numbers l.marks.items
