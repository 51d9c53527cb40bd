use Rattle.std.proofs.Common.{false, Some, ap, ◌∙◌, refl, arith}
use Rattle.std.proofs.lemmas.Option.{slice_get-get_or}
use Rattle.pair_answer.proofs.EnteredTriangles.Marking.{lists_all, lists_more, lists_skip}
use Rattle.pair_answer.proofs.entered_triangles.marks.numbers_of.Goals as goal
use Rattle.pair_answer.proofs.entered_triangles.marks.numbers_of.Goals.{then-marks-k+in_ok-push, else-marks-k}

pub loop-k-preserved : goal.loop-k-preserved
loop-k-preserved c = elim c.if-marks-k.branch [
  | then-marks-k+in_ok-push w ↦ rw (w.numbers-is, w.in_ok-push.ensures.items) (lists_more c.loop-k.k c.args.marks.now c.loop-k.numbers.items _ c.loop-k.invariant (slice_get-get_or c.args.marks.now c.loop-k.k false c.loop-k-test.true ∙ ap Some w.if-marks-k.true) refl)
  | else-marks-k w ↦ rw w.numbers-is (lists_skip c.loop-k.k c.args.marks.now c.loop-k.numbers.items _ c.loop-k.invariant (slice_get-get_or c.args.marks.now c.loop-k.k false c.loop-k-test.true ∙ ap Some w.if-marks-k.false) refl)
]

pub returns : goal.returns
returns c = lists_all c.loop-k.k c.args.marks.now c.loop-k.numbers.items (omega arith) c.loop-k.invariant
