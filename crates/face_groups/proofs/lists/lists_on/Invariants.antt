use Rattle.face_groups.proofs.Runs.{AreListsSo}
use Rattle.face_groups.proofs.lists.lists_on.Given as goal

abbrev pub invariant-loop-face : goal.invariant-loop-face
invariant-loop-face l = AreListsSo l.namings l.faces l.face-index l.lists.items
