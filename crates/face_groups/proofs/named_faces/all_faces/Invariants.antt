use Rattle.face_groups.proofs.FaceLists.{AreFacesSo}
use Rattle.face_groups.proofs.named_faces.all_faces.Given as goal

abbrev pub invariant-loop-face : goal.invariant-loop-face
invariant-loop-face l = AreFacesSo l.namings l.face l.named.items
