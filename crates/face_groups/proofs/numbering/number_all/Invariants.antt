use Rattle.std.proofs.Common.{take}
use Rattle.face_groups.specs.NamedFaces.{AreNumbered}
use Rattle.face_groups.proofs.numbering.number_all.Given as goal

abbrev pub invariant-loop-face : goal.invariant-loop-face
invariant-loop-face l = AreNumbered (take l.face-index l.named) l.groups.items l.places
