use Rattle.std.proofs.Common.{refl}
use Rattle.face_groups.proofs.FaceLists.{one_face_more}
use Rattle.face_groups.proofs.named_faces.all_faces.Goals as goal

pub loop-face-preserved : goal.loop-face-preserved
loop-face-preserved c = one_face_more c.args.namings.now c.loop-face.face (record { sectors = c.in_ok-sectors.sectors; face = c.loop-face.face }) c.loop-face.named.items c.add_face.new.named.items c.loop-face.invariant refl c.in_ok-sectors.ensures c.in_ok-add_face.ensures
