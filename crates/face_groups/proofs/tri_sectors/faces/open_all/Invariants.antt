use Rattle.face_groups.proofs.TriSectors.FaceLemmas.{AreOpenBefore}
use Rattle.face_groups.proofs.tri_sectors.faces.open_all.Given as goal

abbrev pub invariant-loop-k : goal.invariant-loop-k
invariant-loop-k l = AreOpenBefore l.mesh.triangles l.walls l.faces l.k l.marks
