use Rattle.std.proofs.Common.{◌≡◌, length}
use Rattle.face_groups.specs.TriSectors.Forest.{IsForest, classes_in}
use Rattle.face_groups.proofs.TriSectors.FaceLemmas.{AreLinkedBefore}
use Rattle.face_groups.proofs.tri_sectors.faces.link_all.Given as goal

abbrev pub invariant-loop-k : goal.invariant-loop-k
invariant-loop-k l = record {
  forest : IsForest l.faces;
  len : length l.faces ≡ length l.mesh.triangles;
  linked : AreLinkedBefore l.mesh.triangles l.walls l.k (classes_in l.faces);
}
