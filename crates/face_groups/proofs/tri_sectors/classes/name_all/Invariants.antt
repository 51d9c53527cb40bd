use Rattle.face_groups.proofs.TriSectors.Forests.{AreNamedBefore}
use Rattle.face_groups.proofs.tri_sectors.classes.name_all.Given as goal

abbrev pub invariant-loop-k : goal.invariant-loop-k
invariant-loop-k l = AreNamedBefore l.initial.parents l.k l.parents
