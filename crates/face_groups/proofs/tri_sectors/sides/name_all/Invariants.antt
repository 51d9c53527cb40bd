use Rattle.face_groups.proofs.TriSectors.SideLemmas.{AreNamesBefore}
use Rattle.face_groups.proofs.tri_sectors.sides.name_all.Given as goal

abbrev pub invariant-loop-side : goal.invariant-loop-side
invariant-loop-side l = AreNamesBefore l.sides l.side-index l.names
