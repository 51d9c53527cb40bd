use Rattle.std.proofs.Common.{◌≡◌, length}
use Rattle.face_groups.proofs.TriSectors.SideLemmas.{AreAlikeBefore}
use Rattle.face_groups.proofs.tri_sectors.sides.mixed_pair.Given as goal

abbrev pub invariant-loop-at : goal.invariant-loop-at
invariant-loop-at l = record { len : length l.seen ≡ length l.initial.seen; alike : AreAlikeBefore l.sides l.at l.seen }
