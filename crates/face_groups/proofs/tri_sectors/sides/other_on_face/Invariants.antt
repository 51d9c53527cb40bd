use Rattle.std.proofs.Common.{◌≡◌, ℕ, ◌<◌, slice_get, Some}
use Rattle.face_groups.specs.declared.tri_sectors.sides.FacedSide.{FacedSide}
use Rattle.face_groups.proofs.tri_sectors.sides.other_on_face.Given as goal

abbrev pub invariant-loop-j : goal.invariant-loop-j
invariant-loop-j l = (i : ℕ) (t : FacedSide) → l.at < i → i < l.j → slice_get l.sides i ≡ Some t → t.face ≡ l.first.face → t.sector ≡ l.first.sector
