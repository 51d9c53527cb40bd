use Rattle.sight_names.specs.Order.{Ascends}
use Rattle.map_faults.specs.Gaps.{AreJustGaps, IsGapBefore}
use Rattle.map_faults.proofs.Outside.{Before}
use Rattle.map_faults.proofs.gaps.gaps_by.Given as goal

abbrev pub invariant-loop-k : goal.invariant-loop-k
invariant-loop-k l = AreJustGaps (Before l.mesh.triangles l.sides l.k) l.gaps.items × Ascends (IsGapBefore l.mesh.triangles) l.gaps.items
