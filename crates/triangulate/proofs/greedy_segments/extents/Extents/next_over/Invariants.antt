use Rattle.std.proofs.Common.{ℕ, ◌-◌, ◌<◌, ◌≤◌, get_or}
use Rattle.triangulate.specs.declared.greedy_segments.extents.Extent.{Extent}
use Rattle.triangulate.specs.GreedySegments.Extents.{CannotMeet}
use Rattle.triangulate.proofs.greedy_segments.extents.Extents.next_over.Given as goal

abbrev pub invariant-loop-u : goal.invariant-loop-u
invariant-loop-u l = (l.start ≤ l.u) × (l.u ≤ l.end) × ((w : ℕ) (d : Extent) → l.start ≤ w → w < l.u → CannotMeet l.pair_extent w (get_or l.self.extents.items w d))

abbrev pub decreases-loop-u : goal.decreases-loop-u
decreases-loop-u l = l.end - l.u
