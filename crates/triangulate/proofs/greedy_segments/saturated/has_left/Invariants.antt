use Rattle.std.proofs.Common.{◌≡◌, ℕ, ◌<◌, slice_get, Some, pos, ◌≤ℤ◌}
use Rattle.sight_names.specs.declared.names.Pt.{Pt}
use Rattle.geom_exact.specs.Formulas.{turn_of}
use Rattle.triangulate.proofs.greedy_segments.saturated.has_left.Given as goal

abbrev pub invariant-loop-point : goal.invariant-loop-point
invariant-loop-point l = (k : ℕ) (p : Pt) → k < l.point-index → slice_get l.plan.points k ≡ Some p → turn_of l.from l.to p ≤ℤ pos 0
