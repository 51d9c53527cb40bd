use Rattle.std.proofs.Common.{ℕ, ◌<◌}
use Rattle.sight_names.specs.Map.{map_of}
use Rattle.sight_ray.specs.RayTrace.CrossedEdges.{portal_crossed}
use Rattle.sight_ray.specs.RayTrace.Trace.{IsSolidPortal}
use Rattle.sight_ray.proofs.ray_trace.wall_at.Given as goal

abbrev pub invariant-loop-i : goal.invariant-loop-i
invariant-loop-i l = (j : ℕ) → j < l.i → IsSolidPortal (map_of l.plan) (portal_crossed l.crossed_edge) j → ⊥
