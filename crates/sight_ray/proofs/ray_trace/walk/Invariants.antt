use Rattle.std.proofs.Common.{◌≡◌, ◌+◌, All, IsSome, length}
use Rattle.sight_names.specs.Map.{map_of}
use Rattle.sight_names.specs.Mesh.{label_of}
use Rattle.sight_ray.specs.RayTrace.CrossedEdges.{portal_crossed}
use Rattle.sight_ray.specs.RayTrace.Trace.{CrossesPortal, Walked}
use Rattle.sight_ray.proofs.ray_trace.walk.Given as goal

abbrev pub invariant-loop : goal.invariant-loop
invariant-loop l = Walked (map_of l.plan) l.mesh.triangles l.ray (portal_crossed l.crossed_edge) l.passed.items × CrossesPortal (map_of l.plan) l.ray (portal_crossed l.crossed_edge) × All (λ k. IsSome (label_of l.labels k)) l.passed.items
    × (length l.passed.items ≡ l.counter + 1)
