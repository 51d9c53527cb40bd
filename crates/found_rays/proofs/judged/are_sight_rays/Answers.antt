use Rattle.std.proofs.Common.{length, not, ap, ◌∙◌}
use Rattle.sight_names.specs.Map.{map_of}
use Rattle.cert_checker.specs.Rays.{AreSightRaysBelow, IsFirstRayFault}
use Rattle.found_rays.proofs.Judging.{of_ground, where_none}
use Rattle.found_rays.proofs.judged.are_sight_rays.Goals as goal

pub ray_fault-requires : goal.ray_fault-requires
ray_fault-requires c = of_ground c.args.over.now.plan c.args.over.now.mesh.triangles c.args.over.now.labels c.args.edges.now c.requires

pub returns : goal.returns
returns c = λ t. where_none c.ray_fault.result (AreSightRaysBelow (map_of c.args.over.now.plan) c.args.rays.now (length c.args.rays.now)) (IsFirstRayFault (map_of c.args.over.now.plan) c.args.rays.now) c.ray_fault.ensures.fault (c.is_none.ensures ∙ ap not t)
