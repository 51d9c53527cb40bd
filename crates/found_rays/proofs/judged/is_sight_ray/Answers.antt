use Rattle.std.proofs.Common.{not, ap, ◌∙◌}
use Rattle.sight_names.specs.Map.{map_of}
use Rattle.sight_names.specs.Ray.{IsSightRay}
use Rattle.cert_checker.specs.Rays.{IsCheckFaultOf}
use Rattle.found_rays.proofs.Judging.{of_ground, where_none}
use Rattle.found_rays.proofs.judged.is_sight_ray.Goals as goal

pub returns : goal.returns
returns c =
    let p = c.args.over.now.plan in
    let one = c.args.one.now in
    let fault = c.fault_of_ray.ensures.fault (of_ground p c.args.over.now.mesh.triangles c.args.over.now.labels c.args.edges.now c.requires) in
    λ t. where_none c.fault_of_ray.result (IsSightRay (map_of p) one.ray one.pair.a one.pair.b) (IsCheckFaultOf (map_of p) one) fault (c.is_none.ensures ∙ ap not t)
