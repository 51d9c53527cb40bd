use Rattle.std.proofs.Common.{subst}
use Rattle.sight_names.specs.Map.{map_of}
use Rattle.sight_ray.specs.RayFault.{IsRayFault}
use Rattle.sight_ray.proofs.RayTrace.WalkLemmas.{traceable_sight, traceable_blocked}
use Rattle.sight_ray.proofs.ray_trace.unblocked.Goals as goal

pub returns-in-Ok : goal.returns-in-Ok
returns-in-Ok c = traceable_sight (map_of c.args.plan.now) c.args.ray.now c.in-Ok.field-0.0 c.in-Ok.field-0.1 c.in-Ok.ensures.answer

pub returns-in-Err-Blocked : goal.returns-in-Err-Blocked
returns-in-Err-Blocked c = traceable_blocked (map_of c.args.plan.now) c.args.ray.now c.in-Err-Blocked.field-0-0 (subst (IsRayFault (map_of c.args.plan.now) c.args.ray.now) c.in-Err-Blocked.field-0-is c.in-Err-Blocked.ensures.answer)
