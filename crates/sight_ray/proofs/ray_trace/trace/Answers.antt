use Rattle.sight_ray.specs.RayTrace.CrossedEdges.{portal_crossed}
use Rattle.sight_ray.specs.RayTrace.Trace.{IsTraceable}
use Rattle.sight_names.specs.Map.{map_of}
use Rattle.sight_names.proofs.PlanMap.{plan_is_map}
use Rattle.sight_ray.proofs.RayTrace.Firsts.{first_of_answer}
use Rattle.sight_ray.proofs.RayTrace.WalkLemmas.{first_crossed}
use Rattle.sight_ray.proofs.ray_trace.trace.Goals as goal

pub walk-requires-clause-crossed : goal.walk-requires-clause-crossed
walk-requires-clause-crossed c =
    let t : IsTraceable (map_of c.args.plan.now) c.args.ray.now = c.in_default.ensures in
    first_crossed c.args.plan.now c.in-Some.ensures.plan c.args.ray.now (portal_crossed c.in-Some.first) c.in-Some.ensures.portal t.2.leaves

pub returns-clause-first : goal.returns-clause-first
returns-clause-first c = first_of_answer (λ v. v.items) (map_of c.args.plan.now) c.args.mesh.now.triangles c.args.labels.now c.args.ray.now (plan_is_map c.args.plan.now c.in-Some.ensures.plan) c.requires.good c.walk.result c.walk.ensures.answer
