use Rattle.sight_names.specs.Map.{map_of}
use Rattle.mesh_base.proofs.GoodMesh.{good_mesh_closed, good_mesh_agree}
use Rattle.mesh_base.proofs.PlanFacts.{plan_facts}
use Rattle.mesh_shape.proofs.laws.good_mesh_laws.Goals as goal

pub returns-clause-closed : goal.returns-clause-closed
returns-clause-closed c = λ ts ls good. good_mesh_closed (map_of c.args.plan.now) (plan_facts c.args.plan.now c.points.ensures.plan) ts ls good

pub returns-clause-agree : goal.returns-clause-agree
returns-clause-agree c = λ ts ls good. good_mesh_agree (map_of c.args.plan.now) (plan_facts c.args.plan.now c.points.ensures.plan) ts ls good
