use Rattle.sight_names.specs.Map.{map_of}
use Rattle.mesh_base.proofs.PlanFacts.{plan_facts}
use Rattle.triangulate.proofs.MeshLaws.{mesh_plain, mesh_fills, mesh_fills_sides}
use Rattle.triangulate.proofs.MeshBound.{few_in_plan}
use Rattle.triangulate.proofs.laws.mesh_laws.Goals as goal

pub returns-clause-plain : goal.returns-clause-plain
returns-clause-plain c = λ ends ts h. mesh_plain (map_of c.args.plan.now) (plan_facts c.args.plan.now c.points.ensures.plan) ends ts h

pub returns-clause-fills : goal.returns-clause-fills
returns-clause-fills c = λ ends ts h. mesh_fills (map_of c.args.plan.now) (plan_facts c.args.plan.now c.points.ensures.plan) ends ts h

pub returns-clause-sides : goal.returns-clause-sides
returns-clause-sides c = λ ends ts h. mesh_fills_sides (map_of c.args.plan.now) (plan_facts c.args.plan.now c.points.ensures.plan) ends ts h

pub returns-clause-few : goal.returns-clause-few
returns-clause-few c = λ ends ts h. few_in_plan c.args.plan.now c.points.ensures.plan ends ts h
