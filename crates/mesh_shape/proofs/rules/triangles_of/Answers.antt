use Rattle.mesh_shape.proofs.RuleLemmas.{plan_triangles}
use Rattle.mesh_shape.proofs.rules.triangles_of.Goals as goal

pub returns-clause-triangles : goal.returns-clause-triangles
returns-clause-triangles c = plan_triangles c.args.plan.now c.points.ensures.plan c.args.mesh.now.points _ c.requires c.triangles.ensures.triangles
