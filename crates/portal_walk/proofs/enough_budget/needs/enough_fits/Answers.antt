use Rattle.portal_walk.proofs.EnoughBudget.Counting.{enough_below}
use Rattle.portal_walk.proofs.enough_budget.needs.enough_fits.Goals as goal

pub returns : goal.returns
returns c = enough_below c.args.plan.now c.points-points.ensures.plan c.args.mesh.now.triangles c.triangles-triangles.ensures.few
