use Rattle.sight_names.proofs.PlanNumbers.{seen_place}
use Rattle.sight_names.proofs.plan.Plan.place.Goals as goal

pub returns-clause-place : goal.returns-clause-place
returns-clause-place c = seen_place _ c.args.self.now c.args.k c.index.result.now c.self.view_is c.self.invariant c.requires c.index.ensures
