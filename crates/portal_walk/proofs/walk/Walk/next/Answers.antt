use Rattle.portal_walk.proofs.Steps.{top_splittable}
use Rattle.portal_walk.proofs.walk.Walk.next.Goals as goal

pub opened-requires-clause-top : goal.opened-requires-clause-top
opened-requires-clause-top c =
    let opens = (rw c.in-Open.is at c.in_ok-came.ensures.came).0 in
    (opens.opened.edge, opens.opened.top)

pub opened-requires-clause-splittable : goal.opened-requires-clause-splittable
opened-requires-clause-splittable c = top_splittable c.args.self.now c.come.new.self (rw c.in-Open.is at c.in_ok-came.ensures.came).0

pub returns-in-Open-clause-step : goal.returns-in-Open-clause-step
returns-in-Open-clause-step c = c.opened.ensures c.args.self.now (rw c.in-Open.is at c.in_ok-came.ensures.came).0
