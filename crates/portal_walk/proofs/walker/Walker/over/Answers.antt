use Rattle.portal_walk.proofs.Answering.{whole_begins}
use Rattle.portal_walk.proofs.walker.Walker.over.Goals as goal

pub invariant_of-result : goal.invariant_of-result
invariant_of-result c =
    let e = c.in_ok-walk.ensures in
    whole_begins c.in_ok-walk.walk c.args.plan.now c.args.mesh.now c.args.labels.now c.args.source e.plan e.mesh e.labels e.source e.rules c.requires.audited c.requires.good e.pending e.nodes
