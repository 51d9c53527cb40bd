use Rattle.pair_answer.proofs.EnteredTriangles.AllWalks.{walked_at}
use Rattle.pair_answer.proofs.entered_triangles.walks.walk_source.Goals as goal

pub returns-clause-walked : goal.returns-clause-walked
returns-clause-walked c =
    let e = c.in_ok-walker.ensures in
    walked_at c.in_ok-walker.walker c.args.plan.now c.args.mesh.now c.args.labels.now c.args.source c.args.budget c.args.marks.now c.walk_on.new.marks c.walk_on.result e.plan e.mesh e.labels e.source c.walk_on.ensures.walked
