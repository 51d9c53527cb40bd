use Rattle.std.proofs.Common.{refl}
use Rattle.cert_checker.proofs.TreeJudge.Entering.{enters_both}
use Rattle.cert_checker.proofs.tree_judge.trees.enter.Goals as goal

pub returns-clause-enters : goal.returns-clause-enters
returns-clause-enters c = enters_both c.args.terrain.now.edges.now c.args.terrain.now.roots.now.roots.items c.args.source c.args.path.now c.args.waits.now c.args.follow.now c.args.edge.now c.in-Some.left c.in-Some-outside-2.right _ c.requires.path c.requires.waits refl refl c.in-Some.ensures c.in-Some-outside-2.ensures
