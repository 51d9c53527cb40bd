use Rattle.std.proofs.Common.{refl, sym}
use Rattle.cert_checker.proofs.TreeJudge.Following.{opened}
use Rattle.cert_checker.proofs.tree_judge.trees.answer_open.Goals as goal

pub returns-clause-answered : goal.returns-clause-answered
returns-clause-answered c = λ _. opened c.args.terrain.now.edges.now c.args.terrain.now.roots.now.roots.items c.args.source c.args.path.now c.args.waits.now c.args.follow.now c.put.new.path c.enter-follow.new.waits c.in-Some.place c.enter-follow.new.follow c.enter-follow.result c.in-Some-get.edge.now c.args.reached.now c.note.new.reached c.in-Some.is (sym c.in-Some-get.ensures) (c.if-not-put.ensures.put refl) c.enter-follow.ensures.enters c.note.ensures
