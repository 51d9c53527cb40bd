use Rattle.std.proofs.Common.{refl, sym}
use Rattle.cert_checker.proofs.TreeJudge.Following.{blocked, refused_ends}
use Rattle.cert_checker.proofs.tree_judge.trees.answer_blocked.Goals as goal

pub returns-then-not-is_blocked-clause-refused : goal.returns-then-not-is_blocked-clause-refused
returns-then-not-is_blocked-clause-refused c = λ _ _ _. refused_ends c.args.terrain.now.edges.now c.args.terrain.now.roots.now.roots.items c.args.source c.args.path.now c.args.waits.now c.args.follow.now c.put.new.path c.in-Some.place c.in-Some-get.edge.now c.args.evidence c.in-Some.is (sym c.in-Some-get.ensures) (c.if-not-put.ensures.put refl) c.if-not-is_blocked.ensures

pub returns-clause-answered : goal.returns-clause-answered
returns-clause-answered c = λ _ t. blocked c.args.terrain.now.edges.now c.args.terrain.now.roots.now.roots.items c.args.source c.args.path.now c.args.waits.now c.args.follow.now c.put.new.path c.in-Some.place c.next_asked-follow.new.follow c.next_asked-follow.result c.in-Some-get.edge.now c.args.evidence t c.in-Some.is (sym c.in-Some-get.ensures) (c.if-not-put.ensures.put refl) (c.if-not-is_blocked.ensures.0 refl) c.next_asked-follow.ensures.next
