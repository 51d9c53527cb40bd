use Rattle.cert_checker.proofs.TreeJudge.Nexts.{takes_way, takes_from_root}
use Rattle.cert_checker.proofs.tree_judge.trees.next_asked.Goals as goal

pub returns-in-Some-clause-next : goal.returns-in-Some-clause-next
returns-in-Some-clause-next c = takes_way c.args.roots.now.roots.items c.args.path.now c.args.waits.now c.args.follow.now c.in-Some.wait c.in-Some.ensures.some

pub returns-in-None-clause-next : goal.returns-in-None-clause-next
returns-in-None-clause-next c = takes_from_root c.args.roots.now.roots.items c.args.path.now c.args.waits.now c.args.follow.now _ _ c.in-None.ensures.none c.next_root-asked.ensures
