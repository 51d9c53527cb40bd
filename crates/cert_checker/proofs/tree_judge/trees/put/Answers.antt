use Rattle.std.proofs.Common.{refl, arith}
use Rattle.cert_checker.specs.TreeJudge.Path.{edge_ends}
use Rattle.cert_checker.proofs.TreeJudge.Ways.{put_at}
use Rattle.cert_checker.proofs.tree_judge.trees.put.Goals as goal

pub returns-clause-put : goal.returns-clause-put
returns-clause-put c = λ _. put_at c.args.path.now c.args.depth _ (edge_ends c.args.edge.now) (omega arith) refl
