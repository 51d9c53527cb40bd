use Rattle.std.proofs.Common.{arith}
use Rattle.cert_checker.specs.TreeJudge.Path.{path_ends}
use Rattle.cert_checker.proofs.TreeJudge.Ends.{of_four}
use Rattle.cert_checker.proofs.tree_judge.stepping.is_shown.Goals as goal

pub returns-else-is_seen_blocked : goal.returns-else-is_seen_blocked
returns-else-is_seen_blocked c = of_four (path_ends c.args.path.now) c.args.evidence _ (omega arith) c.are_shown_blocked.ensures
