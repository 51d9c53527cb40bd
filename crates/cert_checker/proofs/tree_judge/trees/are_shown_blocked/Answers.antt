use Rattle.std.proofs.Common.{◌∷◌, []}
use Rattle.cert_checker.specs.TreeJudge.Path.{path_ends}
use Rattle.cert_checker.proofs.TreeJudge.Ends.{by_parts}
use Rattle.cert_checker.proofs.tree_judge.trees.are_shown_blocked.Goals as goal

pub returns : goal.returns
returns c = by_parts (path_ends c.args.path.now) c.args.count (c.args.a ∷ c.args.b ∷ c.args.c ∷ c.args.d ∷ []) _ c.is_shown_blocked.ensures
