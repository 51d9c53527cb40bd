use Rattle.std.proofs.Common.{refl, ◌∙◌}
use Rattle.cert_checker.proofs.TreeJudge.Entering.{lets_wait}
use Rattle.cert_checker.proofs.tree_judge.stepping.let_wait.Goals as goal

pub returns-clause-waits : goal.returns-clause-waits
returns-clause-waits c = λ xs x is. lets_wait xs c.args.source c.args.waits.now c.args.follow.now x c.in-Some.right _ c.requires refl refl (c.in-Some.ensures ∙ is.right c.args.source c.ranges.source.fits)
