use Rattle.any_judge.proofs.ExactJudge.Walked.{too_many}
use Rattle.any_judge.proofs.exact_judge.trees.RowTrees.hear.Goals as goal

pub returns-then-source-self-clause-heard : goal.returns-then-source-self-clause-heard
returns-then-source-self-clause-heard c = λ b w. record { sized = w.sized; judged = λ counted. absurd (too_many c.args.self.now.ground c.args.source c.args.node b c.if-source-self.true counted) }
