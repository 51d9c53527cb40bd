use Rattle.std.proofs.Common.{refl, arith}
use Rattle.cert_checker.specs.TreeJudge.Steps.{step_ends}
use Rattle.cert_checker.proofs.TreeJudge.Ways.{put_at}
use Rattle.cert_checker.proofs.tree_judge.stepping.put_step.Goals as goal

pub returns : goal.returns
returns c = put_at c.args.path.now c.args.depth _ (step_ends c.args.step.now) (omega arith) refl
