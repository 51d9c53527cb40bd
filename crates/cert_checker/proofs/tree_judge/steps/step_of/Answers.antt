use Rattle.std.proofs.Common.{refl}
use Rattle.cert_checker.proofs.tree_judge.steps.step_of.Goals as goal

pub returns : goal.returns
returns c = record { left_at = refl; right_at = refl; sector = c.code_of.ensures.value; below = c.code_of.ensures.below; left = c.way_of-left_way.ensures; right = c.way_of-right_way.ensures }
