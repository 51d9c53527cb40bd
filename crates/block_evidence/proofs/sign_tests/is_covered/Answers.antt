use Rattle.std.proofs.Common.{rules}
use Rattle.block_evidence.proofs.Crossing.{weights_round, opposite_round}
use Rattle.block_evidence.proofs.sign_tests.is_covered.Goals as goal

pub returns-then-are_weights : goal.returns-then-are_weights
returns-then-are_weights c = λ h. weights_round c.args.p c.args.a c.args.b c.args.c _ _ _ (search rules) (search rules) (search rules) (c.are_weights.ensures h)

pub returns-else-are_weights : goal.returns-else-are_weights
returns-else-are_weights c = λ h. opposite_round c.args.p c.args.a c.args.b c.args.c _ _ _ (search rules) (search rules) (search rules) (c.are_opposite.ensures h)
