use Rattle.math_base.proofs.Bools.{not_both_values}
use Rattle.pair_budget.proofs.RowLaws.{list_row_skip}
use Rattle.pair_budget.proofs.deciding.list_row_of.Goals as goal

pub returns-then-not-is_spent : goal.returns-then-not-is_spent
returns-then-not-is_spent c = list_row_skip c.args.results.now c.args.components.now c.args.a c.args.listed.now.items (λ s. not_both_values _ (c.is_spent.ensures.1 s) c.if-not-is_spent.true) c.requires.before
