use Rattle.pair_budget.proofs.Opening.{pair_opened}
use Rattle.pair_budget.proofs.deciding.open_pair.Goals as goal

pub returns : goal.returns
returns c = pair_opened c.args.pair _ _ _ c.set.ensures.bit c.set.ensures.pairs c.set-2.ensures.bit c.set-2.ensures.pairs
