use Rattle.pair_budget.proofs.Opening.{named_none}
use Rattle.pair_budget.proofs.deciding.open_named.Goals as goal

pub loop-a-init : goal.loop-a-init
loop-a-init c = named_none c.args.named.now c.args.seen.now c.requires.none
