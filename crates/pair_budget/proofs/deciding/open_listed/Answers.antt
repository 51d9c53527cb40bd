use Rattle.sight_names.specs.declared.names.Pair.{Pair}
use Rattle.pair_budget.proofs.Opening.{item_below, opens_item, opens_none}
use Rattle.pair_budget.proofs.deciding.open_listed.Goals as goal

pub loop-pair-init : goal.loop-pair-init
loop-pair-init c = opens_none Pair (λ q. q) c.args.listed.now c.args.seen.now

pub open_pair-requires-clause-first : goal.open_pair-requires-clause-first
open_pair-requires-clause-first c = (item_below Pair (λ q. q) c.args.listed.now c.args.seen.now.n c.loop-pair.seen.n c.loop-pair.pair-index _ c.requires c.loop-pair.invariant.sectors c.loop-pair-test.true).0

pub open_pair-requires-clause-second : goal.open_pair-requires-clause-second
open_pair-requires-clause-second c = (item_below Pair (λ q. q) c.args.listed.now c.args.seen.now.n c.loop-pair.seen.n c.loop-pair.pair-index _ c.requires c.loop-pair.invariant.sectors c.loop-pair-test.true).1

pub loop-pair-preserved : goal.loop-pair-preserved
loop-pair-preserved c = opens_item Pair (λ q. q) c.args.listed.now c.loop-pair.pair-index _ c.args.seen.now c.loop-pair.seen c.open_pair.new.seen c.loop-pair-test.true c.loop-pair.invariant c.open_pair.ensures
