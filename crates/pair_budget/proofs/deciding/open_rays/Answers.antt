use Rattle.sight_names.specs.declared.names.PairRay.{PairRay}
use Rattle.pair_budget.proofs.Opening.{item_below, opens_item, opens_none}
use Rattle.pair_budget.proofs.deciding.open_rays.Goals as goal

pub loop-ray-init : goal.loop-ray-init
loop-ray-init c = opens_none PairRay (λ r. r.pair) c.args.rays.now c.args.seen.now

pub open_pair-requires-clause-first : goal.open_pair-requires-clause-first
open_pair-requires-clause-first c = (item_below PairRay (λ r. r.pair) c.args.rays.now c.args.seen.now.n c.loop-ray.seen.n c.loop-ray.ray-index _ c.requires c.loop-ray.invariant.sectors c.loop-ray-test.true).0

pub open_pair-requires-clause-second : goal.open_pair-requires-clause-second
open_pair-requires-clause-second c = (item_below PairRay (λ r. r.pair) c.args.rays.now c.args.seen.now.n c.loop-ray.seen.n c.loop-ray.ray-index _ c.requires c.loop-ray.invariant.sectors c.loop-ray-test.true).1

pub loop-ray-preserved : goal.loop-ray-preserved
loop-ray-preserved c = opens_item PairRay (λ r. r.pair) c.args.rays.now c.loop-ray.ray-index _ c.args.seen.now c.loop-ray.seen c.open_pair.new.seen c.loop-ray-test.true c.loop-ray.invariant c.open_pair.ensures
