use Rattle.std.proofs.Common.{arith}
use Rattle.whole_wad.proofs.Changing.{built_more}
use Rattle.whole_wad.proofs.whole.count_built.Goals as goal

pub loop-outcome-preserved : goal.loop-outcome-preserved
loop-outcome-preserved c = record {
  built = built_more c.args.outcomes.now c.loop-outcome.outcome-index c.outcome-item.result c.outcome-item.result c.loop-outcome.count c.built_in-count.result c.loop-outcome-test.true c.outcome-item.is c.loop-outcome.invariant.built c.built_in-count.ensures.count;
  few = let a = c.loop-outcome.invariant.few in let b = c.built_in-count.ensures.few in omega arith;
}
