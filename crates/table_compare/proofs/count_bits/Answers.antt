use Rattle.std.proofs.Common.{arith}
use Rattle.table_compare.proofs.Alone.{count_more}
use Rattle.table_compare.proofs.count_bits.Goals as goal

pub loop-i-preserved : goal.loop-i-preserved
loop-i-preserved c = record {
  count = count_more c.args.one.now c.args.other.now c.loop-i.i c.loop-i.count c.count_alone-count.result c.loop-i.invariant.count c.count_alone-count.ensures.count;
  few = let a = c.loop-i.invariant.few in let b = c.count_alone-count.ensures.few in omega arith;
}
