use Rattle.std.proofs.Common.{arith}
use Rattle.table_compare.proofs.Alone.{first_here, none_more}
use Rattle.table_compare.proofs.first_bit.Goals as goal

pub loop-i-init : goal.loop-i-init
loop-i-init c = λ k lt told. absurd (omega arith)

pub loop-i-preserved : goal.loop-i-preserved
loop-i-preserved c = none_more c.args.one.now c.args.other.now c.loop-i.i c.loop-i.invariant c.in_default.ensures

pub returns-in-Some : goal.returns-in-Some
returns-in-Some c = first_here c.args.one.now c.args.other.now c.loop-i.i c.in-Some.bit _ c.loop-i-test.true c.loop-i.invariant c.in-Some.ensures
