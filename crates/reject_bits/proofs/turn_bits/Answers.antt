use Rattle.std.proofs.Common.{arith}
use Rattle.reject_bits.proofs.Bits.{turned_none, turned_more, turned_all}
use Rattle.reject_bits.proofs.turn_bits.Goals as goal

pub loop-i-init : goal.loop-i-init
loop-i-init c = turned_none c.args.bytes.now

pub loop-i-preserved : goal.loop-i-preserved
loop-i-preserved c = turned_more c.loop-i.i _ c.args.bytes.now c.loop-i.bytes (let e = c.loop-i.invariant.len in omega (arith, e, c.loop-i-test.true)) c.loop-i.invariant c.turned.ensures

pub returns-clause-bits : goal.returns-clause-bits
returns-clause-bits c = turned_all c.loop-i.i c.args.bytes.now c.loop-i.bytes (omega (arith, c.loop-i-test.false)) c.loop-i.invariant
