use Rattle.std.proofs.Common.{arith}
use Rattle.map_faults.specs.declared.clashes.TheConstants.{MOST_CLASHES}
use Rattle.map_faults.proofs.Ordered.{none_kept, kept_enough, kept_all}
use Rattle.map_faults.proofs.clashes.keep_first.Goals as goal

pub loop-j-init : goal.loop-j-init
loop-j-init c = record { few = c.requires; so_far = none_kept c.args.i c.args.pairs.now.items c.args.others.now }

pub returns-then-len-eq-MOST_CLASHES : goal.returns-then-len-eq-MOST_CLASHES
returns-then-len-eq-MOST_CLASHES c = kept_enough c.args.i MOST_CLASHES c.args.pairs.now.items c.loop-j.pairs.items c.args.others.now c.loop-j.j-index c.loop-j.invariant.so_far (let a = c.len.ensures in let b = c.if-len-eq-MOST_CLASHES.true in let d = c.loop-j.pairs.ok in omega arith)

pub returns : goal.returns
returns c = kept_all c.args.i MOST_CLASHES c.args.pairs.now.items c.loop-j.pairs.items c.args.others.now c.loop-j.j-index c.loop-j.invariant.so_far c.loop-j-test.false c.loop-j.invariant.few
