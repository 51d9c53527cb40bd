use Rattle.std.proofs.Common.{◌-◌, arith}
use Rattle.map_faults.proofs.Clashing.{searched_behind, searched_skipped, searched_more, searched_all}
use Rattle.map_faults.proofs.clashes.sweep.Goals as goal

pub loop-k-init : goal.loop-k-init
loop-k-init c = searched_behind c.args.plan.now c.lines.ensures.plan c.args.one c.args.spans.now c.first_behind-k.result _ c.requires.spans c.requires.one c.requires.none c.first_behind-k.ensures.within c.first_behind-k.ensures.behind

pub loop-k-preserved-then-spans-k : goal.loop-k-preserved-then-spans-k
loop-k-preserved-then-spans-k c =
    let up = c.loop-k-test.true in
    let within = c.loop-k.invariant.within in
    searched_skipped c.args.plan.now c.lines.ensures.plan c.args.one c.args.spans.now c.loop-k.k _ _ _ c.requires.spans c.requires.one up c.loop-k.invariant c.if-spans-k.true (c.requires.skips (c.loop-k.k - 1) (omega arith))

pub loop-k-preserved : goal.loop-k-preserved
loop-k-preserved c = searched_more c.args.plan.now c.args.one c.args.spans.now c.loop-k.k _ _ _ c.loop-k-test.true c.loop-k.invariant c.in_ok-add_if_clash.ensures

pub returns-clause-clashes : goal.returns-clause-clashes
returns-clause-clashes c = searched_all c.args.plan.now c.args.one c.args.spans.now c.loop-k.k _ c.requires.spans c.loop-k-test.false c.loop-k.invariant
