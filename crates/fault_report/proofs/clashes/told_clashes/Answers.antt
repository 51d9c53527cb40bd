use Rattle.sight_names.specs.Map.{map_of}
use Rattle.fault_report.proofs.Telling.{told_all, told_more}
use Rattle.fault_report.proofs.clashes.told_clashes.Goals as goal

pub loop-pair-preserved : goal.loop-pair-preserved
loop-pair-preserved c = told_more (map_of c.args.plan.now) c.args.pairs.now c.loop-pair.pair-index _ c.loop-pair.told.items c.push.new.self.items c.told_of.result c.loop-pair-test.true c.loop-pair.invariant c.told_of.ensures.pair c.told_of.ensures.told c.in_ok-push.ensures.items

pub returns : goal.returns
returns c = told_all (map_of c.args.plan.now) c.args.pairs.now c.loop-pair.pair-index c.loop-pair.told.items c.loop-pair-test.false c.loop-pair.invariant
