use Rattle.std.proofs.Common.{◌∙◌}
use Rattle.udmf_map.proofs.FarNumbers.{one_goes}
use Rattle.udmf_map.proofs.values.lowered.Goals as goal

pub loop-places-preserved : goal.loop-places-preserved
loop-places-preserved c = record { same = one_goes c.args.negative c.loop-places.left c.loop-places.places c.loop-places-test.true c.if-left-eq0.true ∙ c.loop-places.invariant.same }
