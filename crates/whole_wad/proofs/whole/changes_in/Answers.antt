use Rattle.whole_wad.proofs.Changing.{change_more}
use Rattle.whole_wad.proofs.whole.changes_in.Goals as goal

pub loop-outcome-preserved : goal.loop-outcome-preserved
loop-outcome-preserved c = change_more c.args.outcomes.now c.loop-outcome.outcome-index c.outcome-item.result c.outcome-item.result c.loop-outcome.changes.items _ c.loop-outcome-test.true c.outcome-item.is c.loop-outcome.invariant c.in_ok-push_change.ensures
