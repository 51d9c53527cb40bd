use Rattle.table_verdicts.proofs.MapList.Counted.{set_counted}
use Rattle.table_verdicts.proofs.map_list.sizes.count_set.Goals as goal

pub returns : goal.returns
returns c = set_counted c.args.table.now c.in_ok-clear.clear _ c.compare.result.wrong c.in_ok-clear.ensures.zero c.compare.ensures.wrong
