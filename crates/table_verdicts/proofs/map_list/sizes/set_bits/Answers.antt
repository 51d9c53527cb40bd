use Rattle.table_verdicts.proofs.MapList.Counted.{set_are}
use Rattle.table_verdicts.proofs.map_list.sizes.set_bits.Goals as goal

pub returns-in_ok-count_set-in-Whole : goal.returns-in_ok-count_set-in-Whole
returns-in_ok-count_set-in-Whole c = set_are c.args.n c.args.reject.now c.in-Whole.table (rw c.in-Whole.is at c.in_ok-table.ensures) c.in_ok-count_set-in-Whole.field-0 c.in_ok-count_set-in-Whole.ensures
