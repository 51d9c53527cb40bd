use Rattle.whole_wad.proofs.OneTable.{one_table}
use Rattle.whole_wad.proofs.laws.builds_have_one_table.Goals as goal

pub returns : goal.returns
returns c = one_table
