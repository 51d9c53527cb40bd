use Rattle.run_laws.proofs.RightTables.{builds_leave_one_wad}
use Rattle.run_laws.proofs.headline.builds_leave_one_wad.Goals as goal

pub returns : goal.returns
returns c = builds_leave_one_wad
