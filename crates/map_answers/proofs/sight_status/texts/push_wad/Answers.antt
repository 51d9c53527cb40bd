use Rattle.std.proofs.Common.{sym}
use Rattle.map_answers.proofs.sight_status.texts.push_wad.Goals as goal

pub returns-in-LumpOutside : goal.returns-in-LumpOutside
returns-in-LumpOutside c = let e = sym c.from.ensures in rw c.in-LumpOutside.is (rw e c.push_count_line.ensures)
