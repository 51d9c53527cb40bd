use Rattle.std.proofs.Common.{sym}
use Rattle.map_answers.proofs.sight_status.texts.push_lumps.Goals as goal

pub returns-in-BadVertex : goal.returns-in-BadVertex
returns-in-BadVertex c = let e = sym c.from.ensures in rw c.in-BadVertex.is (rw e c.push_count_line.ensures)

pub returns-in-BadSide : goal.returns-in-BadSide
returns-in-BadSide c = let e = sym c.from-in-BadSide.ensures in rw c.in-BadSide.is (rw e c.push_count_line-in-BadSide.ensures)
