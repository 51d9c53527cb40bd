use Rattle.std.proofs.Common.{sym}
use Rattle.map_answers.proofs.sight_status.texts.push_trace.Goals as goal

pub returns-in-HitsSolid : goal.returns-in-HitsSolid
returns-in-HitsSolid c = let e = sym c.from.ensures in rw c.in-HitsSolid.is (rw e c.push_count_line.ensures)

pub returns-in-HitsPoint : goal.returns-in-HitsPoint
returns-in-HitsPoint c = let e = sym c.from-in-HitsPoint.ensures in rw c.in-HitsPoint.is (rw e c.push_count_line-in-HitsPoint.ensures)

pub returns-in-Memory : goal.returns-in-Memory
returns-in-Memory c = rw c.in-Memory.is c.push_text.ensures
