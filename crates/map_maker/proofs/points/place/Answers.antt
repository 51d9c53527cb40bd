use Rattle.map_maker.proofs.Hashed.{place_found, place_missing}
use Rattle.map_maker.proofs.points.place.Goals as goal
use Rattle.std.proofs.Common.{sym}

pub returns-in-Some : goal.returns-in-Some
returns-in-Some c = place_found c.args.p c.args.points.now.keys c.in-Some.place (sym c.in-Some.ensures.index)

pub returns-in-None : goal.returns-in-None
returns-in-None c = place_missing c.args.p c.args.points.now.keys c.len.result (sym c.in-None.ensures.index) c.len.ensures.len
