use Rattle.map_lumps.proofs.Numbering.{search_finds, found_is}
use Rattle.map_lumps.proofs.points.number_of.Goals as goal

pub unreachable-requires : goal.unreachable-requires
unreachable-requires c = search_finds c.args.points.now c.args.point c.in-Err.field-0 c.requires.order c.requires.there c.in-Err.ensures.position

pub returns : goal.returns
returns c = found_is c.args.points.now c.args.point c.in-Ok.place c.in-Ok.ensures.bound c.in-Ok.ensures.ok
