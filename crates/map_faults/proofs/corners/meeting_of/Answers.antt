use Rattle.std.proofs.Common.{sym}
use Rattle.map_faults.proofs.Cornering.{corner_of_lines}
use Rattle.map_faults.proofs.corners.meeting_of.Goals as goal

pub returns : goal.returns
returns c = corner_of_lines c.args.plan.now c.args.i c.args.j c.in_ok-one.one c.in_ok-other.other c.place.result c.place-2.result c.place-3.result c.place-4.result c.corner_of.result (sym c.in_ok-one.ensures.entry) (sym c.in_ok-other.ensures.entry) c.place.ensures.number c.place-2.ensures.number c.place-3.ensures.number c.place-4.ensures.number c.corner_of.ensures
