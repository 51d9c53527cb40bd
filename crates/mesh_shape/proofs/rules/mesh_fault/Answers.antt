use Rattle.sight_names.specs.Map.{map_of}
use Rattle.mesh_shape.proofs.RuleLemmas.{all_good}
use Rattle.mesh_shape.proofs.rules.mesh_fault.Goals as goal

pub returns-in-Some-first_unfit_side : goal.returns-in-Some-first_unfit_side
returns-in-Some-first_unfit_side c = (c.in_default.ensures.search, c.in_default-first_twice.ensures, c.in_default-first_without_mate.ensures, c.in-Some-first_unfit_side.ensures)

pub returns-in-Some-first_meeting : goal.returns-in-Some-first_meeting
returns-in-Some-first_meeting c = (c.in_default.ensures.search, c.in_default-first_twice.ensures, c.in_default-first_without_mate.ensures, c.in_default-first_unfit_side.ensures, c.in-Some-first_meeting.ensures)

pub first_inside-requires-clause-turn : goal.first_inside-requires-clause-turn
first_inside-requires-clause-turn c = c.in_default.ensures.search

pub returns-in-Some-first_inside : goal.returns-in-Some-first_inside
returns-in-Some-first_inside c = (c.in_default.ensures.search, c.in_default-first_twice.ensures, c.in_default-first_without_mate.ensures, c.in_default-first_unfit_side.ensures, c.in_default-first_meeting.ensures, c.in-Some-first_inside.ensures)

pub returns : goal.returns
returns c = all_good (map_of c.args.plan.now) c.args.mesh.now.triangles c.args.labels.now c.first_flat.ensures.triangles c.requires.one_each c.in_default.ensures.search c.in_default-first_twice.ensures c.in_default-first_without_mate.ensures c.in_default-first_unfit_side.ensures c.in_default-first_meeting.ensures c.in_default-first_inside.ensures
