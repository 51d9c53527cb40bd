use Rattle.std.proofs.lemmas.Option.{slice_get-get_or}
use Rattle.sound_reach.proofs.Lookups.{any_door, contains_at}
use Rattle.sound_reach.proofs.Firsts.{least_more, least_of_all}
use Rattle.sound_reach.proofs.path.first_step.Goals as goal

pub step_through-requires : goal.step_through-requires
step_through-requires c = c.requires _ (contains_at c.args.doors.now c.loop-door.door-index any_door c.loop-door-test.true)

pub loop-door-preserved : goal.loop-door-preserved
loop-door-preserved c = least_more c.args.distances.now c.args.left c.args.spare c.args.doors.now c.loop-door.door-index c.loop-door.best c.step_through.result c.lesser-best.result _
    (contains_at c.args.doors.now c.loop-door.door-index any_door c.loop-door-test.true) (slice_get-get_or c.args.doors.now c.loop-door.door-index any_door c.loop-door-test.true) c.step_through.ensures c.lesser-best.ensures c.loop-door.invariant

pub returns : goal.returns
returns c = least_of_all c.args.distances.now c.args.left c.args.spare c.args.doors.now c.loop-door.door-index c.loop-door.best c.loop-door-test.false c.loop-door.invariant
