use Rattle.std.proofs.Common.{◌+◌, ◌-◌, List, sym, subst, arith}
use Rattle.sight_names.specs.declared.names.Side.{Side}
use Rattle.sound_reach.proofs.Lookups.{place_below, place_in}
use Rattle.sound_reach.proofs.Firsts.{IsOnWay, way_begun, way_done, way_on, way_stuck}
use Rattle.sound_reach.proofs.path.path_from.Goals as goal

pub loop-done-init : goal.loop-done-init
loop-done-init c = subst (λ (ss : List Side). IsOnWay c.args.doors.now.doors.items c.args.to c.args.distances.now c.args.from c.args.distance 0 ss c.args.from) (sym c.new-sides.ensures.items) (way_begun c.args.doors.now.doors.items c.args.to c.args.distances.now c.args.from c.args.distance c.requires.from)

pub at-requires-clause-within : goal.at-requires-clause-within
at-requires-clause-within c =
    let p = place_in c.args.distances.now c.loop-done.at (c.args.distance - c.loop-done.done) c.loop-done.invariant.here in
    let l = c.requires.distances.len in
    place_below c.loop-done.at c.args.doors.now.sectors (omega (arith, p, l))

pub first_step-step-requires : goal.first_step-step-requires
first_step-step-requires c = λ e there. let lt = c.requires.indexed.within e ((c.at.ensures e).0 there).0 in let l = c.requires.distances.len in omega (arith, lt, l)

pub unreachable-requires : goal.unreachable-requires
unreachable-requires c = way_stuck c.args.doors.now.doors.items c.args.doors.now.sectors c.args.to c.args.distances.now c.requires.distances c.args.from c.args.distance c.loop-done.done c.loop-done.sides.items c.loop-done.at c.at.result.now c.first_step-step.result c.loop-done-test.true c.at.ensures c.first_step-step.ensures c.in_default.is c.loop-done.invariant

pub loop-done-preserved : goal.loop-done-preserved
loop-done-preserved c = subst (λ (ss : List Side). IsOnWay c.args.doors.now.doors.items c.args.to c.args.distances.now c.args.from c.args.distance (c.loop-done.done + 1) ss c.in-Some.step.state) (sym c.in_ok-push.ensures.items)
    (way_on c.args.doors.now.doors.items c.args.doors.now.sectors c.args.to c.args.distances.now c.requires.distances c.requires.indexed.net c.args.from c.args.distance c.loop-done.done c.loop-done.sides.items c.loop-done.at c.at.result.now c.first_step-step.result c.in-Some.step c.loop-done-test.true c.at.ensures c.first_step-step.ensures c.in-Some.is c.loop-done.invariant)

pub returns-clause-len : goal.returns-clause-len
returns-clause-len c = let l = c.loop-done.invariant.len in let t = c.loop-done-test.false in let u = c.loop-done.auto.done-end in omega (arith, l, t, u)

pub returns-clause-first : goal.returns-clause-first
returns-clause-first c = way_done c.args.doors.now.doors.items c.args.doors.now.sectors c.args.to c.args.distances.now c.requires.distances c.args.from c.args.distance c.loop-done.done c.loop-done.sides.items c.loop-done.at c.loop-done-test.false c.loop-done.invariant
