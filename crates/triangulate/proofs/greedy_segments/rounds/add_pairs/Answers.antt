use Rattle.std.proofs.Common.{get_or, subst, ap₂, arith, nat_abs, ◌≤◌, ◌-ℤ◌}
use Rattle.std.proofs.lemmas.Bool.{OnTrue_at}
use Rattle.std.proofs.lemmas.Option.{slice_get-get_or}
use Rattle.sight_names.specs.declared.names.Pt.{Pt}
use Rattle.sight_names.specs.Map.{map_of}
use Rattle.sight_names.specs.Greedy.{square_length}
use Rattle.sight_names.specs.Points.{place}
use Rattle.sight_names.proofs.Lists.{contains_of_get}
use Rattle.triangulate.proofs.GreedySegments.Listed.{adds_none, adds_next, adds_rest, adds_all}
use Rattle.triangulate.proofs.greedy_segments.rounds.add_pairs.Goals as goal

pub loop-to-init : goal.loop-to-init
loop-to-init c = adds_none (map_of c.args.plan.now) c.args.from c.args.later.now c.args.low c.args.high c.args.pairs.now.items

pub place-end-requires : goal.place-end-requires
place-end-requires c = c.requires.later.within (get_or c.args.later.now c.loop-to.to-index 0) (contains_of_get c.args.later.now (get_or c.args.later.now c.loop-to.to-index 0) c.loop-to.to-index (slice_get-get_or c.args.later.now c.loop-to.to-index 0 c.loop-to-test.true))

pub returns-then-is_past : goal.returns-then-is_past
returns-then-is_past c =
    let to = get_or c.args.later.now c.loop-to.to-index 0 in
    let at = slice_get-get_or c.args.later.now c.loop-to.to-index 0 c.loop-to-test.true in
    let far : c.args.high ≤ nat_abs (c.place-end.result.x -ℤ c.place-start.result.x) = OnTrue_at c.if-is_past.true c.is_past.ensures in
    adds_rest c.args.plan.now c.place-start.ensures.plan c.args.from to c.loop-to.to-index c.args.low c.args.high c.args.later.now c.args.pairs.now.items c.loop-to.pairs.items (c.requires.behind to (contains_of_get c.args.later.now to c.loop-to.to-index at)) c.requires.later at
    (subst (λ (q : Pt). c.args.high ≤ nat_abs (q.x -ℤ (place (map_of c.args.plan.now) c.args.from).x)) c.place-end.ensures.place (subst (λ (q : Pt). c.args.high ≤ nat_abs (c.place-end.result.x -ℤ q.x)) c.place-start.ensures.place far))
    c.loop-to.invariant

pub loop-to-preserved : goal.loop-to-preserved
loop-to-preserved c =
    let to = get_or c.args.later.now c.loop-to.to-index 0 in
    let at = slice_get-get_or c.args.later.now c.loop-to.to-index 0 c.loop-to-test.true in
    adds_next c.args.plan.now c.place-start.ensures.plan c.args.from to c.loop-to.to-index c.args.low c.args.high (square_length c.place-start.result c.place-end.result) c.args.later.now c.args.pairs.now.items c.loop-to.pairs.items c.add_near.new.pairs.items
    (c.requires.behind to (contains_of_get c.args.later.now to c.loop-to.to-index at)) c.requires.later at
    (ap₂ square_length c.place-start.ensures.place c.place-end.ensures.place) c.in_ok-add_near.ensures c.loop-to.invariant

pub returns : goal.returns
returns c = adds_all (map_of c.args.plan.now) c.args.from c.args.later.now c.args.low c.args.high c.loop-to.to-index c.args.pairs.now.items c.loop-to.pairs.items (omega (arith, c.loop-to-test.false)) c.loop-to.invariant
