use Rattle.std.proofs.Common.{◌≡◌, ◌≤◌, List, Some, length, slice_get, refl, ap, subst, arith, pos, ◌≤ℤ◌}
use Rattle.std.proofs.lemmas.Int.{ints}
use Rattle.std.proofs.lemmas.Option.{slice_get_read}
use Rattle.sight_names.specs.declared.names.Pt.{Pt}
use Rattle.geom_exact.specs.Formulas.{turn_of}
use Rattle.triangulate.proofs.GreedySegments.Filling.{none_next, none_left}
use Rattle.triangulate.proofs.greedy_segments.saturated.has_left.Goals as goal

pub loop-point-preserved : goal.loop-point-preserved
loop-point-preserved c =
    let v = c.turn.ensures.value in
    let at = subst (λ (ps : List Pt). slice_get ps c.loop-point.point-index ≡ Some c.point-item.result) c.points-point-items.ensures.list (slice_get_read c.points-point-items.result.now _ c.loop-point.point-index c.point-item.result refl c.loop-point-test.true c.point-item.is) in
    let here : turn_of c.place-from.result c.place-to.result c.point-item.result ≤ℤ pos 0 = omega (arith, ints, v, c.if-turn-gt0.false) in
    none_next c.place-from.result c.place-to.result c.args.plan.now.points c.loop-point.point-index _ at here c.loop-point.invariant

pub returns : goal.returns
returns c =
    let past : length c.args.plan.now.points ≤ c.loop-point.point-index = let e = ap (length {A = Pt}) c.points-point-items.ensures.list in omega (arith, e, c.loop-point-test.false) in
    none_left c.args.plan.now c.place-from.ensures.plan c.args.a c.args.b c.loop-point.point-index c.place-from.result c.place-to.result c.place-from.ensures.place c.place-to.ensures.place past c.loop-point.invariant
