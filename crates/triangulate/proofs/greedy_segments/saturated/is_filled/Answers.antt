use Rattle.std.proofs.Common.{◌<◌, ℕ, length, subst, sym, ◌∙◌, arith, ℤ, pos, ◌<ℤ◌}
use Rattle.std.proofs.Math.Nat.{min-le_left, min-le_right, le-max_left, le-max_right}
use Rattle.std.proofs.lemmas.Int.{ints}
use Rattle.std.proofs.lemmas.Bool.{false≢true}
use Rattle.sight_names.specs.Map.{map_of}
use Rattle.sight_names.specs.Points.{place}
use Rattle.geom_exact.specs.Formulas.{turn_of}
use Rattle.triangulate.specs.GreedySegments.Saturated.{turn_between}
use Rattle.triangulate.proofs.GreedySegments.Filling.{empty_triangle, moved_turn, inside_more, greatest_within}
use Rattle.triangulate.proofs.greedy_segments.saturated.is_filled.Goals as goal

pub loop-k-preserved : goal.loop-k-preserved
loop-k-preserved c =
    let m = map_of c.args.plan.now in
    inside_more m c.args.a c.args.b c.args.c c.min-k.result c.loop-k.k c.loop-k.invariant (λ inside. false≢true (sym c.if-is_inside.false ∙ c.is_inside.ensures.1 (
      subst (λ (t : ℤ). pos 0 <ℤ t) (sym (moved_turn _ _ _ (place m c.args.a) (place m c.args.b) (place m c.loop-k.k) c.place-p.ensures.place c.place-q.ensures.place c.place.ensures.place)) inside.0,
      subst (λ (t : ℤ). pos 0 <ℤ t) (sym (moved_turn _ _ _ (place m c.args.b) (place m c.args.c) (place m c.loop-k.k) c.place-q.ensures.place c.place-r.ensures.place c.place.ensures.place)) inside.1,
      subst (λ (t : ℤ). pos 0 <ℤ t) (sym (moved_turn _ _ _ (place m c.args.c) (place m c.args.a) (place m c.loop-k.k) c.place-r.ensures.place c.place-p.ensures.place c.place.ensures.place)) inside.2,
    )))

pub returns-clause-empty : goal.returns-clause-empty
returns-clause-empty c =
    let m = map_of c.args.plan.now in
    let v = c.turn.ensures.value in
    let up : pos 0 <ℤ turn_of c.place-p.result c.place-q.result c.place-r.result = omega (arith, ints, v, c.if-turn-le0.false) in
    let turn : pos 0 <ℤ turn_between m c.args.a c.args.b c.args.c = subst (λ (t : ℤ). pos 0 <ℤ t) (moved_turn _ _ _ (place m c.args.a) (place m c.args.b) (place m c.args.c) c.place-p.ensures.place c.place-q.ensures.place c.place-r.ensures.place) up in
    let x = c.args.a in let y = c.args.b in let z = c.args.c in
    let e = c.min.ensures in let f = c.min-k.ensures in let g = c.max.ensures in let h = c.max-k-end.ensures in
    empty_triangle c.args.plan.now c.place-p.ensures.plan x y z c.min-k.result c.max-k-end.result c.loop-k.k c.requires.first c.requires.second c.requires.third turn
    (omega (arith, e, f, min-le_left x y, min-le_left c.min.result z)) (omega (arith, e, f, min-le_right x y, min-le_left c.min.result z)) (omega (arith, f, min-le_right c.min.result z))
    (omega (arith, g, h, le-max_left x y, le-max_left c.max.result z)) (omega (arith, g, h, le-max_right x y, le-max_left c.max.result z)) (omega (arith, h, le-max_right c.max.result z))
    (subst (λ (n : ℕ). n < length c.args.plan.now.points) (sym h) (greatest_within c.max.result z (length c.args.plan.now.points) (subst (λ (n : ℕ). n < length c.args.plan.now.points) (sym g) (greatest_within x y (length c.args.plan.now.points) c.requires.first c.requires.second)) c.requires.third))
    (omega (arith, c.loop-k-test.false)) c.loop-k.invariant
