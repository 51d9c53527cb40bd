use Rattle.std.proofs.Common.{ℤ, arith, to_z-of_z, w64, FitsSigned, rules, ◌∙◌, subst₂}
use borrow.Author.Differences.{ints}
use Rattle.sight_ray.proofs.HitLemmas.{beside_clears, met_both, met_first, met_second, two_sides_of}
use Rattle.geom_exact.specs.Formulas.{side_value, AreOnOneSide}
use Rattle.sight_ray.proofs.crossed_line.is_hit.Goals as goal

pub returns-then-same_side : goal.returns-then-same_side
returns-then-same_side c = beside_clears c.args.ray.now c.args.start c.args.stop c.args.p c.args.q (grind (arith, to_z-of_z))

pub returns-then-to-eq0 : goal.returns-then-to-eq0
returns-then-to-eq0 c =
    met_both c.args.ray.now c.args.start c.args.stop c.args.p c.args.q c.is_met.result c.requires.start_split c.requires.stop_split c.requires.forward (omega (arith, ints)) (omega (arith, ints)) c.is_met.ensures

pub returns-then-from-eq0 : goal.returns-then-from-eq0
returns-then-from-eq0 c =
    met_first c.args.ray.now c.args.start c.args.stop c.args.p c.args.q c.is_met-then-from-eq0.result c.requires.start_split c.requires.stop_split c.requires.forward (omega (arith, ints))
    (λ e. c.if-to-eq0.false (omega (arith, ints))) c.is_met-then-from-eq0.ensures

pub returns-then-to-eq0-2 : goal.returns-then-to-eq0-2
returns-then-to-eq0-2 c =
    met_second c.args.ray.now c.args.start c.args.stop c.args.p c.args.q c.is_met-then-to-eq0-2.result c.requires.start_split c.requires.stop_split c.requires.forward
    (λ e. c.if-from-eq0.false (omega (arith, ints))) (omega (arith, ints)) c.is_met-then-to-eq0-2.ensures

pub is_between-requires-clause-split : goal.is_between-requires-clause-split
is_between-requires-clause-split c =
    let f : FitsSigned w64 c.side_of-from.result = search rules in
    let g : FitsSigned w64 c.side_of-to.result = search rules in
    let one : ¬ AreOnOneSide (side_value c.args.ray.now c.args.p) (side_value c.args.ray.now c.args.q) = subst₂ (λ (x y : ℤ). ¬ AreOnOneSide x y) (to_z-of_z f ∙ c.side_of-from.ensures.value) (to_z-of_z g ∙ c.side_of-to.ensures.value) c.if-same_side.ensures in
    two_sides_of (side_value c.args.ray.now c.args.p) (side_value c.args.ray.now c.args.q) one (λ e. c.if-from-eq0.false (omega (arith, ints))) (λ e. c.if-to-eq0-2.false (omega (arith, ints)))
