use Rattle.std.proofs.Common.{ℤ, arith, to_z-of_z, w64, FitsSigned, rules, ◌∙◌, subst₂}
use Rattle.geom_exact.specs.Formulas.{side_value}
use Rattle.sight_ray.specs.CrossedLine.{AreOnBothSides}
use Rattle.sight_ray.proofs.CrossedLineLemmas.{crossed_line_forward, crossed_line_back, no_crossed_line}
use Rattle.sight_ray.proofs.crossed_line.crossed_line_between.Goals as goal

pub returns-then-are_parted : goal.returns-then-are_parted
returns-then-are_parted c = crossed_line_forward c.args.ray.now c.args.first c.args.second (grind (arith, to_z-of_z))

pub returns-then-are_parted-2 : goal.returns-then-are_parted-2
returns-then-are_parted-2 c = crossed_line_back c.args.ray.now c.args.first c.args.second (grind (arith, to_z-of_z))

pub returns : goal.returns
returns c =
    let f : FitsSigned w64 c.side_of-from.result = search rules in
    let g : FitsSigned w64 c.side_of-to.result = search rules in
    no_crossed_line (side_value c.args.ray.now c.args.first) (side_value c.args.ray.now c.args.second)
    (subst₂ (λ (x y : ℤ). ¬ AreOnBothSides x y) (to_z-of_z f ∙ c.side_of-from.ensures.value) (to_z-of_z g ∙ c.side_of-to.ensures.value) c.if-are_parted.ensures)
    (subst₂ (λ (x y : ℤ). ¬ AreOnBothSides x y) (to_z-of_z g ∙ c.side_of-to.ensures.value) (to_z-of_z f ∙ c.side_of-from.ensures.value) c.if-are_parted-2.ensures)
