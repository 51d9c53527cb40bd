use Rattle.std.proofs.Common.{rules, sym, ◌∙◌}
use Rattle.sight_names.proofs.PlanNumbers.{same_pt_true}
use Rattle.geom_exact.proofs.ExtremeLines.Widening.{long_of_different}
use Rattle.block_evidence.proofs.Pairs.{whole_parted, whole_corner, no_left, no_right, same_point, ray_in}
use Rattle.block_evidence.proofs.hulls.parting.Goals as goal

pub returns-in_default : goal.returns-in_default
returns-in_default c = no_left c.args.ends.now c.in_default.ensures.none

pub returns-in_default-first_right : goal.returns-in_default-first_right
returns-in_default-first_right c = no_right c.args.ends.now c.in_default-first_right.ensures.none

pub returns-then-eq : goal.returns-then-eq
returns-then-eq c = same_point c.args.ends.now c.in-Some.left c.in-Some-first_right.right c.in-Some.ensures.some c.in-Some-first_right.ensures.some (same_pt_true c.in-Some.left.at c.in-Some-first_right.right.at (sym c.eq.ensures ∙ c.if-eq.true))

pub through-ray-requires : goal.through-ray-requires
through-ray-requires c = long_of_different c.in-Some.left.at c.in-Some-first_right.right.at (search rules)

pub whole_cone-requires : goal.whole_cone-requires
whole_cone-requires c = ray_in c.args.ends.now c.through-ray.result c.in-Some.left c.in-Some-first_right.right c.through-ray.ensures.left c.through-ray.ensures.right c.in-Some.ensures.some c.in-Some-first_right.ensures.some

pub cut-requires : goal.cut-requires
cut-requires c = let e = c.in_ok-cone.ensures in whole_corner c.args.ends.now c.in_ok-cone.cone e.0 e.1

pub returns : goal.returns
returns c = let e = c.in_ok-cone.ensures in whole_parted c.args.ends.now c.in_ok-cone.cone c.cut.result.a c.cut.result.b c.cut.result.c e.0 e.1 c.cut.ensures
