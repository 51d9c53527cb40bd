use Rattle.std.proofs.Common.{arith, refl}
use Rattle.std.proofs.lemmas.Int.{ints}
use Rattle.geom_exact.specs.ExtremeLines.Differences.{difference}
use Rattle.geom_exact.specs.ExtremeLines.Spans.{arrow_of}
use Rattle.geom_exact.proofs.ExtremeLines.Widening.{long_of_turn, long_of_turn_right, long_of_ahead, stays, ray_left_turn, ray_right_turn, ray_shorter, ray_meets, made_before}
use Rattle.geom_exact.proofs.extreme_lines.cone.ray_with.Goals as goal

pub through-second-requires : goal.through-second-requires
through-second-requires c = long_of_turn (arrow_of c.args.ray.now) (difference c.args.left.at c.args.right.at) (omega (arith, ints))

pub returns-then-turn-gt0 : goal.returns-then-turn-gt0
returns-then-turn-gt0 c = ray_left_turn _ _ _ _ refl c.through-second.ensures.left c.through-second.ensures.right (omega (arith, ints))

pub through-first-requires : goal.through-first-requires
through-first-requires c = long_of_turn_right (arrow_of c.args.ray.now) (difference c.args.left.at c.args.right.at) (omega (arith, ints))

pub invariant_of-result-then-turn-lt0 : goal.invariant_of-result-then-turn-lt0
invariant_of-result-then-turn-lt0 c = record { spread = made_before c.through-first.result c.args.ray.now c.args.left c.args.right c.through-first.ensures.left c.through-first.ensures.right (omega (arith, ints)) }

pub returns-then-turn-lt0 : goal.returns-then-turn-lt0
returns-then-turn-lt0 c = ray_right_turn _ _ _ _ refl c.through-first.ensures.left c.through-first.ensures.right (omega (arith, ints))

pub returns-then-ahead-le0 : goal.returns-then-ahead-le0
returns-then-ahead-le0 c = ray_meets c.args.ray.now c.args.left c.args.right (omega (arith, ints)) (omega (arith, ints))

pub through-requires : goal.through-requires
through-requires c = long_of_ahead (arrow_of c.args.ray.now) (difference c.args.left.at c.args.right.at) (omega (arith, ints))

pub returns-then-ahead-squared : goal.returns-then-ahead-squared
returns-then-ahead-squared c = ray_shorter _ _ _ _ c.through.ensures.left c.through.ensures.right (omega (arith, ints)) (omega (arith, ints)) (omega (arith, ints))

pub returns : goal.returns
returns c = stays _ _ _ (record { level = omega (arith, ints); far = omega (arith, ints) })
