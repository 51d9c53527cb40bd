use Rattle.std.proofs.Common.{◌≡◌, ◌≤ℤ◌, pos, refl, sym, ap, ◌∙◌, arith, w64, to_z, of_z, to_z-of_z}
use Rattle.std.proofs.lemmas.Int.{ints}
use Rattle.plane_base.specs.Arrows.{cross, dot}
use Rattle.geom_exact.specs.ExtremeLines.Differences.{difference}
use Rattle.geom_exact.specs.ExtremeLines.Spans.{arrow_of}
use Rattle.geom_exact.proofs.ExtremeLines.Widening.{long_of_turn, stays, within_both, on_second, second_moves}
use Rattle.geom_exact.proofs.extreme_lines.widen.widen_second.Goals as goal
use Rattle.geom_exact.proofs.extreme_lines.widen.widen_second.Goals.{else-turn-eq0-via-then-turn-eq0+else-squared-product, else-turn-eq0-via-else-turn-eq0}

pub returns-then-turn-lt0-clause-wider : goal.returns-then-turn-lt0-clause-wider
returns-then-turn-lt0-clause-wider c = stays _ _ _ (within_both c.args.wedge.now c.args.left c.args.right c.requires.within (omega (arith, ints)))

pub returns-then-squared-product-clause-wider : goal.returns-then-squared-product-clause-wider
returns-then-squared-product-clause-wider c = stays _ _ _ (on_second c.args.wedge.now c.args.left c.args.right (sym c.requires.turn ∙ sym (to_z-of_z c.ranges.turn) ∙ ap (to_z w64) c.if-turn-eq0.true) (omega (arith, ints)) c.requires.within)

pub through-second-requires : goal.through-second-requires
through-second-requires c = long_of_turn (arrow_of c.args.wedge.now.first) (difference c.args.left.at c.args.right.at) c.requires.within

pub returns-clause-wider : goal.returns-clause-wider
returns-clause-wider c =
    let nearer : cross (arrow_of c.args.wedge.now.second) (difference c.args.left.at c.args.right.at) ≡ pos 0 → dot (arrow_of c.args.wedge.now.second) (difference c.args.left.at c.args.right.at) ≤ℤ dot (arrow_of c.args.wedge.now.second) (arrow_of c.args.wedge.now.second) = elim c.else-turn-eq0.branch [
      | else-turn-eq0-via-then-turn-eq0+else-squared-product w ↦ λ e. (let l = w.if-squared-product.false in let p = w.product.ensures.value in let s = w.squared.ensures.value in omega (arith, ints))
      | else-turn-eq0-via-else-turn-eq0 w ↦ λ e. absurd (w.if-turn-eq0.false (ap (of_z w64) (c.requires.turn ∙ e)))
    ] in
    second_moves c.args.wedge.now _ c.args.left c.args.right refl c.through-second.ensures.left c.through-second.ensures.right (omega (arith, ints)) nearer c.requires.within
