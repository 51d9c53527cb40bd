use Rattle.std.proofs.Common.{arith, ◌+◌, get_or, refl, ap, sym, ◌∙◌}
use Rattle.std.proofs.lemmas.Int.{ints}
use Rattle.geom_exact.specs.declared.extreme_lines.extreme.Extreme.{Extreme}
use Rattle.geom_exact.specs.declared.extreme_lines.cone.Cone.TheVariants.{Open}
use Rattle.geom_exact.specs.ExtremeLines.Spans.{form_at}
use Rattle.stab_hull.specs.Chains.{kept_ends}
use Rattle.stab_hull.proofs.StepLemmas.{Before, next_place, right_start, right_more, right_whole}
use Rattle.stab_hull.proofs.OneLine.{held, held_small, beyond_second_right, turn_of_second, level_right}
use Rattle.stab_hull.proofs.Looking.{kept_at, kept_before}
use Rattle.stab_hull.proofs.step.first_to_right.Goals as goal
use Rattle.stab_hull.proofs.step.first_to_right.Goals.{then-widen_first, else-widen_first}

pub loop-i-init : goal.loop-i-init
loop-i-init c = record { second = refl; level = held c.value-value.result c.value-value.ensures.bound ∙ c.value-value.ensures.value; small = held_small c.value-value.result c.value-value.ensures.bound; part = λ rights h. right_start (kept_ends c.args.lefts.now) rights c.args.right (Before 0) (Open c.args.wedge.now) (λ k l. absurd (omega (arith, l))) h }

pub overflow_sub-turn : goal.overflow_sub-turn
overflow_sub-turn c = let s = c.loop-i.invariant.small in let b = held_small c.value.result c.value.ensures.bound in omega (arith, ints, s, b)

pub widen_first-requires : goal.widen_first-requires
widen_first-requires c = record {
  within = beyond_second_right (kept_ends c.args.lefts.now) c.requires.cone.0 c.args.right (get_or c.args.lefts.now c.loop-i.i c.index-lefts-i.result).end c.args.wedge.now c.loop-i.wide c.loop-i.i c.requires.cone.1 (kept_at c.args.lefts.now c.loop-i.i c.index-lefts-i.result c.loop-i-test.true) c.requires.beyond c.loop-i.invariant.second;
  turn = turn_of_second c.loop-i.wide.first (get_or c.args.lefts.now c.loop-i.i c.index-lefts-i.result).end.at c.args.right.at c.value.result _ c.value.ensures.value c.loop-i.invariant.level c.value.ensures.bound c.loop-i.invariant.small;
}

pub loop-i-preserved : goal.loop-i-preserved
loop-i-preserved c = elim c.if-widen_first.branch [
  | then-widen_first w ↦ rw w.value-is (record {
    second = c.widen_first.ensures.second ∙ c.loop-i.invariant.second;
    level = level_right c.widen_first.new.wedge.first c.args.right w.if-widen_first.ensures.yes.1;
    small = omega (arith, ints);
    part = λ rights h. right_more (kept_ends c.args.lefts.now) rights c.args.right (Before c.loop-i.i) (Before (c.loop-i.i + 1)) c.loop-i.i (get_or c.args.lefts.now c.loop-i.i c.index-lefts-i.result).end (Open c.loop-i.wide) (Open c.widen_first.new.wedge) (next_place c.loop-i.i) (kept_at c.args.lefts.now c.loop-i.i c.index-lefts-i.result c.loop-i-test.true) c.widen_first.ensures.wider (c.loop-i.invariant.part rights h);
  })
  | else-widen_first w ↦ rw w.value-is (record {
    second = c.widen_first.ensures.second ∙ c.loop-i.invariant.second;
    level = c.loop-i.invariant.level ∙ ap (λ (e : Extreme). form_at e c.args.right.at) (sym w.if-widen_first.ensures.no);
    small = c.loop-i.invariant.small;
    part = λ rights h. right_more (kept_ends c.args.lefts.now) rights c.args.right (Before c.loop-i.i) (Before (c.loop-i.i + 1)) c.loop-i.i (get_or c.args.lefts.now c.loop-i.i c.index-lefts-i.result).end (Open c.loop-i.wide) (Open c.widen_first.new.wedge) (next_place c.loop-i.i) (kept_at c.args.lefts.now c.loop-i.i c.index-lefts-i.result c.loop-i-test.true) c.widen_first.ensures.wider (c.loop-i.invariant.part rights h);
  })
]

pub returns : goal.returns
returns c = λ rights h. right_whole (kept_ends c.args.lefts.now) rights c.args.right (Before c.loop-i.i) (Open c.loop-i.wide) (kept_before c.args.lefts.now c.loop-i.i c.loop-i-test.false) (c.loop-i.invariant.part rights h)
