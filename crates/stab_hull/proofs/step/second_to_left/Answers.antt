use Rattle.std.proofs.Common.{arith, ◌+◌, get_or, refl, ap, sym, ◌∙◌}
use Rattle.std.proofs.lemmas.Int.{ints}
use Rattle.geom_exact.specs.declared.extreme_lines.extreme.Extreme.{Extreme}
use Rattle.geom_exact.specs.declared.extreme_lines.cone.Cone.TheVariants.{Open}
use Rattle.geom_exact.specs.ExtremeLines.Spans.{form_at}
use Rattle.stab_hull.specs.Chains.{kept_ends}
use Rattle.stab_hull.proofs.StepLemmas.{Before, next_place, left_start, left_more, left_whole}
use Rattle.stab_hull.proofs.OneLine.{held, held_small, beyond_first_left, turn_of_first, level_left}
use Rattle.stab_hull.proofs.Looking.{kept_at, kept_before}
use Rattle.stab_hull.proofs.step.second_to_left.Goals as goal
use Rattle.stab_hull.proofs.step.second_to_left.Goals.{then-widen_second, else-widen_second}

pub loop-j-init : goal.loop-j-init
loop-j-init c = record { first = refl; level = held c.value-value.result c.value-value.ensures.bound ∙ c.value-value.ensures.value; small = held_small c.value-value.result c.value-value.ensures.bound; part = λ lefts h. left_start lefts (kept_ends c.args.rights.now) c.args.left (Before 0) (Open c.args.wedge.now) (λ k l. absurd (omega (arith, l))) h }

pub overflow_sub-turn : goal.overflow_sub-turn
overflow_sub-turn c = let s = c.loop-j.invariant.small in let b = held_small c.value.result c.value.ensures.bound in omega (arith, ints, s, b)

pub widen_second-requires : goal.widen_second-requires
widen_second-requires c = record {
  within = beyond_first_left c.requires.cone.0 (kept_ends c.args.rights.now) c.args.left (get_or c.args.rights.now c.loop-j.j c.index-rights-j.result).end c.args.wedge.now c.loop-j.wide c.loop-j.j c.requires.cone.1 (kept_at c.args.rights.now c.loop-j.j c.index-rights-j.result c.loop-j-test.true) c.requires.beyond c.loop-j.invariant.first;
  turn = turn_of_first c.loop-j.wide.second c.args.left.at (get_or c.args.rights.now c.loop-j.j c.index-rights-j.result).end.at _ c.value.result c.loop-j.invariant.level c.value.ensures.value c.loop-j.invariant.small c.value.ensures.bound;
}

pub loop-j-preserved : goal.loop-j-preserved
loop-j-preserved c = elim c.if-widen_second.branch [
  | then-widen_second w ↦ rw w.value-is (record {
    first = c.widen_second.ensures.first ∙ c.loop-j.invariant.first;
    level = level_left c.widen_second.new.wedge.second c.args.left w.if-widen_second.ensures.yes.0;
    small = omega (arith, ints);
    part = λ lefts h. left_more lefts (kept_ends c.args.rights.now) c.args.left (Before c.loop-j.j) (Before (c.loop-j.j + 1)) c.loop-j.j (get_or c.args.rights.now c.loop-j.j c.index-rights-j.result).end (Open c.loop-j.wide) (Open c.widen_second.new.wedge) (next_place c.loop-j.j) (kept_at c.args.rights.now c.loop-j.j c.index-rights-j.result c.loop-j-test.true) c.widen_second.ensures.wider (c.loop-j.invariant.part lefts h);
  })
  | else-widen_second w ↦ rw w.value-is (record {
    first = c.widen_second.ensures.first ∙ c.loop-j.invariant.first;
    level = c.loop-j.invariant.level ∙ ap (λ (e : Extreme). form_at e c.args.left.at) (sym w.if-widen_second.ensures.no);
    small = c.loop-j.invariant.small;
    part = λ lefts h. left_more lefts (kept_ends c.args.rights.now) c.args.left (Before c.loop-j.j) (Before (c.loop-j.j + 1)) c.loop-j.j (get_or c.args.rights.now c.loop-j.j c.index-rights-j.result).end (Open c.loop-j.wide) (Open c.widen_second.new.wedge) (next_place c.loop-j.j) (kept_at c.args.rights.now c.loop-j.j c.index-rights-j.result c.loop-j-test.true) c.widen_second.ensures.wider (c.loop-j.invariant.part lefts h);
  })
]

pub returns : goal.returns
returns c = λ lefts h. left_whole lefts (kept_ends c.args.rights.now) c.args.left (Before c.loop-j.j) (Open c.loop-j.wide) (kept_before c.args.rights.now c.loop-j.j c.loop-j-test.false) (c.loop-j.invariant.part lefts h)
