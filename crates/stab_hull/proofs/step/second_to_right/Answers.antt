use Rattle.std.proofs.Common.{arith, length, refl, sym, ◌-◌, subst, to_z, w64}
use Rattle.std.proofs.lemmas.Int.{ints}
use Rattle.geom_exact.specs.declared.extreme_lines.extreme.Extreme.{Extreme}
use Rattle.geom_exact.specs.declared.extreme_lines.cone.Cone.TheVariants.{Open}
use Rattle.stab_hull.specs.Chains.{kept_ends}
use Rattle.stab_hull.proofs.StepLemmas.{From, right_start}
use Rattle.stab_hull.proofs.OneLine.{beyond_first_right, level_right}
use Rattle.stab_hull.proofs.Looking.{kept_from, look_start, next_of, next_is, next_within, one_next, next_at, step_fits, step_falls}
use Rattle.stab_hull.proofs.Scanning.{IsSlopeOf, IsLevelAt, level_at, kept_level, level_on, turn_by, apart_fits, right_passed, right_looks, right_looked}
use Rattle.stab_hull.proofs.step.second_to_right.Goals as goal
use Rattle.stab_hull.proofs.step.second_to_right.Goals.{then-level-bound+then-widen_second, then-level-bound+else-widen_second, else-level-bound}

pub loop-rest-init : goal.loop-rest-init
loop-rest-init c = record {
  first = refl;
  slope = record { a = c.of-slope.ensures.a; b = c.of-slope.ensures.b };
  level = kept_level c.args.wedge.now.second c.args.right.at c.level-bound.result (level_at c.args.wedge.now.second c.of-slope.result c.args.right.at c.level-bound.result (record { a = c.of-slope.ensures.a; b = c.of-slope.ensures.b }) c.level-bound.ensures.value c.level-bound.ensures.bound);
  top = length c.args.lefts.now;
  look = look_start c.args.lefts.now;
  part = λ rights h. right_start (kept_ends c.args.lefts.now) rights c.args.right (From (length c.args.lefts.now)) (Open c.args.wedge.now) (kept_from c.args.lefts.now) h;
}

pub overflow_sub-at : goal.overflow_sub-at
overflow_sub-at c = let t = c.loop-rest-test.true in omega (arith, t)

pub bounds-lefts-at : goal.bounds-lefts-at
bounds-lefts-at c = next_within c.args.lefts.now c.loop-rest.rest c.loop-rest.invariant.top c.loop-rest.invariant.look c.loop-rest-test.true

pub bounds-again-at : goal.bounds-again-at
bounds-again-at c = rw c.requires.again (next_within c.args.lefts.now c.loop-rest.rest c.loop-rest.invariant.top c.loop-rest.invariant.look c.loop-rest-test.true)

pub bounds-again-at-then-level-bound : goal.bounds-again-at-then-level-bound
bounds-again-at-then-level-bound c = rw c.requires.again (next_within c.args.lefts.now c.loop-rest.rest c.loop-rest.invariant.top c.loop-rest.invariant.look c.loop-rest-test.true)

pub widen_second-requires-clause-within : goal.widen_second-requires-clause-within
widen_second-requires-clause-within c = rw (sym c.requires.again) at (beyond_first_right (kept_ends c.args.lefts.now) c.requires.cone.0 c.args.right (next_of c.args.lefts.now c.loop-rest.rest c.index-again-at.result).end c.args.wedge.now c.loop-rest.wide (c.loop-rest.rest - 1) c.requires.cone.1 (next_at c.args.lefts.now c.loop-rest.rest c.loop-rest.invariant.top (next_of c.args.lefts.now c.loop-rest.rest c.index-again-at.result) c.loop-rest.invariant.look c.loop-rest-test.true (next_is c.args.lefts.now c.loop-rest.rest c.index-again-at.result (rw c.requires.again at c.index-again-at.is))) c.requires.beyond c.loop-rest.invariant.first)

pub widen_second-requires-clause-turn : goal.widen_second-requires-clause-turn
widen_second-requires-clause-turn c = rw (sym c.requires.again) at (rw (one_next c.args.lefts.now c.loop-rest.rest c.loop-rest.invariant.top c.index-lefts-at.result (next_of c.args.lefts.now c.loop-rest.rest c.index-again-at.result) c.loop-rest.invariant.look c.loop-rest-test.true c.index-lefts-at.is (next_is c.args.lefts.now c.loop-rest.rest c.index-again-at.result (rw c.requires.again at c.index-again-at.is))) at (turn_by c.loop-rest.wide.second c.index-lefts-at.result.end.at c.args.right.at _ _ (kept_level c.loop-rest.wide.second c.index-lefts-at.result.end.at c.level-level.result (level_at c.loop-rest.wide.second c.loop-rest.slope c.index-lefts-at.result.end.at c.level-level.result c.loop-rest.invariant.slope c.level-level.ensures.value c.level-level.ensures.bound)) c.loop-rest.invariant.level))

pub overflow_sub-level : goal.overflow_sub-level
overflow_sub-level c = apart_fits c.loop-rest.wide.second c.index-lefts-at.result.end.at c.args.right.at _ _ (kept_level c.loop-rest.wide.second c.index-lefts-at.result.end.at c.level-level.result (level_at c.loop-rest.wide.second c.loop-rest.slope c.index-lefts-at.result.end.at c.level-level.result c.loop-rest.invariant.slope c.level-level.ensures.value c.level-level.ensures.bound)) c.loop-rest.invariant.level

pub overflow_sub-rest : goal.overflow_sub-rest
overflow_sub-rest c = step_fits c.args.lefts.now c.loop-rest.rest c.loop-rest.invariant.top c.index-lefts-at.result c.requires.steps c.loop-rest.invariant.look c.loop-rest-test.true c.index-lefts-at.is

pub loop-rest-smaller : goal.loop-rest-smaller
loop-rest-smaller c = step_falls c.args.lefts.now c.loop-rest.rest c.loop-rest.invariant.top c.index-lefts-at.result c.requires.steps c.loop-rest.invariant.look c.loop-rest-test.true c.index-lefts-at.is

pub loop-rest-preserved : goal.loop-rest-preserved
loop-rest-preserved c = elim c.if-level-bound.branch [
  | then-level-bound+then-widen_second w ↦ rw (w.wide-is, w.slope-is, w.bound-is) (right_looks c.args.lefts.now c.args.right c.index-lefts-at.result c.args.wedge.now c.loop-rest.wide w.widen_second.new.wedge c.loop-rest.rest _ _ _ _ c.requires.steps c.loop-rest-test.true c.index-lefts-at.is c.loop-rest.invariant (rw (sym (one_next c.args.lefts.now c.loop-rest.rest c.loop-rest.invariant.top c.index-lefts-at.result (next_of c.args.lefts.now c.loop-rest.rest w.index-again-at.result) c.loop-rest.invariant.look c.loop-rest-test.true c.index-lefts-at.is (next_is c.args.lefts.now c.loop-rest.rest w.index-again-at.result (rw c.requires.again at w.index-again-at.is)))) at (rw c.requires.again at w.widen_second.ensures.wider)) w.widen_second.ensures.first
      (record { a = w.of-slope-then-widen_second.ensures.a; b = w.of-slope-then-widen_second.ensures.b })
      (level_on w.widen_second.new.wedge.second c.args.right.at (level_right w.widen_second.new.wedge.second c.args.right w.if-widen_second.ensures.yes.1)))
  | then-level-bound+else-widen_second w ↦ rw (w.wide-is, w.slope-is, w.bound-is) (right_looks c.args.lefts.now c.args.right c.index-lefts-at.result c.args.wedge.now c.loop-rest.wide w.widen_second.new.wedge c.loop-rest.rest _ _ _ _ c.requires.steps c.loop-rest-test.true c.index-lefts-at.is c.loop-rest.invariant (rw (sym (one_next c.args.lefts.now c.loop-rest.rest c.loop-rest.invariant.top c.index-lefts-at.result (next_of c.args.lefts.now c.loop-rest.rest w.index-again-at.result) c.loop-rest.invariant.look c.loop-rest-test.true c.index-lefts-at.is (next_is c.args.lefts.now c.loop-rest.rest w.index-again-at.result (rw c.requires.again at w.index-again-at.is)))) at (rw c.requires.again at w.widen_second.ensures.wider)) w.widen_second.ensures.first
      (subst (λ (e : Extreme). IsSlopeOf e c.loop-rest.slope) (sym w.if-widen_second.ensures.no) c.loop-rest.invariant.slope)
      (subst (λ (e : Extreme). IsLevelAt e c.args.right.at (to_z w64 c.loop-rest.bound-bits)) (sym w.if-widen_second.ensures.no) c.loop-rest.invariant.level))
  | else-level-bound w ↦ rw (w.wide-is, w.slope-is, w.bound-is) (right_looks c.args.lefts.now c.args.right c.index-lefts-at.result c.args.wedge.now c.loop-rest.wide c.loop-rest.wide c.loop-rest.rest _ _ _ _ c.requires.steps c.loop-rest-test.true c.index-lefts-at.is c.loop-rest.invariant
      (right_passed (kept_ends c.args.lefts.now) c.requires.cone.0 c.args.right c.index-lefts-at.result.end c.args.wedge.now c.loop-rest.wide (c.loop-rest.rest - 1) _ _ c.requires.cone.1 c.requires.beyond c.loop-rest.invariant.first (next_at c.args.lefts.now c.loop-rest.rest c.loop-rest.invariant.top c.index-lefts-at.result c.loop-rest.invariant.look c.loop-rest-test.true c.index-lefts-at.is) (kept_level c.loop-rest.wide.second c.index-lefts-at.result.end.at c.level-level.result (level_at c.loop-rest.wide.second c.loop-rest.slope c.index-lefts-at.result.end.at c.level-level.result c.loop-rest.invariant.slope c.level-level.ensures.value c.level-level.ensures.bound)) c.loop-rest.invariant.level (let f = w.if-level-bound.false in omega (arith, ints)))
      refl c.loop-rest.invariant.slope c.loop-rest.invariant.level)
]

pub returns : goal.returns
returns c = λ rights h. right_looked c.args.lefts.now c.args.right c.args.wedge.now c.loop-rest.wide c.loop-rest.rest _ _ rights (let t = c.loop-rest-test.false in omega (arith, t)) c.loop-rest.invariant h
