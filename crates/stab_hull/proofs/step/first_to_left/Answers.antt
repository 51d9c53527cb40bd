use Rattle.std.proofs.Common.{arith, length, refl, sym, ◌-◌, subst, to_z, w64}
use Rattle.std.proofs.lemmas.Int.{ints}
use Rattle.geom_exact.specs.declared.extreme_lines.extreme.Extreme.{Extreme}
use Rattle.geom_exact.specs.declared.extreme_lines.cone.Cone.TheVariants.{Open}
use Rattle.stab_hull.specs.Chains.{kept_ends}
use Rattle.stab_hull.proofs.StepLemmas.{From, left_start}
use Rattle.stab_hull.proofs.OneLine.{beyond_second_left, level_left}
use Rattle.stab_hull.proofs.Looking.{kept_from, look_start, next_of, next_is, next_within, one_next, next_at, step_fits, step_falls}
use Rattle.stab_hull.proofs.Scanning.{IsSlopeOf, IsLevelAt, level_at, kept_level, level_on, turn_by, apart_fits, left_passed, left_looks, left_looked}
use Rattle.stab_hull.proofs.step.first_to_left.Goals as goal
use Rattle.stab_hull.proofs.step.first_to_left.Goals.{then-level-bound+then-widen_first, then-level-bound+else-widen_first, else-level-bound}

pub loop-rest-init : goal.loop-rest-init
loop-rest-init c = record {
  second = refl;
  slope = record { a = c.of-slope.ensures.a; b = c.of-slope.ensures.b };
  level = kept_level c.args.wedge.now.first c.args.left.at c.level-bound.result (level_at c.args.wedge.now.first c.of-slope.result c.args.left.at c.level-bound.result (record { a = c.of-slope.ensures.a; b = c.of-slope.ensures.b }) c.level-bound.ensures.value c.level-bound.ensures.bound);
  top = length c.args.rights.now;
  look = look_start c.args.rights.now;
  part = λ lefts h. left_start lefts (kept_ends c.args.rights.now) c.args.left (From (length c.args.rights.now)) (Open c.args.wedge.now) (kept_from c.args.rights.now) h;
}

pub overflow_sub-at : goal.overflow_sub-at
overflow_sub-at c = let t = c.loop-rest-test.true in omega (arith, t)

pub bounds-rights-at : goal.bounds-rights-at
bounds-rights-at c = next_within c.args.rights.now c.loop-rest.rest c.loop-rest.invariant.top c.loop-rest.invariant.look c.loop-rest-test.true

pub bounds-again-at : goal.bounds-again-at
bounds-again-at c = rw c.requires.again (next_within c.args.rights.now c.loop-rest.rest c.loop-rest.invariant.top c.loop-rest.invariant.look c.loop-rest-test.true)

pub bounds-again-at-then-level-bound : goal.bounds-again-at-then-level-bound
bounds-again-at-then-level-bound c = rw c.requires.again (next_within c.args.rights.now c.loop-rest.rest c.loop-rest.invariant.top c.loop-rest.invariant.look c.loop-rest-test.true)

pub widen_first-requires-clause-within : goal.widen_first-requires-clause-within
widen_first-requires-clause-within c = rw (sym c.requires.again) at (beyond_second_left c.requires.cone.0 (kept_ends c.args.rights.now) c.args.left (next_of c.args.rights.now c.loop-rest.rest c.index-again-at.result).end c.args.wedge.now c.loop-rest.wide (c.loop-rest.rest - 1) c.requires.cone.1 (next_at c.args.rights.now c.loop-rest.rest c.loop-rest.invariant.top (next_of c.args.rights.now c.loop-rest.rest c.index-again-at.result) c.loop-rest.invariant.look c.loop-rest-test.true (next_is c.args.rights.now c.loop-rest.rest c.index-again-at.result (rw c.requires.again at c.index-again-at.is))) c.requires.beyond c.loop-rest.invariant.second)

pub widen_first-requires-clause-turn : goal.widen_first-requires-clause-turn
widen_first-requires-clause-turn c = rw (sym c.requires.again) at (rw (one_next c.args.rights.now c.loop-rest.rest c.loop-rest.invariant.top c.index-rights-at.result (next_of c.args.rights.now c.loop-rest.rest c.index-again-at.result) c.loop-rest.invariant.look c.loop-rest-test.true c.index-rights-at.is (next_is c.args.rights.now c.loop-rest.rest c.index-again-at.result (rw c.requires.again at c.index-again-at.is))) at (turn_by c.loop-rest.wide.first c.args.left.at c.index-rights-at.result.end.at _ _ c.loop-rest.invariant.level (kept_level c.loop-rest.wide.first c.index-rights-at.result.end.at c.level-level.result (level_at c.loop-rest.wide.first c.loop-rest.slope c.index-rights-at.result.end.at c.level-level.result c.loop-rest.invariant.slope c.level-level.ensures.value c.level-level.ensures.bound))))

pub overflow_sub-bound : goal.overflow_sub-bound
overflow_sub-bound c = apart_fits c.loop-rest.wide.first c.args.left.at c.index-rights-at.result.end.at _ _ c.loop-rest.invariant.level (kept_level c.loop-rest.wide.first c.index-rights-at.result.end.at c.level-level.result (level_at c.loop-rest.wide.first c.loop-rest.slope c.index-rights-at.result.end.at c.level-level.result c.loop-rest.invariant.slope c.level-level.ensures.value c.level-level.ensures.bound))

pub overflow_sub-rest : goal.overflow_sub-rest
overflow_sub-rest c = step_fits c.args.rights.now c.loop-rest.rest c.loop-rest.invariant.top c.index-rights-at.result c.requires.steps c.loop-rest.invariant.look c.loop-rest-test.true c.index-rights-at.is

pub loop-rest-smaller : goal.loop-rest-smaller
loop-rest-smaller c = step_falls c.args.rights.now c.loop-rest.rest c.loop-rest.invariant.top c.index-rights-at.result c.requires.steps c.loop-rest.invariant.look c.loop-rest-test.true c.index-rights-at.is

pub loop-rest-preserved : goal.loop-rest-preserved
loop-rest-preserved c = elim c.if-level-bound.branch [
  | then-level-bound+then-widen_first w ↦ rw (w.wide-is, w.slope-is, w.bound-is) (left_looks c.args.rights.now c.args.left c.index-rights-at.result c.args.wedge.now c.loop-rest.wide w.widen_first.new.wedge c.loop-rest.rest _ _ _ _ c.requires.steps c.loop-rest-test.true c.index-rights-at.is c.loop-rest.invariant (rw (sym (one_next c.args.rights.now c.loop-rest.rest c.loop-rest.invariant.top c.index-rights-at.result (next_of c.args.rights.now c.loop-rest.rest w.index-again-at.result) c.loop-rest.invariant.look c.loop-rest-test.true c.index-rights-at.is (next_is c.args.rights.now c.loop-rest.rest w.index-again-at.result (rw c.requires.again at w.index-again-at.is)))) at (rw c.requires.again at w.widen_first.ensures.wider)) w.widen_first.ensures.second
      (record { a = w.of-slope-then-widen_first.ensures.a; b = w.of-slope-then-widen_first.ensures.b })
      (level_on w.widen_first.new.wedge.first c.args.left.at (level_left w.widen_first.new.wedge.first c.args.left w.if-widen_first.ensures.yes.0)))
  | then-level-bound+else-widen_first w ↦ rw (w.wide-is, w.slope-is, w.bound-is) (left_looks c.args.rights.now c.args.left c.index-rights-at.result c.args.wedge.now c.loop-rest.wide w.widen_first.new.wedge c.loop-rest.rest _ _ _ _ c.requires.steps c.loop-rest-test.true c.index-rights-at.is c.loop-rest.invariant (rw (sym (one_next c.args.rights.now c.loop-rest.rest c.loop-rest.invariant.top c.index-rights-at.result (next_of c.args.rights.now c.loop-rest.rest w.index-again-at.result) c.loop-rest.invariant.look c.loop-rest-test.true c.index-rights-at.is (next_is c.args.rights.now c.loop-rest.rest w.index-again-at.result (rw c.requires.again at w.index-again-at.is)))) at (rw c.requires.again at w.widen_first.ensures.wider)) w.widen_first.ensures.second
      (subst (λ (e : Extreme). IsSlopeOf e c.loop-rest.slope) (sym w.if-widen_first.ensures.no) c.loop-rest.invariant.slope)
      (subst (λ (e : Extreme). IsLevelAt e c.args.left.at (to_z w64 c.loop-rest.bound-bits)) (sym w.if-widen_first.ensures.no) c.loop-rest.invariant.level))
  | else-level-bound w ↦ rw (w.wide-is, w.slope-is, w.bound-is) (left_looks c.args.rights.now c.args.left c.index-rights-at.result c.args.wedge.now c.loop-rest.wide c.loop-rest.wide c.loop-rest.rest _ _ _ _ c.requires.steps c.loop-rest-test.true c.index-rights-at.is c.loop-rest.invariant
      (left_passed c.requires.cone.0 (kept_ends c.args.rights.now) c.args.left c.index-rights-at.result.end c.args.wedge.now c.loop-rest.wide (c.loop-rest.rest - 1) _ _ c.requires.cone.1 c.requires.beyond c.loop-rest.invariant.second (next_at c.args.rights.now c.loop-rest.rest c.loop-rest.invariant.top c.index-rights-at.result c.loop-rest.invariant.look c.loop-rest-test.true c.index-rights-at.is) (kept_level c.loop-rest.wide.first c.index-rights-at.result.end.at c.level-level.result (level_at c.loop-rest.wide.first c.loop-rest.slope c.index-rights-at.result.end.at c.level-level.result c.loop-rest.invariant.slope c.level-level.ensures.value c.level-level.ensures.bound)) c.loop-rest.invariant.level (let f = w.if-level-bound.false in omega (arith, ints)))
      refl c.loop-rest.invariant.slope c.loop-rest.invariant.level)
]

pub returns : goal.returns
returns c = λ lefts h. left_looked c.args.rights.now c.args.left c.args.wedge.now c.loop-rest.wide c.loop-rest.rest _ _ lefts (let t = c.loop-rest-test.false in omega (arith, t)) c.loop-rest.invariant h
