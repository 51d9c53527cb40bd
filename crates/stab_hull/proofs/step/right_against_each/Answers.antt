use Rattle.std.proofs.Common.{arith, ◌+◌, refl, get_or}
use Rattle.geom_exact.proofs.ExtremeLines.Widening.{stays}
use Rattle.stab_hull.specs.Chains.{kept_ends}
use Rattle.stab_hull.proofs.StepLemmas.{Before, next_place, right_start, right_more, right_stuck, right_whole}
use Rattle.stab_hull.proofs.Looking.{kept_at, kept_before}
use Rattle.stab_hull.proofs.step.right_against_each.Goals as goal
use Rattle.stab_hull.proofs.step.right_against_each.Goals.{then-not-covers+in-Some, else-not-covers}

pub loop-i-init : goal.loop-i-init
loop-i-init c = λ rights h. right_start (kept_ends c.args.lefts.now) rights c.args.right (Before 0) c.args.cone.now (λ k l. absurd (omega (arith, l))) h

pub loop-i-preserved : goal.loop-i-preserved
loop-i-preserved c = elim c.if-not-covers.branch [
  | then-not-covers+in-Some w ↦ rw w.wide-is (λ rights h. right_more (kept_ends c.args.lefts.now) rights c.args.right (Before c.loop-i.i) (Before (c.loop-i.i + 1)) c.loop-i.i (get_or c.args.lefts.now c.loop-i.i c.index-lefts-i.result).end c.loop-i.wide w.in-Some.wider (next_place c.loop-i.i) (kept_at c.args.lefts.now c.loop-i.i c.index-lefts-i.result c.loop-i-test.true) w.in-Some.ensures (c.loop-i.invariant rights h))
  | else-not-covers w ↦ rw w.wide-is (λ rights h. right_more (kept_ends c.args.lefts.now) rights c.args.right (Before c.loop-i.i) (Before (c.loop-i.i + 1)) c.loop-i.i (get_or c.args.lefts.now c.loop-i.i c.index-lefts-i.result).end c.loop-i.wide c.loop-i.wide (next_place c.loop-i.i) (kept_at c.args.lefts.now c.loop-i.i c.index-lefts-i.result c.loop-i-test.true) (stays c.loop-i.wide (get_or c.args.lefts.now c.loop-i.i c.index-lefts-i.result).end c.args.right (w.if-not-covers.ensures refl)) (c.loop-i.invariant rights h))
]

pub returns-in-None : goal.returns-in-None
returns-in-None c = λ rights h. right_stuck (kept_ends c.args.lefts.now) rights c.args.right (Before c.loop-i.i) c.loop-i.i (get_or c.args.lefts.now c.loop-i.i c.index-lefts-i.result).end c.loop-i.wide c.pairs.result (kept_at c.args.lefts.now c.loop-i.i c.index-lefts-i.result c.loop-i-test.true) (c.loop-i.invariant rights h) c.pairs.ensures c.in-None.ensures

pub returns : goal.returns
returns c = λ rights h. right_whole (kept_ends c.args.lefts.now) rights c.args.right (Before c.loop-i.i) c.loop-i.wide (kept_before c.args.lefts.now c.loop-i.i c.loop-i-test.false) (c.loop-i.invariant rights h)
