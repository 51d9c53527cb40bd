use Rattle.std.proofs.Common.{arith, ◌+◌, refl, get_or}
use Rattle.geom_exact.proofs.ExtremeLines.Widening.{stays}
use Rattle.stab_hull.specs.Chains.{kept_ends}
use Rattle.stab_hull.proofs.StepLemmas.{Before, next_place, left_start, left_more, left_stuck, left_whole}
use Rattle.stab_hull.proofs.Looking.{kept_at, kept_before}
use Rattle.stab_hull.proofs.step.left_against_each.Goals as goal
use Rattle.stab_hull.proofs.step.left_against_each.Goals.{then-not-covers+in-Some, else-not-covers}

pub loop-j-init : goal.loop-j-init
loop-j-init c = λ lefts h. left_start lefts (kept_ends c.args.rights.now) c.args.left (Before 0) c.args.cone.now (λ k l. absurd (omega (arith, l))) h

pub loop-j-preserved : goal.loop-j-preserved
loop-j-preserved c = elim c.if-not-covers.branch [
  | then-not-covers+in-Some w ↦ rw w.wide-is (λ lefts h. left_more lefts (kept_ends c.args.rights.now) c.args.left (Before c.loop-j.j) (Before (c.loop-j.j + 1)) c.loop-j.j (get_or c.args.rights.now c.loop-j.j c.index-rights-j.result).end c.loop-j.wide w.in-Some.wider (next_place c.loop-j.j) (kept_at c.args.rights.now c.loop-j.j c.index-rights-j.result c.loop-j-test.true) w.in-Some.ensures (c.loop-j.invariant lefts h))
  | else-not-covers w ↦ rw w.wide-is (λ lefts h. left_more lefts (kept_ends c.args.rights.now) c.args.left (Before c.loop-j.j) (Before (c.loop-j.j + 1)) c.loop-j.j (get_or c.args.rights.now c.loop-j.j c.index-rights-j.result).end c.loop-j.wide c.loop-j.wide (next_place c.loop-j.j) (kept_at c.args.rights.now c.loop-j.j c.index-rights-j.result c.loop-j-test.true) (stays c.loop-j.wide c.args.left (get_or c.args.rights.now c.loop-j.j c.index-rights-j.result).end (w.if-not-covers.ensures refl)) (c.loop-j.invariant lefts h))
]

pub returns-in-None : goal.returns-in-None
returns-in-None c = λ lefts h. left_stuck lefts (kept_ends c.args.rights.now) c.args.left (Before c.loop-j.j) c.loop-j.j (get_or c.args.rights.now c.loop-j.j c.index-rights-j.result).end c.loop-j.wide c.pairs.result (kept_at c.args.rights.now c.loop-j.j c.index-rights-j.result c.loop-j-test.true) (c.loop-j.invariant lefts h) c.pairs.ensures c.in-None.ensures

pub returns : goal.returns
returns c = λ lefts h. left_whole lefts (kept_ends c.args.rights.now) c.args.left (Before c.loop-j.j) c.loop-j.wide (kept_before c.args.rights.now c.loop-j.j c.loop-j-test.false) (c.loop-j.invariant lefts h)
