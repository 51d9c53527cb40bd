use Rattle.stab_hull.specs.Chains.{kept_ends}
use Rattle.stab_hull.proofs.OneLine.{FirstToRight}
use Rattle.stab_hull.proofs.step.first_to_right.Given as goal

abbrev pub invariant-loop-i : goal.invariant-loop-i
invariant-loop-i l = FirstToRight (kept_ends l.lefts) l.right l.wedge l.i l.wide l.value
