use Rattle.stab_hull.proofs.Scanning.{FirstToLeft}
use Rattle.stab_hull.proofs.step.first_to_left.Given as goal

abbrev pub invariant-loop-rest : goal.invariant-loop-rest
invariant-loop-rest l = FirstToLeft l.rights l.left l.wedge l.rest l.wide l.slope l.bound

abbrev pub decreases-loop-rest : goal.decreases-loop-rest
decreases-loop-rest l = l.rest
