use Rattle.stab_hull.proofs.Scanning.{SecondToRight}
use Rattle.stab_hull.proofs.step.second_to_right.Given as goal

abbrev pub invariant-loop-rest : goal.invariant-loop-rest
invariant-loop-rest l = SecondToRight l.lefts l.right l.wedge l.rest l.wide l.slope l.bound

abbrev pub decreases-loop-rest : goal.decreases-loop-rest
decreases-loop-rest l = l.rest
