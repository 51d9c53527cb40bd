use Rattle.stab_hull.specs.Chains.{kept_ends}
use Rattle.stab_hull.proofs.OneLine.{SecondToLeft}
use Rattle.stab_hull.proofs.step.second_to_left.Given as goal

abbrev pub invariant-loop-j : goal.invariant-loop-j
invariant-loop-j l = SecondToLeft (kept_ends l.rights) l.left l.wedge l.j l.wide l.value
