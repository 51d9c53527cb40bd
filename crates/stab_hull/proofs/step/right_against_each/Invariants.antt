use Rattle.std.proofs.Common.{List}
use Rattle.sight_names.specs.declared.names.EndAt.{EndAt}
use Rattle.stab_hull.specs.Stacks.{IsConeOfEnds}
use Rattle.stab_hull.specs.Chains.{kept_ends}
use Rattle.stab_hull.proofs.StepLemmas.{Before, IsRightPart}
use Rattle.stab_hull.proofs.step.right_against_each.Given as goal

abbrev pub invariant-loop-i : goal.invariant-loop-i
invariant-loop-i l = (rights : List EndAt) → IsConeOfEnds (kept_ends l.lefts) rights l.cone → IsRightPart (kept_ends l.lefts) rights l.right (Before l.i) l.wide
