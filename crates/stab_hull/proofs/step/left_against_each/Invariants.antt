use Rattle.std.proofs.Common.{List}
use Rattle.sight_names.specs.declared.names.EndAt.{EndAt}
use Rattle.stab_hull.specs.Stacks.{IsConeOfEnds}
use Rattle.stab_hull.specs.Chains.{kept_ends}
use Rattle.stab_hull.proofs.StepLemmas.{Before, IsLeftPart}
use Rattle.stab_hull.proofs.step.left_against_each.Given as goal

abbrev pub invariant-loop-j : goal.invariant-loop-j
invariant-loop-j l = (lefts : List EndAt) → IsConeOfEnds lefts (kept_ends l.rights) l.cone → IsLeftPart lefts (kept_ends l.rights) l.left (Before l.j) l.wide
