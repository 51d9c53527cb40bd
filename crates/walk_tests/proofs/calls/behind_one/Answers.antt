-- The right end is that of the one portal that was begun with.
use Rattle.std.proofs.Common.{List, refl, sym, subst}
use Rattle.sight_names.specs.Splitting.{EndPoints}
use Rattle.stab_hull.specs.Sleeves.{HasLastRight}
use Rattle.walk_tests.proofs.calls.behind_one.Goals as goal

pub by_new_left-requires-clause-last : goal.by_new_left-requires-clause-last
by_new_left-requires-clause-last c = subst (λ (es : List EndPoints). HasLastRight es c.args.right) (sym c.in_ok-begin.ensures.ok) (_, refl, refl)
