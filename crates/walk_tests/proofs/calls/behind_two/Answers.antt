-- Each portal has an end of the one before it.
use Rattle.std.proofs.Common.{◌++◌, ◌∷◌, [], List, Ok, refl, sym, ap, ◌∙◌, subst}
use Rattle.sight_names.specs.Splitting.{EndPoints}
use Rattle.stab_hull.specs.declared.Passed.{Passed}
use Rattle.stab_hull.specs.Answer.{IsPortalPassed}
use Rattle.stab_hull.specs.Sleeves.{HasLastLeft, HasLastRight}
use Rattle.walk_tests.proofs.calls.behind_two.Goals as goal

pub by_new_right-requires-clause-last : goal.by_new_right-requires-clause-last
by_new_right-requires-clause-last c = subst (λ (es : List EndPoints). HasLastLeft es c.args.left) (sym c.in_ok-begin.ensures.ok) (_, refl, refl)

pub by_new_left-requires-clause-last : goal.by_new_left-requires-clause-last
by_new_left-requires-clause-last c =
    let second : EndPoints = record { left = c.args.left; right = c.args.right } in
    let passed = subst (λ (p : Passed). IsPortalPassed c.begin.new.self second c.by_new_right.new.self (Ok p)) c.in-Open.is c.in_ok-by_new_right.ensures in
    subst (λ (es : List EndPoints). HasLastRight es second.right) (sym (passed.0 ∙ ap (λ (es : List EndPoints). es ++ second ∷ []) c.in_ok-begin.ensures.ok)) (second, refl, refl)
