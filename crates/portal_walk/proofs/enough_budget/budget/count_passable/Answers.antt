use Rattle.std.proofs.Common.{List, Option, length, filter, sym, ap, ◌∙◌, arith}
use Rattle.std.proofs.lemmas.List.{take_all}
use Rattle.sight_names.specs.declared.plan.Line.{Line}
use Rattle.portal_walk.specs.EnoughBudget.Passable.{is_open}
use Rattle.portal_walk.proofs.EnoughBudget.Passing.{same_count}
use Rattle.portal_walk.proofs.enough_budget.budget.count_passable.Goals as goal

pub returns-clause-count : goal.returns-clause-count
returns-clause-count c =
    c.loop-entry.invariant.count
    ∙ ap (λ (xs : List (Option Line)). length (filter is_open xs)) (take_all c.loop-entry.entry-index c.lines-entry-items.result.now (omega arith))
    ∙ ap (λ (xs : List (Option Line)). length (filter is_open xs)) c.lines-entry-items.ensures.list
    ∙ sym (same_count c.args.plan.now.points c.args.plan.now.lines)
