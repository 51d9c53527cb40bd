use Rattle.std.proofs.Common.{◌≡◌, ◌≤◌, length, take, filter}
use Rattle.portal_walk.specs.EnoughBudget.Passable.{is_open}
use Rattle.portal_walk.proofs.enough_budget.budget.count_passable.Given as goal

abbrev pub invariant-loop-entry : goal.invariant-loop-entry
invariant-loop-entry l = record { count : l.count ≡ length (filter is_open (take l.entry-index l.entry-items)); few : l.count ≤ l.entry-index }
