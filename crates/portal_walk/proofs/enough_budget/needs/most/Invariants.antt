use Rattle.std.proofs.Common.{◌≡◌, drop, max}
use Rattle.portal_walk.specs.EnoughBudget.Need.{greatest}
use Rattle.portal_walk.proofs.enough_budget.needs.most.Given as goal

abbrev pub invariant-loop-number : goal.invariant-loop-number
invariant-loop-number l = record { most : max l.most (greatest (drop l.number-index l.numbers)) ≡ greatest l.numbers }
