-- What is known once the map of groups is built.
use Rattle.sight_names.specs.declared.names.Ask.{Ask}
use Rattle.sight_names.specs.declared.names.Budget.{Budget}
use Rattle.sight_names.specs.Enough.{IsBudgetOf}
use Rattle.sight_names.specs.Map.{map_of}
use Rattle.sight_names.specs.Plan.{PlanParts}
use Rattle.group_job.specs.declared.walked.Built.{Built}
use Rattle.group_job.specs.Results.{IsBuiltOver}
use Rattle.group_job.specs.declared.grouped.MapOfGroups.{MapOfGroups}
use Rattle.group_job.specs.Grouped.{IsMapOfGroups}

-- this is the map of groups of a map, and what was built over it within the budget that was asked for
pub record AreWalkedGroups (p : PlanParts) (ask : Ask) (mg : MapOfGroups) (budget : Budget) (b : Built) : Type 0 where
  pub grouped : IsMapOfGroups p mg
  pub is_budget : IsBudgetOf (map_of mg.plan) ask budget
  pub built : IsBuiltOver mg.plan mg.faces budget b
