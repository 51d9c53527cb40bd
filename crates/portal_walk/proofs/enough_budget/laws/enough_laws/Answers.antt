use Rattle.portal_walk.proofs.EnoughBudget.Lawful.{at_root, roots_few, at_source, none_listed}
use Rattle.portal_walk.proofs.enough_budget.laws.enough_laws.Goals as goal

pub returns-clause-at_root : goal.returns-clause-at_root
returns-clause-at_root c = at_root

pub returns-clause-roots : goal.returns-clause-roots
returns-clause-roots c = roots_few

pub returns-clause-at_source : goal.returns-clause-at_source
returns-clause-at_source c = at_source

pub returns-clause-none_listed : goal.returns-clause-none_listed
returns-clause-none_listed c = none_listed
