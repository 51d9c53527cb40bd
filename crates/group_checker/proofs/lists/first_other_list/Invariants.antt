use Rattle.group_checker.specs.Lists.{HasItsList}
use Rattle.cert_checker.proofs.Each.{AtEachBelow}
use Rattle.group_checker.proofs.lists.first_other_list.Given as goal

abbrev pub invariant-loop-k : goal.invariant-loop-k
invariant-loop-k l = AtEachBelow (HasItsList l.groups l.labels l.lists) l.k
