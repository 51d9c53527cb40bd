use Rattle.sight_names.specs.Map.{map_of}
use Rattle.cert_checker.proofs.Sides.{MarksBelow}
use Rattle.cert_checker.proofs.members.named_of.Given as goal

abbrev pub invariant-loop-entry : goal.invariant-loop-entry
invariant-loop-entry l = MarksBelow (map_of l.plan) l.entry-index l.named.items
