use Rattle.sight_names.specs.Map.{map_of}
use Rattle.cert_checker.specs.AcceptedGroups.Accepted.{IsAlone}
use Rattle.cert_checker.specs.Members.{AreMembersBy}
use Rattle.cert_checker.proofs.members.alone_of.Given as goal

abbrev pub invariant-loop-sector : goal.invariant-loop-sector
invariant-loop-sector l = AreMembersBy (IsAlone (map_of l.plan)) l.sector l.members.items
