use Rattle.std.proofs.Common.{◌↔◌, sym, subst}
use Rattle.std.specs.Prelude.{IfOk}
use Rattle.sight_names.specs.Map.{map_of}
use Rattle.cert_format.specs.declared.cert_groups.cert.AnyCert.{AnyCert}
use Rattle.cert_checker.specs.AcceptedGroups.Accepted.{IsAcceptedAny}
use Rattle.group_checker.specs.Judged.{IsYesAny}
use Rattle.group_checker.proofs.judge.check_any_by.Goals as goal

pub returns-in-Two-clause-accepted : goal.returns-in-Two-clause-accepted
returns-in-Two-clause-accepted g c = subst (λ (x : AnyCert). IfOk c.check_two.result (λ v. IsYesAny v ↔ IsAcceptedAny (map_of c.args.plan.now) c.args.table.now.bytes x)) (sym c.in-Two.is) c.check_two.ensures.accepted
