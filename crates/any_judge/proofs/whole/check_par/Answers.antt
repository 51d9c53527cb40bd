use Rattle.std.proofs.Common.{◌↔◌, sym, subst}
use Rattle.std.specs.Prelude.{IfOk}
use Rattle.sight_names.specs.Map.{map_of}
use Rattle.certificates.specs.declared.certificate.Certificate.{Certificate}
use Rattle.group_checker.specs.Judged.{IsYesAny}
use Rattle.any_judge.specs.Accepted.{IsAccepted}
use Rattle.any_judge.proofs.whole.check_par.Goals as goal

pub returns-in-Listing-clause-accepted : goal.returns-in-Listing-clause-accepted
returns-in-Listing-clause-accepted g c = subst (λ (x : Certificate). IfOk c.check_any_par.result (λ v. IsYesAny v ↔ IsAccepted (map_of c.args.plan.now) c.args.table.now.bytes x)) (sym c.in-Listing.is) c.check_any_par.ensures.accepted

pub returns-in-Exact-clause-accepted : goal.returns-in-Exact-clause-accepted
returns-in-Exact-clause-accepted g c = subst (λ (x : Certificate). IfOk c.check_exact_par.result (λ v. IsYesAny v ↔ IsAccepted (map_of c.args.plan.now) c.args.table.now.bytes x)) (sym c.in-Exact.is) c.check_exact_par.ensures.accepted
