use Rattle.std.proofs.Common.{◌≡◌, ◌+◌, Option, None, MatchOption, below_more, sym, subst}
use Rattle.sight_names.specs.declared.faults.LineFault.{LineFault}
use Rattle.sight_names.specs.Map.{map_of}
use Rattle.map_audit.specs.Audit.{FineBefore, IsLineFault}
use Rattle.map_audit.proofs.AuditLemmas.{fine_without_first}
use Rattle.map_audit.proofs.fault_from.Goals as goal

pub returns-in_err-line : goal.returns-in_err-line
returns-in_err-line c =
    let none : c.from_residual.result ≡ None = c.from_residual.ensures in
    subst (λ (answer : Option LineFault). MatchOption answer (FineBefore (map_of c.args.plan.now) (c.args.i + 1)) (λ f. IsLineFault (map_of c.args.plan.now) f)) (sym none) (below_more _ _ c.requires (λ j lt. fine_without_first c.args.plan.now c.args.i j (sym c.in_err-line.ensures.entry)))
