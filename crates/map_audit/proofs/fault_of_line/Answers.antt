use Rattle.std.proofs.Common.{◌≡◌, List, Option, length, ap, below_more, arith}
use Rattle.sight_names.specs.declared.plan.Line.{Line}
use Rattle.map_audit.proofs.AuditLemmas.{all_later}
use Rattle.map_audit.proofs.fault_of_line.Goals as goal

pub loop-j-preserved : goal.loop-j-preserved
loop-j-preserved c = below_more _ _ c.loop-j.invariant (λ h. c.in_default.ensures)

pub returns : goal.returns
returns c =
    let e : length c.lines-j-end.result.now ≡ length c.args.plan.now.lines = ap (λ (xs : List (Option Line)). length xs) c.lines-j-end.ensures.list in
    below_more _ _ c.requires.earlier (all_later c.args.plan.now c.args.i c.loop-j.j c.loop-j.invariant (omega arith))
