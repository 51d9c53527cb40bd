use Rattle.std.proofs.Common.{◌≡◌, List, Option, length, ap, arith}
use Rattle.sight_names.specs.declared.plan.Line.{Line}
use Rattle.map_audit.proofs.first_fault.Goals as goal

pub returns : goal.returns
returns c =
    let e : length c.lines-i-end.result.now ≡ length c.args.plan.now.lines = ap (λ (xs : List (Option Line)). length xs) c.lines-i-end.ensures.list in
    λ h lt. c.loop-i.invariant h (omega arith)
