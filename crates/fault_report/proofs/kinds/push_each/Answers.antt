use Rattle.std.proofs.Common.{◌++◌, ◌∙◌, ap, string_bytes}
use Rattle.row_spelling.proofs.Quoting.{spelled_all, spelled_more}
use Rattle.fault_report.proofs.kinds.push_each.Goals as goal

pub loop-fault-preserved : goal.loop-fault-preserved
loop-fault-preserved g c = spelled_more (g.F.Fault.line c.args.spelling c.args.plan.now) c.args.faults.now c.loop-fault.fault-index _ (string_bytes c.args.text.now) (string_bytes c.loop-fault.text) (string_bytes c.push_line.new.text) c.loop-fault-test.true c.loop-fault.invariant
    (c.in_ok-push_line.ensures ∙ ap (λ x. string_bytes c.loop-fault.text ++ g.F.Fault.line c.args.spelling c.args.plan.now x) c.fault-item.is)

pub returns : goal.returns
returns g c = spelled_all (g.F.Fault.line c.args.spelling c.args.plan.now) c.args.faults.now c.loop-fault.fault-index (string_bytes c.args.text.now) (string_bytes c.loop-fault.text) c.loop-fault-test.false c.loop-fault.invariant
