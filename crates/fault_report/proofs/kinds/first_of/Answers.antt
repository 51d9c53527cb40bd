use Rattle.std.proofs.Common.{arith}
use Rattle.fault_report.specs.declared.kinds.TheConstants.{MOST_LINES}
use Rattle.fault_report.proofs.Telling.{few_taken}
use Rattle.fault_report.proofs.kinds.first_of.Goals as goal

pub returns-then-faults-le-MOST_LINES : goal.returns-then-faults-le-MOST_LINES
returns-then-faults-le-MOST_LINES g c = few_taken MOST_LINES c.args.faults.now (let h = c.if-faults-le-MOST_LINES.true in omega arith)
