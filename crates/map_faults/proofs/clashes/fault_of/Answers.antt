use Rattle.std.proofs.Common.{sym}
use Rattle.map_audit.proofs.AuditLemmas.{answered}
use Rattle.map_faults.proofs.clashes.fault_of.Goals as goal

pub returns : goal.returns
returns c = answered c.args.plan.now c.args.i c.args.j c.in_ok-one.one c.in_ok-other.other c.relation_of.result c.fault_named.result (sym c.in_ok-one.ensures.entry) (sym c.in_ok-other.ensures.entry) c.relation_of.ensures c.fault_named.ensures
