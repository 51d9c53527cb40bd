use Rattle.std.proofs.Common.{sym}
use Rattle.map_audit.proofs.AuditLemmas.{answered}
use Rattle.map_audit.proofs.fault_with.Goals as goal

pub returns : goal.returns
returns c = answered c.args.plan.now c.args.i c.args.j c.args.line c.in_ok-other.other c.relation.result c.fault_of_pair.result c.requires.there (sym c.in_ok-other.ensures.entry) c.relation.ensures c.fault_of_pair.ensures
