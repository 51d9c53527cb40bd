use Rattle.map_faults.proofs.Ordered.{in_order_of}
use Rattle.map_faults.proofs.clashes.in_order.Goals as goal

pub returns-clause-order : goal.returns-clause-order
returns-clause-order c = in_order_of c.args.all.items c.sort_unstable.new.self.items c.dedup.new.self.items c.sort_unstable.ensures.permutation c.sort_unstable.ensures.sorted c.dedup.ensures.filtered
