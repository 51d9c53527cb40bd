use Rattle.face_groups.proofs.NamingOrder.{in_order_of}
use Rattle.face_groups.proofs.namings.in_order.Goals as goal

pub returns : goal.returns
returns c = in_order_of c.args.all.items c.sort_unstable.new.self.items c.dedup.new.self.items c.sort_unstable.ensures.permutation c.sort_unstable.ensures.sorted c.dedup.ensures.filtered
