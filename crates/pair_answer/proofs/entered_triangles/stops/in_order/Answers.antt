use Rattle.pair_answer.proofs.EnteredTriangles.StopOrder.{in_order_of}
use Rattle.pair_answer.proofs.entered_triangles.stops.in_order.Goals as goal

pub returns : goal.returns
returns c = in_order_of c.args.found.items c.sort_unstable.new.self.items c.dedup.new.self.items c.sort_unstable.ensures.permutation c.sort_unstable.ensures.sorted c.dedup.ensures.filtered
