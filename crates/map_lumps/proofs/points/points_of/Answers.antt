use Rattle.std.proofs.Common.{◌∙◌, ap}
use Rattle.sight_names.specs.Points.{in_order}
use Rattle.map_lumps.proofs.Numbering.{sorted_is}
use Rattle.map_lumps.proofs.points.points_of.Goals as goal

pub returns : goal.returns
returns c = sorted_is c.in_ok-points.points.items c.sort_unstable.new.self.items c.dedup.new.self.items c.sort_unstable.ensures.permutation c.sort_unstable.ensures.sorted c.dedup.ensures.filtered ∙ ap in_order c.in_ok-points.ensures
