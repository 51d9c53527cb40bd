use Rattle.found_rays.proofs.Ordering.{ArePicked}
use Rattle.found_rays.proofs.rays.in_order.Given as goal

abbrev pub invariant-loop-ray : goal.invariant-loop-ray
invariant-loop-ray l = ArePicked l.ray-items l.ray-index l.rays.items
