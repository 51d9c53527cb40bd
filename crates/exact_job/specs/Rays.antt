-- The rays of a certificate: in range and in order.
use Rattle.std.specs.Prelude.{List}
use Rattle.std.specs.List.{AllByRecursion}
use Rattle.sight_names.specs.declared.names.PairRay.{PairRay}
use Rattle.sight_names.specs.Order.{Ascends}
use Rattle.cert_format.specs.declared.cert.Sizes.{Sizes}
use Rattle.cert_format.specs.Grammar.{IsRayInRange}
use Rattle.found_rays.specs.Rays.{RayBefore}

-- a certificate for a map of these sizes may have each of these rays, and in this order
pub record AreRaysInOrder (sizes : Sizes) (rays : List PairRay) : Type 0 where
  pub range : AllByRecursion (IsRayInRange sizes) rays
  pub ascend : Ascends RayBefore rays
