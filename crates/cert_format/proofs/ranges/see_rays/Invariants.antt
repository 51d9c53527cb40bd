use Rattle.std.proofs.Common.{take}
use Rattle.std.specs.List.{AllByRecursion}
use Rattle.cert_format.specs.Grammar.{FitsPairRay}
use Rattle.cert_format.proofs.ranges.see_rays.Given as goal

abbrev pub invariant-loop-ray : goal.invariant-loop-ray
invariant-loop-ray l = AllByRecursion FitsPairRay (take l.ray-index l.rays)
