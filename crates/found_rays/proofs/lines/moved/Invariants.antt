use Rattle.std.proofs.Common.{◌≡◌, map, take}
use Rattle.found_rays.specs.Lines.{pair_of_ray}
use Rattle.found_rays.proofs.lines.moved.Given as goal

abbrev pub invariant-loop-one : goal.invariant-loop-one
invariant-loop-one l = map pair_of_ray l.all.items ≡ map pair_of_ray (take l.one-index l.rays)
