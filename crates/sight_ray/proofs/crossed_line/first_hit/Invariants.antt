use Rattle.sight_names.specs.Map.{map_of}
use Rattle.sight_ray.specs.CrossedLine.{AreClearBelow}
use Rattle.sight_ray.proofs.crossed_line.first_hit.Given as goal

abbrev pub invariant-loop-number : goal.invariant-loop-number
invariant-loop-number l = AreClearBelow (map_of l.plan) l.ray l.start l.stop l.number
