use Rattle.sight_names.specs.Map.{map_of}
use Rattle.pair_answer.specs.Walks.{AreMissedBelow}
use Rattle.pair_answer.proofs.walks.seek_all.Given as goal

abbrev pub invariant-loop-i : goal.invariant-loop-i
invariant-loop-i l = AreMissedBelow (map_of l.ground.plan.now) l.ground.mesh.now.triangles l.ground.labels.now l.ground.budget l.i l.sources l.targets l.spent.items
