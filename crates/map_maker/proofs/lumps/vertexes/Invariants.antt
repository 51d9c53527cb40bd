use Rattle.std.proofs.Common.{◌≡◌, ◌++◌, drop}
use Rattle.map_maker.specs.Lumps.{vertexes_of}
use Rattle.map_maker.proofs.lumps.vertexes.Given as goal

abbrev pub invariant-loop-point : goal.invariant-loop-point
invariant-loop-point l = l.out.items ++ vertexes_of (drop l.point-index l.points) ≡ vertexes_of l.points
