use Rattle.map_faults.proofs.Turning.{IsAfter}
use Rattle.map_faults.proofs.tears.turned.Given as goal

abbrev pub invariant-loop : goal.invariant-loop
invariant-loop l = IsAfter l.mesh.triangles l.sides l.point l.from l.counter l.at
