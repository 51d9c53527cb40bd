use Rattle.map_faults.proofs.SidesOfEdges.{AreKnownBelow}
use Rattle.map_faults.proofs.edge_sides.edge_sides_of.Given as goal

abbrev pub invariant-loop-number : goal.invariant-loop-number
invariant-loop-number l = AreKnownBelow l.number l.plan l.mesh.triangles l.sides.items
