use Rattle.std.proofs.Common.{◌<◌}
use Rattle.map_faults.specs.Tears.{AreTearsOf}
use Rattle.map_faults.proofs.tears.tears_by.Given as goal

abbrev pub invariant-loop-i : goal.invariant-loop-i
invariant-loop-i l = AreTearsOf (λ s. s.line < l.i) l.plan l.mesh.triangles l.sides l.tears.items
