use Rattle.std.proofs.Common.{◌<◌}
use Rattle.sight_names.specs.Map.{map_of}
use Rattle.face_groups.specs.TriSectors.Sides.{IsSealedAt}
use Rattle.map_faults.specs.OpenSides.{AreSidesAgainst}
use Rattle.map_faults.proofs.open_sides.open_by.Given as goal

abbrev pub invariant-loop-i : goal.invariant-loop-i
invariant-loop-i l = AreSidesAgainst (λ s. s.line < l.i) (IsSealedAt (map_of l.plan) l.mesh.triangles l.faces l.marks) l.found.items
