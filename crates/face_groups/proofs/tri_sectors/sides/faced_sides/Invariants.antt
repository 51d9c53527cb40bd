use Rattle.std.proofs.Common.{◌<◌}
use Rattle.sight_names.specs.Map.{map_of}
use Rattle.face_groups.specs.TriSectors.Sides.{AreFacedOf}
use Rattle.face_groups.proofs.tri_sectors.sides.faced_sides.Given as goal

abbrev pub invariant-loop-i : goal.invariant-loop-i
invariant-loop-i l = AreFacedOf (λ s. s.line < l.i) (map_of l.plan) l.mesh.triangles l.faces l.sides.items
