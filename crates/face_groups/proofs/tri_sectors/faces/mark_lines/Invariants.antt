use Rattle.sight_names.specs.Map.{map_of}
use Rattle.face_groups.specs.TriSectors.Faces.{AreWallsMarked, IsWallBefore}
use Rattle.face_groups.proofs.tri_sectors.faces.mark_lines.Given as goal

abbrev pub invariant-loop-line : goal.invariant-loop-line
invariant-loop-line l = AreWallsMarked (IsWallBefore (map_of l.plan) l.mesh.triangles l.line-index) l.mesh.triangles l.walls
