use Rattle.std.proofs.Common.{ℕ, ◌<◌, Bool}
use Rattle.sight_names.specs.Map.{map_of}
use Rattle.face_groups.specs.TriSectors.Sides.{IsSealedAt}
use Rattle.face_groups.proofs.tri_sectors.sides.first_open.Given as goal

abbrev pub invariant-loop-i : goal.invariant-loop-i
invariant-loop-i l = (j : ℕ) → j < l.i → (left : Bool) → IsSealedAt (map_of l.plan) l.mesh.triangles l.faces l.marks (record { line = j; left = left })
