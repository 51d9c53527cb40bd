-- Triangles in order, looked at one after another.
use Rattle.std.specs.Prelude.{◌≡◌, ℕ, ◌+◌, List, Some, slice_get}
use Rattle.sight_names.specs.declared.names.Triangle.{Triangle}
use Rattle.sight_names.specs.Mesh.{IsTriangle, IsAbove}

-- the triangle at this place is one, and above the one before it
pub record IsNextAt (points : ℕ) (ts : List Triangle) (k : ℕ) : Type 0 where
  pub triangle : (t : Triangle) → slice_get ts k ≡ Some t → IsTriangle points t
  pub above : (j : ℕ) (t u : Triangle) → j + 1 ≡ k → slice_get ts j ≡ Some t → slice_get ts k ≡ Some u → IsAbove t u
