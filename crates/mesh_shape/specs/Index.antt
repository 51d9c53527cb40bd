-- Where the triangles round each point stand in the list of triangles.
use Rattle.std.specs.Prelude.{◌≡◌, ℕ, ◌+◌, ◌<◌, ◌≤◌, List, length, slice_index_or, Bool, true, false, ◌==◌, ◌||◌, if◌then◌else◌}
use Rattle.sight_names.specs.declared.limits.TheConstants.{MOST_TRIANGLES}
use Rattle.sight_names.specs.declared.names.Triangle.{Triangle}
use Rattle.mesh_shape.specs.declared.mesh.Next.{Next}
use Rattle.sight_names.specs.Mesh.{AreTriangles}

-- the point is a corner of the triangle
abbrev pub has_corner : ℕ → Triangle → Bool
has_corner u t = t.p == u || t.q == u || t.r == u

-- j is the first place from i on of a triangle with the corner u, or the end of the list where there is none
pub record IsNextAround (ts : List Triangle) (u i j : ℕ) : Type 0 where
  pub from : i ≤ j
  pub within : j ≤ length ts
  pub none : (k : ℕ) (d : Triangle) → k < j → i ≤ k → has_corner u (slice_index_or ts k d) ≡ false
  pub here : (d : Triangle) → j < length ts → has_corner u (slice_index_or ts j d) ≡ true

-- for each corner of the triangle at k, where the next triangle with this corner stands
pub record IsNext (ts : List Triangle) (k : ℕ) (t : Triangle) (n : Next) : Type 0 where
  pub p : IsNextAround ts t.p (k + 1) n.p
  pub q : IsNextAround ts t.q (k + 1) n.q
  pub r : IsNextAround ts t.r (k + 1) n.r

-- the entry of a triangle's corner u
abbrev pub entry_at : ℕ → Triangle → Next → ℕ
entry_at u t n = if t.p == u then n.p else if t.q == u then n.q else n.r

-- each corner's entry is k, and the others stay
pub record IsCornerPut (t : Triangle) (k : ℕ) (old new : List ℕ) : Type 0 where
  pub here : (u d : ℕ) → u < length old → has_corner u t ≡ true → slice_index_or new u d ≡ k
  pub others : (u d : ℕ) → has_corner u t ≡ false → slice_index_or new u d ≡ slice_index_or old u d

-- triangles between so many points, with the first triangle round each point, and the next ones
pub record AreTrianglesIndexed (points : ℕ) (ts : List Triangle) (first : List ℕ) (later : List Next) : Type 0 where
  pub triangles : AreTriangles points ts
  pub few : length ts ≤ MOST_TRIANGLES
  pub each_point : length first ≡ points
  pub each_triangle : length later ≡ length ts
  pub first_round : (u d : ℕ) → u < points → IsNextAround ts u 0 (slice_index_or first u d)
  pub next_round : (k : ℕ) (d : Triangle) (e : Next) → k < length ts → IsNext ts k (slice_index_or ts k d) (slice_index_or later k e)
