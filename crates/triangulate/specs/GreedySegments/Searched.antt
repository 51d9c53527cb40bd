-- What searches among points have shown.
use Rattle.std.specs.Prelude.{◌≡◌, ℕ, List, Option, Some, None, slice_index_or}
use Rattle.sight_names.specs.Map.{Map}
use Rattle.triangulate.specs.declared.greedy_segments.searched.Corners.{Corners}
use Rattle.triangulate.specs.GreedySegments.Saturated.{IsEmptyTriangle}

-- the triangles that are kept have no point inside
pub record AreSearched (m : Map) (triangles : List (Option Corners)) : Type 0 where
  pub empty : (k : ℕ) (t : Corners) → slice_index_or triangles k None ≡ Some t → IsEmptyTriangle m t.a t.b t.c
