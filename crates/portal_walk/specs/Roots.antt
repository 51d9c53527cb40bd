-- The roots of all sectors of a plan, each as a source.
use Rattle.std.specs.Prelude.{◌≡◌, ℕ, ◌<◌, List, [], ◌∷◌, ◌++◌, Option, Some, None, All, length, map, slice_set, slice_index_or}
use Rattle.sight_names.specs.declared.names.Side.{Side}
use Rattle.sight_names.specs.Map.{map_of}
use Rattle.sight_names.specs.Plan.{PlanParts}
use Rattle.sight_names.specs.Sequence.{roots}
use Rattle.portal_walk.specs.declared.roots.Root.{Root}
use Rattle.portal_walk.specs.Sides.{IsRootOf, roots_at}

-- the roots of this sector
abbrev pub roots_in : List (List Root) → ℕ → List Root
roots_in xs a = slice_index_or xs a []

abbrev pub side_of_root : Root → Side
side_of_root r = r.side

-- a root stands behind the others of the sector that is named, where it has a list
abbrev pub with_root : Option ℕ → Root → List (List Root) → List (List Root)
with_root None r xs = xs
with_root (Some a) r xs = slice_set xs a (roots_in xs a ++ r ∷ [])

-- each sector has its roots at the line with this record number behind the others
pub record PutsRoots (p : PlanParts) (k : ℕ) (old new : List (List Root)) : Type 0 where
  pub len : length new ≡ length old
  pub each : (a : ℕ) → a < length old → (rs : List Root) × (roots_in new a ≡ roots_in old a ++ rs) × All (IsRootOf p a) rs × (map side_of_root rs ≡ roots_at (map_of p) a k)

-- for each sector its roots, in order
pub record AreSideRoots (p : PlanParts) (xs : List (List Root)) : Type 0 where
  pub len : length xs ≡ p.sectors
  pub exits : (a : ℕ) → a < p.sectors → All (IsRootOf p a) (roots_in xs a)
  pub order : (a : ℕ) → a < p.sectors → map side_of_root (roots_in xs a) ≡ roots (map_of p) a
