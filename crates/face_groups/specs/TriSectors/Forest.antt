-- Numbers in trees: each has a parent, a root is its own. The numbers of one tree are a class, named by its root.
use Rattle.std.specs.Prelude.{ℕ, zero, suc, ◌<◌, ◌≤◌, List, length, map}
use Rattle.std.specs.List.{range_with_len}
use Rattle.face_groups.specs.TriSectors.Classes.{class_of}

-- no number's parent is greater than it
abbrev pub IsForest : List ℕ → Type 0
IsForest ps = (k : ℕ) → k < length ps → class_of ps k ≤ k

-- the number so many steps above
abbrev pub number_above : List ℕ → ℕ → ℕ → ℕ
number_above ps zero k = k
number_above ps (suc n) k = number_above ps n (class_of ps k)

-- the root of a number's tree: no way up is longer than the numbers are many
abbrev pub forest_root : List ℕ → ℕ → ℕ
forest_root ps k = number_above ps (length ps) k

-- the class of each number
abbrev pub classes_in : List ℕ → List ℕ
classes_in ps = map (forest_root ps) (range_with_len 0 (length ps))
