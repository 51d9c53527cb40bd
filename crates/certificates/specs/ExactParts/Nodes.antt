-- Nodes of a tree that are taken from a piece, while the reader stays where the first of them began.
use Rattle.std.specs.Prelude.{◌≡◌, ℕ, ◌+◌, []}
use Rattle.certificates.specs.ExactParts.Left.{ReaderState, first_or_zero, settled, shorter}

-- so many bytes of a tree come next, and none of them is kept
pub record AwaitsTree (s : ReaderState) (left : ℕ) : Type 0 where
  pub uncut : s.kept ≡ []
  pub triangles : s.awaited.triangles ≡ 0
  pub rays : s.awaited.rays ≡ 0
  pub lengths : s.awaited.lengths ≡ 0
  pub left_is : first_or_zero s.trees.lengths ≡ left

-- the reader once nodes of so many bytes of the tree were taken
abbrev pub behind_bytes : ReaderState → ℕ → ReaderState
behind_bytes s bytes = record s { trees = settled (shorter bytes s.trees); given = s.given + bytes }
