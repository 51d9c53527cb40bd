-- What is read of bytes in version 3, field by field from left to right, and the first fault that is met.
use Rattle.std.specs.Prelude.{ℕ, zero, suc, List, [], ◌∷◌, length, take, drop, None, Result, Ok, nat_lt, not, ◌==◌}
use Rattle.std.specs.Int.{w16, w32, w64}
use Rattle.sight_names.specs.declared.faults.CertFault.{CertFault}
use Rattle.sight_names.specs.declared.faults.CertFault.TheVariants as faults
use Rattle.block_evidence.specs.declared.sight_tree.Node.{Node}
use Rattle.cert_format.specs.declared.cert.Sizes.{Sizes}
use Rattle.cert_format.specs.Reading.{◌>>=◌, begins_at, passed, number_at, magic_at, triangle_count_at, records_at, triangles_at, rays_at, node_at}
use Rattle.cert_format.specs.CertGroups.Reading.{sizes_at, group_count_at, groups_at}
use Rattle.certificates.specs.declared.cert_exact.cert.ExactParts.{ExactParts}
use Rattle.certificates.specs.declared.cert_exact.cert.CountsThree.{CountsThree}

-- ---- the header

-- the bytes behind the magic and the version, which is 3
unfoldable pub version_at : ℕ → List ℕ → Result (List ℕ) CertFault
version_at total bytes = do
  m ← magic_at total bytes
  v ← number_at w16 total m
  passed (v.0 == 3) faults.BadVersion v.1

-- how many groups, triangles and rays there are
unfoldable pub counts_at : ℕ → ℕ → List ℕ → Result (CountsThree × List ℕ) CertFault
counts_at points total bytes = do
  groups ← group_count_at points total bytes
  triangles ← triangle_count_at points total groups.1
  rays ← number_at w32 total triangles.1
  Ok (record { groups = groups.0; triangles = triangles.0; rays = rays.0 }, rays.1)

-- ---- trees

-- how many bytes each of so many trees takes
abbrev pub lengths_at : ℕ → ℕ → List ℕ → Result (List ℕ × List ℕ) CertFault
lengths_at total = records_at (λ (k : ℕ). number_at w64 total) (λ n. 0) 0

-- all nodes up to the end of the bytes, which is the end of their tree too; at most so many
unfoldable pub nodes_to_end : ℕ → ℕ → List ℕ → Result (List Node) CertFault
nodes_to_end zero total bytes = Ok []
nodes_to_end (suc n) total [] = Ok []
nodes_to_end (suc n) total (b ∷ bytes) = do
  node ← node_at total (b ∷ bytes)
  others ← nodes_to_end n total node.1
  Ok (node.0 ∷ others)

-- the nodes in so many bytes. One that reaches past the end of its tree isn't whole, nor is the one behind the last byte of all, where
-- the tree takes more bytes than there are
unfoldable pub tree_at : ℕ → ℕ → List ℕ → Result (List Node × List ℕ) CertFault
tree_at total many bytes = do
  nodes ← nodes_to_end (length (take many bytes)) (begins_at total (drop many bytes)) (take many bytes)
  passed (not (nat_lt (length bytes) many)) (faults.Short (begins_at total [])) (nodes, drop many bytes)

-- a tree for each of these lengths, one behind the other
unfoldable pub trees_at : ℕ → List ℕ → List ℕ → Result (List (List Node) × List ℕ) CertFault
trees_at total [] bytes = Ok ([], bytes)
trees_at total (many ∷ lengths) bytes = do
  tree ← tree_at total many bytes
  others ← trees_at total lengths tree.1
  Ok (tree.0 ∷ others.0, others.1)

-- ---- the whole

abbrev pub with_sectors : Sizes → ℕ → Sizes
with_sectors sizes n = record { sectors = n; points = sizes.points; lines = sizes.lines }

-- the certificate that the bytes spell to their end, or the first fault. Triangles and rays are read as in version 1, with the groups in
-- the place of sectors
unfoldable pub parts_at : Sizes → ℕ → List ℕ → Result ExactParts CertFault
parts_at sizes total bytes = do
  version ← version_at total bytes
  front ← sizes_at sizes total version
  counts ← counts_at sizes.points total front
  groups ← groups_at sizes.sectors total None counts.0.groups counts.1
  triangles ← triangles_at (with_sectors sizes counts.0.groups) total None counts.0.triangles groups.1
  rays ← rays_at (with_sectors sizes counts.0.groups) total None counts.0.rays triangles.1
  lengths ← lengths_at total counts.0.groups rays.1
  trees ← trees_at total lengths.0 lengths.1
  passed (length trees.1 == 0) (faults.Trailing (begins_at total trees.1))
      (record { sizes = sizes; groups = groups.0; triangles = triangles.0; rays = rays.0; trees = trees.0 })

abbrev pub exact_at : Sizes → List ℕ → Result ExactParts CertFault
exact_at sizes bytes = parts_at sizes (length bytes) bytes
