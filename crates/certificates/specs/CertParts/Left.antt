-- What parts are still to come, of a reader that some bytes were given to.
use Rattle.std.specs.Prelude.{ℕ, ◌+◌, ◌<◌, ◌^◌, List, ◌∷◌, ◌++◌, map, length, flat_map, Option, Some, None, Result, Ok, true, ◌==◌, if◌then◌else◌}
use Rattle.sight_names.specs.declared.faults.CertFault.{CertFault}
use Rattle.sight_names.specs.declared.faults.CertFault.TheVariants as faults
use Rattle.cert_format.specs.declared.cert.Sizes.{Sizes}
use Rattle.cert_format.specs.Reading.{◌>>=◌, RecordCounts, begins_at, passed, front_at, counts_at, triangles_at, rays_at, pairs_at, nodes_at, trees_at}
use Rattle.certificates.specs.declared.cert_parts.awaited.Awaited.{Awaited}
use Rattle.certificates.specs.declared.cert_parts.part.Part.{Part}
use Rattle.certificates.specs.declared.cert_parts.part.Part.TheVariants as parts
use Rattle.certificates.specs.CertParts.Parts.{tree_parts}

-- ---- of records that are awaited, read from the bytes that are left

-- the parts of whole trees; behind them no byte is left
unfoldable pub trees_left : Awaited → ℕ → List ℕ → Result (List Part) CertFault
trees_left a total bytes = do
  trees ← trees_at a.sizes total a.last_source a.trees bytes
  passed (length trees.1 == 0) (faults.Trailing (begins_at total trees.1)) (flat_map tree_parts trees.0)

-- the nodes of the tree under way, then trees
unfoldable pub nodes_left : Awaited → ℕ → List ℕ → Result (List Part) CertFault
nodes_left a total bytes = do
  nodes ← nodes_at total a.nodes bytes
  others ← trees_left a total nodes.1
  Ok (map (λ n. parts.Node n) nodes.0 ++ others)

unfoldable pub pairs_left : Awaited → ℕ → List ℕ → Result (List Part) CertFault
pairs_left a total bytes = do
  listed ← pairs_at a.map_sizes total a.last_pair a.listed bytes
  others ← nodes_left a total listed.1
  Ok (map (λ p. parts.Listed p) listed.0 ++ others)

unfoldable pub rays_left : Awaited → ℕ → List ℕ → Result (List Part) CertFault
rays_left a total bytes = do
  rays ← rays_at a.sizes total a.last_ray a.rays bytes
  others ← pairs_left a total rays.1
  Ok (map (λ r. parts.Ray r) rays.0 ++ others)

unfoldable pub triangles_left : Awaited → ℕ → List ℕ → Result (List Part) CertFault
triangles_left a total bytes = do
  triangles ← triangles_at a.sizes total a.last_triangle a.triangles bytes
  others ← rays_left a total triangles.1
  Ok (map (λ t. parts.Triangle t) triangles.0 ++ others)

-- the whole header
unfoldable pub header_at : Sizes → ℕ → List ℕ → Result (RecordCounts × List ℕ) CertFault
header_at sizes total bytes = do
  front ← front_at sizes total bytes
  counts_at sizes.points total front

-- behind a header with these counts all their records are awaited
abbrev pub all_awaited : Sizes → RecordCounts → Awaited
all_awaited sizes counts = record {
  sizes = sizes;
  map_sizes = sizes;
  begun = true;
  triangles = counts.triangles;
  rays = counts.rays;
  listed = counts.listed;
  trees = counts.trees;
  nodes = 0;
  last_triangle = None;
  last_ray = None;
  last_pair = None;
  last_source = None;
}

unfoldable pub left_at : Awaited → ℕ → List ℕ → Result (List Part) CertFault
left_at a total bytes = if a.begun then triangles_left a total bytes else (header_at a.sizes total bytes >>= λ counts. triangles_left (all_awaited a.sizes counts.0) total counts.1)

-- ---- of a reader

-- what it awaits, how many bytes it was given, and which of them it keeps, of a record that is cut
pub record ReaderState : Type 0 where
  pub awaited : Awaited
  pub given : ℕ
  pub kept : List ℕ

-- the parts that are still to come, or the fault, where these are all bytes that are still to come
unfoldable pub parts_left : ReaderState → List ℕ → Result (List Part) CertFault
parts_left s bytes = left_at s.awaited (s.given + length bytes) (s.kept ++ bytes)

-- a part, if there is one, and what is still to come behind it
abbrev pub put_before : Option Part → Result (List Part) CertFault → Result (List Part) CertFault
put_before None left = left
put_before (Some part) left = left >>= λ others. Ok (part ∷ others)

-- a count of the bytes with this piece doesn't pass its type's end
abbrev pub IsCountable : ReaderState → List ℕ → Type 0
IsCountable s piece = s.given + length piece < 2 ^ 64
