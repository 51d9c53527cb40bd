-- What is read of bytes in version 1 or 2, field by field from left to right, and the first fault that is met.
use Rattle.std.specs.Prelude.{ℕ, ◌-◌, List, [], length, slice_get, Option, Some, None, Result, Ok, Bool, true, nat_lt, not, ◌==◌, ◌||◌, if◌then◌else◌}
use Rattle.std.specs.Int.{w16}
use Rattle.std.specs.Ordering.{nat_cmp, is_lt}
use Rattle.std.specs.Cmp.Lexicographic.{slice_cmp}
use Rattle.sight_names.specs.Limits.{most_triangles}
use Rattle.sight_names.specs.declared.faults.CertFault.{CertFault}
use Rattle.sight_names.specs.declared.faults.CertFault.TheVariants as faults
use Rattle.sight_names.specs.declared.names.Pair.{Pair}
use Rattle.sight_names.specs.declared.names.PairRay.{PairRay}
use Rattle.block_evidence.specs.declared.sight_tree.Tree.{Tree}
use Rattle.cert_format.specs.declared.cert.Sizes.{Sizes}
use Rattle.cert_format.specs.declared.cert.Labelled.{Labelled}
use Rattle.cert_format.specs.Reading.{◌>>=◌, begins_at, passed, number_at, number_below, number_known, magic_at, comes_after, counts_at, records_at, triangles_at, rays_at, pairs_at, trees_at, reading}
use Rattle.cert_format.specs.declared.cert_groups.cert.FrontTwo.{FrontTwo}
use Rattle.cert_format.specs.declared.cert_groups.cert.CertTwo.{CertTwo}
use Rattle.cert_format.specs.declared.cert_groups.cert.AnyCert.{AnyCert}
use Rattle.cert_format.specs.declared.cert_groups.cert.AnyCert.TheVariants.{One, Two}

-- ---- fields

-- the version behind the magic: 1 or 2
unfoldable pub version_at : ℕ → List ℕ → Result (ℕ × List ℕ) CertFault
version_at total bytes = do
  m ← magic_at total bytes
  v ← number_at w16 total m
  passed (v.0 == 1 || v.0 == 2) faults.BadVersion v

-- how many groups there are, at most as many as triangles between so many points
unfoldable pub group_count_at : ℕ → ℕ → List ℕ → Result (ℕ × List ℕ) CertFault
group_count_at points total bytes = do
  n ← number_at w16 total bytes
  passed (not (nat_lt (most_triangles points) n.0)) (faults.OutOfRange (begins_at total bytes)) n

-- how many sectors a group has
unfoldable pub size_at : ℕ → List ℕ → Result (ℕ × List ℕ) CertFault
size_at total bytes = do
  n ← number_at w16 total bytes
  passed (not (n.0 == 0)) (faults.OutOfRange (begins_at total bytes)) n

-- a sector of a group, above the one before it
unfoldable pub sector_at : ℕ → ℕ → Option ℕ → List ℕ → Result (ℕ × List ℕ) CertFault
sector_at sectors total before bytes = do
  n ← number_below sectors total bytes
  passed (comes_after before n.0) (faults.NotSorted (begins_at total bytes)) n

-- ---- groups

abbrev pub sectors_at : ℕ → ℕ → Option ℕ → ℕ → List ℕ → Result (List ℕ × List ℕ) CertFault
sectors_at sectors total = records_at (sector_at sectors total) (λ n. Some n)

-- the first, or behind the one before it: as lists, a front of a list before it
abbrev pub group_after : Option (List ℕ) → List ℕ → Bool
group_after None group = true
group_after (Some o) group = is_lt (slice_cmp nat_cmp o group)

-- the order of a group is told once its sectors have passed their ranges and orders
unfoldable pub group_at : ℕ → ℕ → Option (List ℕ) → List ℕ → Result (List ℕ × List ℕ) CertFault
group_at sectors total last bytes = do
  count ← size_at total bytes
  group ← sectors_at sectors total None count.0 count.1
  passed (group_after last group.0) (faults.NotSorted (begins_at total bytes)) group

abbrev pub groups_at : ℕ → ℕ → Option (List ℕ) → ℕ → List ℕ → Result (List (List ℕ) × List ℕ) CertFault
groups_at sectors total = records_at (group_at sectors total) (λ g. Some g)

-- the last of the groups that were read
abbrev pub last_of : List (List ℕ) → Option (List ℕ)
last_of groups = slice_get groups (length groups - 1)

-- ---- the whole

unfoldable pub sizes_at : Sizes → ℕ → List ℕ → Result (List ℕ) CertFault
sizes_at sizes total bytes = do
  sectors ← number_known sizes.sectors total bytes
  points ← number_known sizes.points total sectors
  number_known sizes.lines total points

-- what comes before the parts; the sizes have the groups as sectors
unfoldable pub front_two_at : Sizes → ℕ → List ℕ → Result (FrontTwo × List ℕ) CertFault
front_two_at sizes total bytes = do
  front ← sizes_at sizes total bytes
  count ← group_count_at sizes.points total front
  counts ← counts_at sizes.points total count.1
  groups ← groups_at sizes.sectors total None count.0 counts.1
  Ok (
    record {
      sizes = record { sectors = count.0; points = sizes.points; lines = sizes.lines };
      groups = groups.0;
      counts = record { triangles = counts.0.triangles; rays = counts.0.rays; listed = counts.0.listed; trees = counts.0.trees };
    },
    groups.1,
  )

-- the parts of a certificate of version 2; the sizes have the groups as sectors
pub record PartsTwo : Type 0 where
  pub sizes : Sizes
  pub groups : List (List ℕ)
  pub triangles : List Labelled
  pub rays : List PairRay
  pub listed : List Pair
  pub trees : List Tree

-- what the bytes behind the version spell. Triangles, rays and trees are read as in version 1, with the groups in the
-- place of sectors; listed pairs are pairs of sectors
unfoldable pub parts_at : Sizes → ℕ → List ℕ → Result PartsTwo CertFault
parts_at sizes total bytes = do
  front ← front_two_at sizes total bytes
  triangles ← triangles_at front.0.sizes total None front.0.counts.triangles front.1
  rays ← rays_at front.0.sizes total None front.0.counts.rays triangles.1
  listed ← pairs_at sizes total None front.0.counts.listed rays.1
  trees ← trees_at front.0.sizes total None front.0.counts.trees listed.1
  passed (length trees.1 == 0) (faults.Trailing (begins_at total trees.1))
      (record { sizes = front.0.sizes; groups = front.0.groups; triangles = triangles.0; rays = rays.0; listed = listed.0; trees = trees.0 })

abbrev pub cert_two_of : PartsTwo → CertTwo
cert_two_of p = record { groups = p.groups; cert = record { sizes = p.sizes; triangles = p.triangles; rays = p.rays; listed = []; trees = p.trees }; listed = p.listed }

abbrev pub two_at : Sizes → ℕ → List ℕ → Result CertTwo CertFault
two_at sizes total bytes = do
  parts ← parts_at sizes total bytes
  Ok (cert_two_of parts)

abbrev pub one_read : Sizes → List ℕ → Result AnyCert CertFault
one_read sizes bytes = do
  c ← reading sizes bytes
  Ok (One c)

abbrev pub two_read : Sizes → ℕ → List ℕ → Result AnyCert CertFault
two_read sizes total rest = do
  c ← two_at sizes total rest
  Ok (Two c sizes)

-- the certificate of version 1 or 2 that all of the bytes spell, or the first fault
unfoldable pub any_at : Sizes → List ℕ → Result AnyCert CertFault
any_at sizes bytes = do
  version ← version_at (length bytes) bytes
  if version.0 == 1 then one_read sizes bytes else two_read sizes (length bytes) version.1
