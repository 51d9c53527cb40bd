-- What is read of bytes, field by field from left to right, and the first fault that is met. Each reader is given
-- how many bytes there are in all, and those that are left.
use Rattle.std.specs.Prelude.{◌≡◌, ℕ, zero, suc, ◌-◌, ◌%◌, List, [], ◌∷◌, length, take, drop, Option, Some, None, Result, Ok, Err, Bool, true, nat_lt, not, ◌==◌, ◌&&◌, ◌||◌, if◌then◌else◌, ℤ}
use Rattle.std.specs.Int.{Width, w16, w32, w64, byte_len, from_le_bytes, cast_signed}
use Rattle.sight_names.specs.Limits.{most_triangles}
use Rattle.sight_names.specs.declared.faults.CertFault.{CertFault}
use Rattle.sight_names.specs.declared.faults.CertFault.TheVariants as faults
use Rattle.sight_names.specs.declared.names.Pair.{Pair}
use Rattle.sight_names.specs.declared.names.PairRay.{PairRay}
use Rattle.sight_names.specs.declared.names.Ray.{Ray}
use Rattle.sight_names.specs.declared.names.Side.{Side}
use Rattle.sight_names.specs.declared.names.Triangle.{Triangle}
use Rattle.block_evidence.specs.declared.sight_tree.Node.{Node}
use Rattle.block_evidence.specs.declared.sight_tree.Node.TheVariants.{Open, Blocked}
use Rattle.block_evidence.specs.declared.sight_tree.Tree.{Tree}
use Rattle.cert_format.specs.declared.cert.Sizes.{Sizes}
use Rattle.cert_format.specs.declared.cert.Labelled.{Labelled}
use Rattle.cert_format.specs.Parts.{CertParts}

-- the next step works on what the step before it gave; the first fault ends it all
infixl 10 ◌>>=◌
abbrev pub ◌>>=◌ : {A B : Type 0} → Result A CertFault → (A → Result B CertFault) → Result B CertFault
(Ok x) >>= f = f x
(Err e) >>= f = Err e

-- the answer of a call is this one, unless memory ran out
abbrev pub FailsCert : {Y : Type 0} → CertFault → Result Y CertFault → Type 0
FailsCert (faults.Memory _) read = Unit {0}
FailsCert f read = read ≡ Err f

abbrev pub GivesCert : {X Y : Type 0} → (X → Y) → Result X CertFault → Result Y CertFault → Type 0
GivesCert view (Ok x) read = read ≡ Ok (view x)
GivesCert view (Err e) read = FailsCert e read

-- the answer of a call that takes no memory is this one
abbrev pub GivesExactly : {X Y : Type 0} → (X → Y) → Result X CertFault → Result Y CertFault → Type 0
GivesExactly view (Ok x) read = read ≡ Ok (view x)
GivesExactly view (Err f) read = read ≡ Err f

-- where the bytes that are left begin
abbrev pub begins_at : ℕ → List ℕ → ℕ
begins_at total bytes = total - length bytes

-- the value, where the test holds, or else the fault
abbrev pub passed : {X : Type 0} → Bool → CertFault → X → Result X CertFault
passed b fault x = if b then Ok x else Err fault

-- ---- fields: a value, and the bytes behind it

abbrev pub number_at : Width → ℕ → List ℕ → Result (ℕ × List ℕ) CertFault
number_at w total bytes = passed (not (nat_lt (length bytes) (byte_len w))) (faults.Short (begins_at total bytes)) (from_le_bytes w (take (byte_len w) bytes), drop (byte_len w) bytes)

unfoldable pub signed_at : Width → ℕ → List ℕ → Result (ℤ × List ℕ) CertFault
signed_at w total bytes = do
  n ← number_at w total bytes
  Ok (cast_signed w n.0, n.1)

-- a number of two bytes below the limit
unfoldable pub number_below : ℕ → ℕ → List ℕ → Result (ℕ × List ℕ) CertFault
number_below limit total bytes = do
  n ← number_at w16 total bytes
  passed (nat_lt n.0 limit) (faults.OutOfRange (begins_at total bytes)) n

-- a number of two bytes that is known before
unfoldable pub number_known : ℕ → ℕ → List ℕ → Result (List ℕ) CertFault
number_known known total bytes = do
  n ← number_at w16 total bytes
  passed (n.0 == known) (faults.OutOfRange (begins_at total bytes)) n.1

-- a point's number that differs from these two
unfoldable pub point_apart : ℕ → ℕ → ℕ → ℕ → List ℕ → Result (ℕ × List ℕ) CertFault
point_apart points p q total bytes = do
  n ← number_at w16 total bytes
  passed (nat_lt n.0 points && not (n.0 == p) && not (n.0 == q)) (faults.OutOfRange (begins_at total bytes)) n

-- a line's record number, plus 32,768 for its left side
unfoldable pub side_at : ℕ → ℕ → List ℕ → Result (Side × List ℕ) CertFault
side_at lines total bytes = do
  n ← number_at w16 total bytes
  passed (nat_lt (n.0 % 32768) lines) (faults.OutOfRange (begins_at total bytes)) (record { line = n.0 % 32768; left = nat_lt 32767 n.0 }, n.1)

-- ---- records

-- the first, or by its number, or its numbers in order, behind the one before it
abbrev pub comes_after : Option ℕ → ℕ → Bool
comes_after None n = true
comes_after (Some last) n = nat_lt last n

abbrev pub pair_after : Option Pair → Pair → Bool
pair_after None p = true
pair_after (Some o) p = nat_lt o.a p.a || (o.a == p.a && nat_lt o.b p.b)

abbrev pub triangle_after : Option Labelled → Triangle → Bool
triangle_after None t = true
triangle_after (Some o) t = nat_lt o.triangle.p t.p || (o.triangle.p == t.p && (nat_lt o.triangle.q t.q || (o.triangle.q == t.q && nat_lt o.triangle.r t.r)))

unfoldable pub triangle_at : Sizes → ℕ → Option Labelled → List ℕ → Result (Labelled × List ℕ) CertFault
triangle_at sizes total last bytes = do
  p ← number_below sizes.points total bytes
  q ← point_apart sizes.points p.0 p.0 total p.1
  r ← point_apart sizes.points p.0 q.0 total q.1
  sector ← number_below sizes.sectors total r.1
  passed (nat_lt p.0 q.0 && nat_lt p.0 r.0 && triangle_after last (record { p = p.0; q = q.0; r = r.0 })) (faults.NotSorted (begins_at total bytes))
      (record { triangle = record { p = p.0; q = q.0; r = r.0 }; sector = sector.0 }, sector.1)

abbrev pub pair_if_any : Option PairRay → Option Pair
pair_if_any None = None
pair_if_any (Some r) = Some r.pair

-- two sides and the three numbers of a ray
unfoldable pub sight_line_at : ℕ → ℕ → List ℕ → Result (Ray × List ℕ) CertFault
sight_line_at lines total bytes = do
  first ← side_at lines total bytes
  last ← side_at lines total first.1
  a ← signed_at w32 total last.1
  b ← signed_at w32 total a.1
  c ← signed_at w64 total b.1
  Ok (record { first = first.0; last = last.0; a = a.0; b = b.0; c = c.0 }, c.1)

unfoldable pub ray_at : Sizes → ℕ → Option PairRay → List ℕ → Result (PairRay × List ℕ) CertFault
ray_at sizes total before bytes = do
  from ← number_below sizes.sectors total bytes
  to ← number_below sizes.sectors total from.1
  ray ← sight_line_at sizes.lines total to.1
  passed (nat_lt from.0 to.0 && pair_after (pair_if_any before) (record { a = from.0; b = to.0 })) (faults.NotSorted (begins_at total bytes))
      (record { pair = record { a = from.0; b = to.0 }; ray = ray.0 }, ray.1)

unfoldable pub pair_at : Sizes → ℕ → Option Pair → List ℕ → Result (Pair × List ℕ) CertFault
pair_at sizes total before bytes = do
  a ← number_below sizes.sectors total bytes
  b ← number_below sizes.sectors total a.1
  passed (nat_lt a.0 b.0 && pair_after before (record { a = a.0; b = b.0 })) (faults.NotSorted (begins_at total bytes)) (record { a = a.0; b = b.0 }, b.1)

-- an end, above the one before it
unfoldable pub end_at : ℕ → Option ℕ → List ℕ → Result (ℕ × List ℕ) CertFault
end_at total before bytes = do
  n ← number_at w16 total bytes
  passed (comes_after before n.0) (faults.NotSorted (begins_at total bytes)) n

unfoldable pub two_ends_at : ℕ → List ℕ → Result (Node × List ℕ) CertFault
two_ends_at total bytes = do
  a ← end_at total None bytes
  b ← end_at total (Some a.0) a.1
  Ok (Blocked (record { count = 2; ends = a.0 ∷ b.0 ∷ 0 ∷ 0 ∷ [] }), b.1)

unfoldable pub three_ends_at : ℕ → List ℕ → Result (Node × List ℕ) CertFault
three_ends_at total bytes = do
  a ← end_at total None bytes
  b ← end_at total (Some a.0) a.1
  c ← end_at total (Some b.0) b.1
  Ok (Blocked (record { count = 3; ends = a.0 ∷ b.0 ∷ c.0 ∷ 0 ∷ [] }), c.1)

unfoldable pub four_ends_at : ℕ → List ℕ → Result (Node × List ℕ) CertFault
four_ends_at total bytes = do
  a ← end_at total None bytes
  b ← end_at total (Some a.0) a.1
  c ← end_at total (Some b.0) b.1
  d ← end_at total (Some c.0) c.1
  Ok (Blocked (record { count = 4; ends = a.0 ∷ b.0 ∷ c.0 ∷ d.0 ∷ [] }), d.1)

-- 0 is an open node; 2, 3 or 4 is a blocked one, with so many ends behind it
unfoldable pub node_at : ℕ → List ℕ → Result (Node × List ℕ) CertFault
node_at total [] = Err (faults.Short (begins_at total []))
node_at total (k ∷ bytes) =
    if k == 0 then Ok (Open, bytes)
    else if k == 2 then two_ends_at total bytes
    else if k == 3 then three_ends_at total bytes
    else if k == 4 then four_ends_at total bytes
    else Err (faults.OutOfRange (begins_at total (k ∷ bytes)))

-- so many records, one behind the other; each is read with the key of the one before it
unfoldable pub records_at : {X K : Type 0} → (K → List ℕ → Result (X × List ℕ) CertFault) → (X → K) → K → ℕ → List ℕ → Result (List X × List ℕ) CertFault
records_at one key last zero bytes = Ok ([], bytes)
records_at one key last (suc n) bytes = do
  x ← one last bytes
  others ← records_at one key (key x.0) n x.1
  Ok (x.0 ∷ others.0, others.1)

abbrev pub triangles_at : Sizes → ℕ → Option Labelled → ℕ → List ℕ → Result (List Labelled × List ℕ) CertFault
triangles_at sizes total = records_at (triangle_at sizes total) (λ t. Some t)

abbrev pub rays_at : Sizes → ℕ → Option PairRay → ℕ → List ℕ → Result (List PairRay × List ℕ) CertFault
rays_at sizes total = records_at (ray_at sizes total) (λ r. Some r)

abbrev pub pairs_at : Sizes → ℕ → Option Pair → ℕ → List ℕ → Result (List Pair × List ℕ) CertFault
pairs_at sizes total = records_at (pair_at sizes total) (λ p. Some p)

-- nodes have no order
abbrev pub nodes_at : ℕ → ℕ → List ℕ → Result (List Node × List ℕ) CertFault
nodes_at total = records_at (λ (k : ℕ). node_at total) (λ n. 0) 0

-- the order of trees is told once the source has passed its range
unfoldable pub tree_at : Sizes → ℕ → Option ℕ → List ℕ → Result (Tree × List ℕ) CertFault
tree_at sizes total last bytes = do
  source ← number_below sizes.sectors total bytes
  sorted ← passed (comes_after last source.0) (faults.NotSorted (begins_at total bytes)) source
  count ← number_at w64 total sorted.1
  nodes ← nodes_at total count.0 count.1
  Ok (record { source = sorted.0; nodes = nodes.0 }, nodes.1)

abbrev pub trees_at : Sizes → ℕ → Option ℕ → ℕ → List ℕ → Result (List Tree × List ℕ) CertFault
trees_at sizes total = records_at (tree_at sizes total) (λ t. Some t.source)

-- ---- the whole

-- the number that the four letters of the magic spell
abbrev pub cert_magic : ℕ
cert_magic = 1413698372

unfoldable pub magic_at : ℕ → List ℕ → Result (List ℕ) CertFault
magic_at total bytes = do
  n ← number_at w32 total bytes
  passed (n.0 == cert_magic) faults.BadMagic n.1

unfoldable pub version_at : ℕ → List ℕ → Result (List ℕ) CertFault
version_at total bytes = do
  n ← number_at w16 total bytes
  passed (n.0 == 1) faults.BadVersion n.1

-- at most as many triangles as a map of so many points may have
unfoldable pub triangle_count_at : ℕ → ℕ → List ℕ → Result (ℕ × List ℕ) CertFault
triangle_count_at points total bytes = do
  n ← number_at w32 total bytes
  passed (not (nat_lt (most_triangles points) n.0)) (faults.OutOfRange (begins_at total bytes)) n

-- magic, version and sizes
unfoldable pub front_at : Sizes → ℕ → List ℕ → Result (List ℕ) CertFault
front_at sizes total bytes = do
  m ← magic_at total bytes
  v ← version_at total m
  sectors ← number_known sizes.sectors total v
  points ← number_known sizes.points total sectors
  number_known sizes.lines total points

-- how many records there are of each kind
pub record RecordCounts : Type 0 where
  pub triangles : ℕ
  pub rays : ℕ
  pub listed : ℕ
  pub trees : ℕ

unfoldable pub counts_at : ℕ → ℕ → List ℕ → Result (RecordCounts × List ℕ) CertFault
counts_at points total bytes = do
  triangles ← triangle_count_at points total bytes
  rays ← number_at w32 total triangles.1
  listed ← number_at w32 total rays.1
  trees ← number_at w32 total listed.1
  Ok (record { triangles = triangles.0; rays = rays.0; listed = listed.0; trees = trees.0 }, trees.1)

-- the certificate that all of the bytes spell, or the first fault
unfoldable pub reading : Sizes → List ℕ → Result CertParts CertFault
reading sizes bytes = do
  front ← front_at sizes (length bytes) bytes
  counts ← counts_at sizes.points (length bytes) front
  triangles ← triangles_at sizes (length bytes) None counts.0.triangles counts.1
  rays ← rays_at sizes (length bytes) None counts.0.rays triangles.1
  listed ← pairs_at sizes (length bytes) None counts.0.listed rays.1
  trees ← trees_at sizes (length bytes) None counts.0.trees listed.1
  passed (length trees.1 == 0) (faults.Trailing (begins_at (length bytes) trees.1))
      (record { sizes = sizes; triangles = triangles.0; rays = rays.0; listed = listed.0; trees = trees.0 })
