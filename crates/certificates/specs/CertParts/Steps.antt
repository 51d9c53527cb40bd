-- One record after the other: the part that comes first, what is awaited behind it, and how many bytes it takes.
use Rattle.std.specs.Prelude.{ℕ, ◌-◌, List, [], ◌∷◌, Option, Some, None, Result, Ok, Err, Bool, true, false, nat_lt, not, ◌==◌, ◌&&◌, if◌then◌else◌}
use Rattle.std.specs.Int.{w64}
use Rattle.sight_names.specs.declared.faults.CertFault.{CertFault}
use Rattle.sight_names.specs.declared.faults.CertFault.TheVariants as faults
use Rattle.cert_format.specs.declared.cert.Sizes.{Sizes}
use Rattle.cert_format.specs.Reading.{◌>>=◌, begins_at, passed, comes_after, number_at, number_below, triangle_at, ray_at, pair_at, node_at}
use Rattle.cert_format.specs.declared.cert_groups.cert.FrontTwo.{FrontTwo}
use Rattle.certificates.specs.declared.cert_parts.awaited.Awaited.{Awaited}
use Rattle.certificates.specs.declared.cert_parts.part.Part.{Part}
use Rattle.certificates.specs.declared.cert_parts.part.Part.TheVariants as parts
use Rattle.certificates.specs.CertParts.Left.{header_at, all_awaited}

-- nothing was read yet
abbrev pub none_read : Sizes → Awaited
none_read sizes = record {
  sizes = sizes;
  map_sizes = sizes;
  begun = false;
  triangles = 0;
  rays = 0;
  listed = 0;
  trees = 0;
  nodes = 0;
  last_triangle = None;
  last_ray = None;
  last_pair = None;
  last_source = None;
}

-- behind the groups of version 2 all records are awaited that the front counts
abbrev pub two_awaited : Sizes → FrontTwo → Awaited
two_awaited sizes front = record {
  sizes = front.sizes;
  map_sizes = sizes;
  begun = true;
  triangles = front.counts.triangles;
  rays = front.counts.rays;
  listed = front.counts.listed;
  trees = front.counts.trees;
  nodes = 0;
  last_triangle = None;
  last_ray = None;
  last_pair = None;
  last_source = None;
}

-- no record is awaited any more
abbrev pub is_done : Awaited → Bool
is_done a = a.begun && a.triangles == 0 && a.rays == 0 && a.listed == 0 && a.nodes == 0 && a.trees == 0

-- a node comes next
abbrev pub is_in_tree : Awaited → Bool
is_in_tree a = a.begun && a.triangles == 0 && a.rays == 0 && a.listed == 0 && nat_lt 0 a.nodes

-- ---- the first record; the header has no part

-- the source of a tree and how many nodes it has
unfoldable pub head_at : Sizes → ℕ → Option ℕ → List ℕ → Result ((ℕ × ℕ) × List ℕ) CertFault
head_at sizes total last bytes = do
  source ← number_below sizes.sectors total bytes
  sorted ← passed (comes_after last source.0) (faults.NotSorted (begins_at total bytes)) source
  count ← number_at w64 total sorted.1
  Ok ((sorted.0, count.0), count.1)

abbrev pub FirstRead : Type 0
FirstRead = Result ((Option Part × Awaited) × List ℕ) CertFault

-- what is made of a record: its part, and what is awaited behind it
abbrev pub as_first : {X : Type 0} → Result (X × List ℕ) CertFault → (X → Option Part) → (X → Awaited) → FirstRead
as_first read part next = read >>= λ x. Ok ((part x.0, next x.0), x.1)

unfoldable pub header_step : Awaited → ℕ → List ℕ → FirstRead
header_step a total bytes = as_first (header_at a.sizes total bytes) (λ x. None) (λ x. all_awaited a.sizes x)

unfoldable pub triangle_step : Awaited → ℕ → List ℕ → FirstRead
triangle_step a total bytes = as_first (triangle_at a.sizes total a.last_triangle bytes) (λ x. Some (parts.Triangle x)) (λ x. record a { triangles = a.triangles - 1; last_triangle = Some x })

unfoldable pub ray_step : Awaited → ℕ → List ℕ → FirstRead
ray_step a total bytes = as_first (ray_at a.sizes total a.last_ray bytes) (λ x. Some (parts.Ray x)) (λ x. record a { rays = a.rays - 1; last_ray = Some x })

unfoldable pub pair_step : Awaited → ℕ → List ℕ → FirstRead
pair_step a total bytes = as_first (pair_at a.map_sizes total a.last_pair bytes) (λ x. Some (parts.Listed x)) (λ x. record a { listed = a.listed - 1; last_pair = Some x })

unfoldable pub node_step : Awaited → ℕ → List ℕ → FirstRead
node_step a total bytes = as_first (node_at total bytes) (λ x. Some (parts.Node x)) (λ x. record a { nodes = a.nodes - 1 })

unfoldable pub head_step : Awaited → ℕ → List ℕ → FirstRead
head_step a total bytes = as_first (head_at a.sizes total a.last_source bytes) (λ x. Some (parts.Tree x.0 x.1)) (λ x. record a { trees = a.trees - 1; nodes = x.1; last_source = Some x.0 })

-- the nodes of a tree come before the next tree; a byte behind all records is a fault
unfoldable pub first_at : Awaited → ℕ → List ℕ → FirstRead
first_at a total bytes =
    if not a.begun then header_step a total bytes
    else if nat_lt 0 a.triangles then triangle_step a total bytes
    else if nat_lt 0 a.rays then ray_step a total bytes
    else if nat_lt 0 a.listed then pair_step a total bytes
    else if nat_lt 0 a.nodes then node_step a total bytes
    else if nat_lt 0 a.trees then head_step a total bytes
    else Err (faults.Trailing (begins_at total bytes))

-- ---- how many bytes it takes

-- a node that begins with this byte: it and two bytes an end; one where no node does
abbrev pub node_width : ℕ → ℕ
node_width first = if first == 0 then 1 else if first == 2 then 5 else if first == 3 then 7 else if first == 4 then 9 else 1

abbrev pub first_width : List ℕ → ℕ
first_width [] = 1
first_width (first ∷ bytes) = node_width first

unfoldable pub width_at : Awaited → List ℕ → ℕ
width_at a bytes =
    if not a.begun then 28
    else if nat_lt 0 a.triangles then 8
    else if nat_lt 0 a.rays then 24
    else if nat_lt 0 a.listed then 4
    else if nat_lt 0 a.nodes then first_width bytes
    else if nat_lt 0 a.trees then 10
    else 1
