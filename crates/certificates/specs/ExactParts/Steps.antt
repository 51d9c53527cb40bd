-- One record after the other: the part that comes first, what is awaited behind it, and how many bytes it takes.
use Rattle.std.specs.Prelude.{ℕ, ◌-◌, List, length, Some, None, Result, Ok, Err, Bool, nat_lt, ◌==◌, ◌&&◌, if◌then◌else◌}
use Rattle.std.specs.Int.{w64}
use Rattle.sight_names.specs.declared.faults.CertFault.{CertFault}
use Rattle.sight_names.specs.declared.faults.CertFault.TheVariants as faults
use Rattle.cert_format.specs.Reading.{◌>>=◌, begins_at, number_at, triangle_at, ray_at, node_at}
use Rattle.certificates.specs.CertParts.Steps.{first_width}
use Rattle.certificates.specs.declared.exact_parts.awaited.Awaited.{Awaited}
use Rattle.certificates.specs.declared.exact_parts.front.FrontThree.{FrontThree}
use Rattle.certificates.specs.declared.exact_parts.part.Part.{Part}
use Rattle.certificates.specs.declared.exact_parts.part.Part.TheVariants as parts
use Rattle.certificates.specs.ExactParts.Left.{TreesLeft, first_or_zero, put_length, settled, shorter}

-- behind the groups all records are awaited that the front counts
abbrev pub all_awaited : FrontThree → Awaited
all_awaited front = record {
  sizes = front.sizes;
  triangles = front.counts.triangles;
  rays = front.counts.rays;
  lengths = front.counts.groups;
  last_triangle = None;
  last_ray = None;
}

-- no record is awaited any more
abbrev pub is_done : Awaited → TreesLeft → Bool
is_done a t = a.triangles == 0 && a.rays == 0 && a.lengths == 0 && first_or_zero t.lengths == 0

-- ---- the first record

-- a part, what is awaited behind it, and the bytes behind it
abbrev pub StepOf : Type 0 → Type 0
StepOf X = Result ((Part × X) × List ℕ) CertFault

abbrev pub as_step : {X Y : Type 0} → Result (X × List ℕ) CertFault → (X → Part) → (X → Y) → StepOf Y
as_step read part next = read >>= λ x. Ok ((part x.0, next x.0), x.1)

unfoldable pub triangle_step : Awaited → ℕ → List ℕ → StepOf Awaited
triangle_step a total bytes = as_step (triangle_at a.sizes total a.last_triangle bytes) (λ x. parts.Triangle x) (λ x. record a { triangles = a.triangles - 1; last_triangle = Some x })

unfoldable pub ray_step : Awaited → ℕ → List ℕ → StepOf Awaited
ray_step a total bytes = as_step (ray_at a.sizes total a.last_ray bytes) (λ x. parts.Ray x) (λ x. record a { rays = a.rays - 1; last_ray = Some x })

abbrev pub Ahead : Type 0
Ahead = Awaited × TreesLeft

unfoldable pub length_step : Awaited → TreesLeft → ℕ → List ℕ → StepOf Ahead
length_step a t total bytes = as_step (number_at w64 total bytes) (λ n. parts.Length) (λ n. (record a { lengths = a.lengths - 1 }, settled (put_length n t)))

-- a node of the first tree, where these are its bytes, or those up to the end of the tree
unfoldable pub node_step : TreesLeft → ℕ → List ℕ → StepOf TreesLeft
node_step t total bytes = node_at total bytes >>= λ x. Ok ((parts.Node t.source x.0, settled (shorter (length bytes - length x.1) t)), x.1)

-- the trees stay, or what comes before them does
abbrev pub before_trees : TreesLeft → StepOf Awaited → StepOf Ahead
before_trees t step = step >>= λ x. Ok ((x.0.0, (x.0.1, t)), x.1)

abbrev pub in_trees : Awaited → StepOf TreesLeft → StepOf Ahead
in_trees a step = step >>= λ x. Ok ((x.0.0, (a, x.0.1)), x.1)

-- a byte behind all records is a fault
unfoldable pub first_at : Awaited → TreesLeft → ℕ → List ℕ → StepOf Ahead
first_at a t total bytes =
    if nat_lt 0 a.triangles then before_trees t (triangle_step a total bytes)
    else if nat_lt 0 a.rays then before_trees t (ray_step a total bytes)
    else if nat_lt 0 a.lengths then length_step a t total bytes
    else if nat_lt 0 (first_or_zero t.lengths) then in_trees a (node_step t total bytes)
    else Err (faults.Trailing (begins_at total bytes))

-- without the bytes behind it
abbrev pub without_rest : {X : Type 0} → Result (X × List ℕ) CertFault → Result X CertFault
without_rest read = read >>= λ x. Ok x.0

-- ---- how many bytes it takes

-- a node of this width, of so many bytes that are left of its tree; one where none is left
abbrev pub room_for : ℕ → ℕ → ℕ
room_for width left = if left == 0 then 1 else if nat_lt left width then left else width

unfoldable pub width_at : Awaited → TreesLeft → List ℕ → ℕ
width_at a t bytes =
    if nat_lt 0 a.triangles then 8
    else if nat_lt 0 a.rays then 24
    else if nat_lt 0 a.lengths then 8
    else room_for (first_width bytes) (first_or_zero t.lengths)
